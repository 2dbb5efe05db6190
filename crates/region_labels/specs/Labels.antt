-- How a label is kept in 32 bits.
use Rattle.std.specs.Prelude.{◌≡◌, ℕ, zero, suc, ℤ, pos, negsuc, Option, Some, None, refl}

-- the label that a number keeps
abbrev pub kept_label : ℕ → Option ℤ
kept_label zero = None
kept_label (suc place) = Some (pos (suc place))

-- the number that keeps a label
abbrev pub number_of : Option ℤ → ℕ
number_of None = 0
number_of (Some (pos n)) = n
number_of (Some (negsuc n)) = 0

pub number_back : (n : ℕ) → number_of (kept_label n) ≡ n
number_back zero = refl
number_back (suc place) = refl
