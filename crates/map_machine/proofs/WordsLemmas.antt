-- Where the word of a pair is cut.
use Rattle.std.proofs.Common.{◌≡◌, ◌≢◌, ◌<◌, ℕ, suc, List, [], ◌∷◌, ◌++◌, length, get_or, refl, Some, None, arith}
use Rattle.std.proofs.lemmas.Bool.{ne_eqb}
use Rattle.map_machine.specs.Pairs.{cut}

-- the bytes have no sign =
abbrev pub HasNoSign : List ℕ → Type 0
HasNoSign bytes = (i : ℕ) → i < length bytes → get_or bytes i 0 ≢ 61

no_sign_after : (b : ℕ) (bytes : List ℕ) → HasNoSign (b ∷ bytes) → HasNoSign bytes
no_sign_after b bytes none i within = none (suc i) (omega arith)

pub cut-none : (bytes : List ℕ) → HasNoSign bytes → cut bytes ≡ None
cut-none [] none = refl
cut-none (b ∷ bytes) none = rw (ne_eqb b 61 (none 0 (omega arith)), cut-none bytes (no_sign_after b bytes none)) refl

pub cut-at : (name file : List ℕ) → HasNoSign name → cut (name ++ 61 ∷ file) ≡ Some (record { name = name; file = file })
cut-at [] file none = refl
cut-at (b ∷ name) file none = rw (ne_eqb b 61 (none 0 (omega arith)), cut-at name file (no_sign_after b name none)) refl
