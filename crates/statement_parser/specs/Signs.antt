-- The bytes of labels' texts, and the signs of symbols.
use Rattle.std.specs.Prelude.{ℕ, nat_le, Bool, ◌&&◌, [], ◌∷◌, Option, Some, None, if◌then◌else◌}
use Rattle.map_words.specs.Bytes.{Text, is_good}

-- a printed byte that is no space
abbrev pub is_sign : ℕ → Bool
is_sign b = nat_le 33 b && nat_le b 126

-- a word of one byte
abbrev pub one_byte : (ℕ → Bool) → Text → Option ℕ
one_byte takes [] = None
one_byte takes (b ∷ []) = if takes b then Some b else None
one_byte takes (b ∷ c ∷ bs) = None

abbrev pub byte_of : Text → Option ℕ
byte_of t = one_byte is_good t

abbrev pub sign_of : Text → Option ℕ
sign_of t = one_byte is_sign t
