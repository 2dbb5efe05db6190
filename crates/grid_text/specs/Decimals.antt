-- Decimals, which are kept as they are written.
use Rattle.std.specs.Prelude.{ℕ, ◌+◌, nat_le, ◌==◌, Bool, ◌&&◌, ◌||◌, List, length, take, drop, Option, Some, None, position, count_by}
use Rattle.std.specs.List.{list_all, list_any}
use Rattle.std.specs.Char.{is_ascii_digit}
use Rattle.grid_text.specs.Numbers.{are_digits, unsigned}

-- digits with at most one point among or beside them, and at least one digit
abbrev pub is_mantissa : List ℕ → Bool
is_mantissa text = list_all (λ b. is_ascii_digit b || (b == 46)) text && nat_le (count_by (λ b. b == 46) text) 1 && list_any is_ascii_digit text

-- e or E
abbrev pub is_exponent_mark : ℕ → Bool
is_exponent_mark b = b == 101 || b == 69

-- a mantissa, or a mantissa, the mark at this place and an exponent: digits after a sign or none
abbrev pub is_scaled : Option ℕ → List ℕ → Bool
is_scaled None text = is_mantissa text
is_scaled (Some at) text = is_mantissa (take at text) && are_digits (unsigned (drop (at + 1) text))

-- a decimal of at most 40 bytes
abbrev pub is_decimal : List ℕ → Bool
is_decimal text = nat_le (length text) 40 && is_scaled (position is_exponent_mark (unsigned text)) (unsigned text)
