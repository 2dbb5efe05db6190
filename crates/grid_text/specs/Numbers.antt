-- The whole numbers of a text.
use Rattle.std.specs.Prelude.{ℕ, ◌+◌, ◌-◌, ◌*◌, ◌^◌, nat_lt, ◌==◌, Bool, true, false, ◌&&◌, ◌||◌, ℤ, pos, negsuc, neg_ℤ, nat_abs, List, [], ◌∷◌, length, take, drop, Option, Some, None, if◌then◌else◌}
use Rattle.std.specs.Option.{option_map, option_and_then}
use Rattle.std.specs.List.{fold, list_all, prefix_len}
use Rattle.std.specs.Char.{is_ascii_digit}

-- one or more digits
abbrev pub are_digits : List ℕ → Bool
are_digits text = nat_lt 0 (length text) && list_all is_ascii_digit text

-- the number that digits stand for
abbrev pub digits_number : List ℕ → ℕ
digits_number text = fold (λ n b. 10 * n + (b - 48)) 0 text

-- + or -
abbrev pub is_sign : ℕ → Bool
is_sign b = b == 43 || b == 45

-- what follows a sign, if there is one
abbrev pub unsigned : List ℕ → List ℕ
unsigned [] = []
unsigned (b ∷ text) = if is_sign b then text else b ∷ text

abbrev pub is_negative : List ℕ → Bool
is_negative [] = false
is_negative (b ∷ text) = b == 45

-- nothing, or a point and any number of zeros
abbrev pub is_zero_fraction : List ℕ → Bool
is_zero_fraction [] = true
is_zero_fraction (b ∷ zeros) = (b == 46) && list_all (λ z. z == 48) zeros

-- one or more digits, with a point and zeros after them or without
abbrev pub natural_in : List ℕ → Option ℕ
natural_in text =
    let count = prefix_len is_ascii_digit text in
    if nat_lt 0 count && is_zero_fraction (drop count text) then Some (digits_number (take count text)) else None

-- the whole number that a token is, however long
abbrev pub whole_in : List ℕ → Option ℤ
whole_in text = option_map (λ n. if is_negative text then neg_ℤ (pos n) else pos n) (natural_in (unsigned text))

-- at most 18 digits after leading zeros
abbrev pub is_short : ℤ → Bool
is_short z = nat_lt (nat_abs z) (10 ^ 18)

-- a header's whole number
abbrev pub number_in : List ℕ → Option ℤ
number_in text = option_and_then (λ z. if is_short z then Some z else None) (whole_in text)

-- a number that is not negative
abbrev pub not_negative : ℤ → Option ℕ
not_negative (pos n) = Some n
not_negative (negsuc n) = None

-- a header's number of rows or columns
abbrev pub count_in : List ℕ → Option ℕ
count_in text = option_and_then not_negative (number_in text)
