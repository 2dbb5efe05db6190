-- A decimal is a word.
use Rattle.std.proofs.Common.{◌≡◌, ℕ, ◌+◌, ◌<◌, ◌==◌, Bool, true, false, ◌&&◌, ◌||◌, nat_le, List, [], ◌∷◌, ◌++◌, length, take, drop, get_or, Option, Some, None, refl, sym, ap, ◌∙◌, inl, inr, arith, add-one, drop-cons}
use Rattle.std.specs.Prelude.{◌⊎◌, position, count_by, nat_lt, if◌then◌else◌}
use Rattle.std.specs.Char.{is_ascii_digit}
use Rattle.std.specs.List.{list_all, list_any}
use Rattle.std.proofs.lemmas.Bool.{and_parts, and_from, ltb-true, eqb-true}
use Rattle.std.proofs.lemmas.List.{take-append-drop}
use Rattle.std.proofs.lemmas.List.Folds.{list_all-append}
use Rattle.std.proofs.lemmas.List.Quantifiers.{position-Some}
use Rattle.grid_text.specs.Headers.{IsDecimal}
use Rattle.grid_text.specs.Numbers.{is_sign, unsigned, are_digits}
use Rattle.grid_text.specs.Decimals.{is_mantissa, is_exponent_mark, is_scaled}
use Rattle.grid_text.proofs.WordTexts.{IsWord, is_solid, list_all-weaker, solid_above, digit_solid}

some_digit : (text : List ℕ) → list_any is_ascii_digit text ≡ true → 0 < length text
some_digit [] h = absurd cc
some_digit (b ∷ text) h = omega arith

or_either : (x y : Bool) → (x || y) ≡ true → (x ≡ true) ⊎ (y ≡ true)
or_either true y h = inl refl
or_either false y h = inr h

mantissa_byte : (b : ℕ) → (is_ascii_digit b || (b == 46)) ≡ true → is_solid b ≡ true
mantissa_byte b h =
    elim (or_either (is_ascii_digit b) (b == 46) h) [
      | inl d ↦ digit_solid b d
      | inr p ↦ solid_above b (omega (arith, eqb-true b 46 p))
    ]

mantissa_word : (text : List ℕ) → is_mantissa text ≡ true → IsWord text
mantissa_word text h =
    let parts = and_parts (list_all (λ b. is_ascii_digit b || (b == 46)) text && nat_le (count_by (λ b. b == 46) text) 1) (list_any is_ascii_digit text) h in
    let all = (and_parts (list_all (λ b. is_ascii_digit b || (b == 46)) text) (nat_le (count_by (λ b. b == 46) text) 1) parts.0).0 in
    record { some = some_digit text parts.1; solid = list_all-weaker (λ b. is_ascii_digit b || (b == 46)) is_solid mantissa_byte text all }

sign_solid : (b : ℕ) → is_sign b ≡ true → is_solid b ≡ true
sign_solid b h =
    elim (or_either (b == 43) (b == 45) h) [
      | inl p ↦ solid_above b (omega (arith, eqb-true b 43 p))
      | inr p ↦ solid_above b (omega (arith, eqb-true b 45 p))
    ]

after_sign : (w : Bool) (b : ℕ) (text : List ℕ) → (w ≡ true → is_solid b ≡ true) → IsWord (if w then text else b ∷ text) → IsWord (b ∷ text)
after_sign true b text s h = record { some = omega arith; solid = and_from (is_solid b) (list_all is_solid text) (s refl) h.solid }
after_sign false b text s h = h

-- a word after a sign is one with it
unsigned_word : (text : List ℕ) → IsWord (unsigned text) → IsWord text
unsigned_word [] h = h
unsigned_word (b ∷ text) h = after_sign (is_sign b) b text (sign_solid b) h

digits_word : (text : List ℕ) → are_digits text ≡ true → IsWord text
digits_word text h =
    let parts = and_parts (nat_lt 0 (length text)) (list_all is_ascii_digit text) h in
    record { some = ltb-true 0 (length text) parts.0; solid = list_all-weaker is_ascii_digit is_solid digit_solid text parts.1 }

mark_solid : (b : ℕ) → is_exponent_mark b ≡ true → is_solid b ≡ true
mark_solid b h =
    elim (or_either (b == 101) (b == 69) h) [
      | inl p ↦ solid_above b (omega (arith, eqb-true b 101 p))
      | inr p ↦ solid_above b (omega (arith, eqb-true b 69 p))
    ]

scaled_word : (at : Option ℕ) (text : List ℕ) → position is_exponent_mark text ≡ at → is_scaled at text ≡ true → IsWord text
scaled_word None text e h = mantissa_word text h
scaled_word (Some i) text e h =
    let parts = and_parts (is_mantissa (take i text)) (are_digits (unsigned (drop (i + 1) text))) h in
    let front = mantissa_word (take i text) parts.0 in
    let back = unsigned_word (drop (i + 1) text) (digits_word (unsigned (drop (i + 1) text)) parts.1) in
    let mark = position-Some is_exponent_mark text i 0 e in
    let rest : drop i text ≡ get_or text i 0 ∷ drop (i + 1) text = let l : i < length text = mark.0 in rw (add-one) (drop-cons text i 0 l) in
    let all : list_all is_solid (take i text ++ drop i text) ≡ true =
    list_all-append is_solid (take i text) (drop i text)
    ∙ and_from (list_all is_solid (take i text)) (list_all is_solid (drop i text)) front.solid
    (ap (list_all is_solid) rest ∙ and_from (is_solid (get_or text i 0)) (list_all is_solid (drop (i + 1) text)) (mark_solid (get_or text i 0) mark.1) back.solid) in
    let whole : list_all is_solid text ≡ true = ap (list_all is_solid) (sym (take-append-drop i text)) ∙ all in
    record { some = omega (arith, mark.0); solid = whole }

pub decimal-word : (text : List ℕ) → IsDecimal text → IsWord text
decimal-word text h =
    let parts = and_parts (nat_le (length text) 40) (is_scaled (position is_exponent_mark (unsigned text)) (unsigned text)) h in
    unsigned_word text (scaled_word (position is_exponent_mark (unsigned text)) (unsigned text) refl parts.1)
