-- Numbers that are printed are read as themselves.
use Rattle.std.proofs.Common.{◌≡◌, ◌≢◌, ℕ, suc, ◌+◌, ◌-◌, ◌*◌, ◌^◌, ◌<◌, ◌≤◌, ◌==◌, Bool, true, false, cond, ◌||◌, nat_le, ℤ, pos, negsuc, neg_ℤ, List, [], ◌∷◌, length, drop, Option, Some, None, decimal, refl, sym, ap, subst, ◌∙◌, arith}
use Rattle.std.specs.Prelude.{IsTrue}
use Rattle.std.specs.Char.{is_ascii_digit}
use Rattle.std.specs.Fmt.{signed_decimal, digits}
use Rattle.std.specs.List.{fold, list_all, prefix_len}
use Rattle.std.specs.Option.{option_map, option_and_then}
use Rattle.std.proofs.lemmas.Bool.{and_parts, and_from, ne_eqb, lt-ltb, le-leb, cond-true}
use Rattle.std.proofs.lemmas.Fmt.{decimal_nonempty, digits_decimal, digits_value-decimal}
use Rattle.std.proofs.lemmas.List.{take_all}
use Rattle.std.proofs.lemmas.Str.Parse.{IsDigitsTest, FoldsDigits, IsNumeralModel, numerals_by_fold}
use Rattle.std.proofs.Math.Numerals.{one-add}
use Rattle.map_nums.specs.Numbers.{is_value}
use Rattle.map_nums.proofs.Ranges.{value_small}
use Rattle.layer_tiles.specs.Cells.{IsCell}
use Rattle.grid_text.specs.Grammar.{IsCellText}
use Rattle.grid_text.specs.Numbers.{digits_number, natural_in, whole_in, is_short, number_in, count_in, not_negative}
use Rattle.grid_text.specs.Printed.{cell_text, null_number}
use Rattle.grid_text.proofs.Naturals.{natural_is}
use Rattle.grid_text.proofs.WordTexts.{IsWord, is_solid, list_all-weaker, digit_least, digit_solid}

abbrev AreDigits : List ℕ → Type 0
AreDigits text = list_all is_ascii_digit text ≡ true

digits_test : IsDigitsTest AreDigits
digits_test = record {
  empty = refl;
  parts = λ c cs h. let p = and_parts (is_ascii_digit c) (list_all is_ascii_digit cs) h in (digit_least c p.0, p.1);
  more = λ c cs r h. and_from (is_ascii_digit c) (list_all is_ascii_digit cs) (and_from (nat_le 48 c) (nat_le c 57) (le-leb 48 c r.0) (le-leb c 57 r.1)) h;
}

digits_fold : FoldsDigits (λ n text. fold (λ n b. 10 * n + (b - 48)) n text)
digits_fold = record {
  empty = λ n. refl;
  more = λ n c cs r. ap (λ m. fold (λ n b. 10 * n + (b - 48)) m cs) (omega arith);
}

digits_model : IsNumeralModel AreDigits (λ text. fold (λ n b. 10 * n + (b - 48)) 0 text)
digits_model = numerals_by_fold AreDigits digits_test (λ n text. fold (λ n b. 10 * n + (b - 48)) n text) digits_fold

pub decimal_digits : (n : ℕ) → n < 2 ^ 64 → list_all is_ascii_digit (decimal n) ≡ true
decimal_digits n h = digits_decimal digits_model n h

pub decimal_number : (n : ℕ) → n < 2 ^ 64 → digits_number (decimal n) ≡ n
decimal_number n h = digits_value-decimal digits_model n h

pub decimal_word : (n : ℕ) → n < 2 ^ 64 → IsWord (decimal n)
decimal_word n h = record { some = decimal_nonempty n h; solid = list_all-weaker is_ascii_digit is_solid digit_solid (decimal n) (decimal_digits n h) }

prefix_all : (p : ℕ → Bool) (text : List ℕ) → list_all p text ≡ true → prefix_len p text ≡ length text
prefix_all p [] h = refl
prefix_all p (b ∷ text) h =
    let parts = and_parts (p b) (list_all p text) h in
    cond-true _ _ _ parts.0 ∙ one-add (prefix_len p text) ∙ ap suc (prefix_all p text parts.1)

drop_whole : (text : List ℕ) → drop (length text) text ≡ []
drop_whole [] = refl
drop_whole (b ∷ text) = drop_whole text

pub natural_digits : (text : List ℕ) → 0 < length text → AreDigits text → natural_in text ≡ Some (digits_number text)
natural_digits text some h =
    natural_is text text [] (length text) (sym (prefix_all is_ascii_digit text h)) (λ e. omega (arith, some, e)) (sym (take_all (length text) text (omega arith))) (sym (drop_whole text)) refl

pub natural_decimal : (n : ℕ) → n < 2 ^ 64 → natural_in (decimal n) ≡ Some n
natural_decimal n h = natural_digits (decimal n) (decimal_nonempty n h) (decimal_digits n h) ∙ ap (λ (k : ℕ). Some k) (decimal_number n h)

whole_digits : (text : List ℕ) → 0 < length text → AreDigits text → whole_in text ≡ Some (pos (digits_number text))
whole_digits [] some h = absurd (omega arith)
whole_digits (b ∷ text) some h =
    let least : 48 ≤ b = (digit_least b (and_parts (is_ascii_digit b) (list_all is_ascii_digit text) h).0).0 in
    let plus : (b == 43) ≡ false = ne_eqb b 43 (λ e. omega (arith, e, least)) in
    let minus : (b == 45) ≡ false = ne_eqb b 45 (λ e. omega (arith, e, least)) in
    let start : whole_in (b ∷ text) ≡ option_map (λ n. pos n) (natural_in (b ∷ text)) =
    λ i. option_map (λ n. cond (minus i) (neg_ℤ (pos n)) (pos n)) (natural_in (cond (plus i || minus i) text (b ∷ text))) in
    start ∙ ap (option_map (λ n. pos n)) (natural_digits (b ∷ text) some h)

pub whole_decimal : (n : ℕ) → n < 2 ^ 64 → whole_in (decimal n) ≡ Some (pos n)
whole_decimal n h = whole_digits (decimal n) (decimal_nonempty n h) (decimal_digits n h) ∙ ap (λ (k : ℕ). Some (pos k)) (decimal_number n h)

whole_minus : (n : ℕ) → suc n < 2 ^ 64 → whole_in (45 ∷ decimal (suc n)) ≡ Some (negsuc n)
whole_minus n h = ap (option_map (λ n. neg_ℤ (pos n))) (natural_decimal (suc n) h)

pub count_decimal : (n : ℕ) → n ≤ 4096 → count_in (decimal n) ≡ Some n
count_decimal n l =
    ap (λ (o : Option ℤ). option_and_then not_negative (option_and_then (λ z. cond (is_short z) (Some z) None) o)) (whole_decimal n (omega (arith, l)))
    ∙ ap (option_and_then not_negative) (cond-true _ _ _ (lt-ltb n (10 ^ 18) (omega (arith, l))))

pub null_read : whole_in (signed_decimal null_number) ≡ Some null_number
unfolding digits
null_read = refl

pub null_in_header : number_in (signed_decimal null_number) ≡ Some null_number
unfolding digits
null_in_header = refl

pub null_word : IsWord (signed_decimal null_number)
unfolding digits
null_word = record { some = omega arith; solid = refl }

minus_word : (text : List ℕ) → IsWord text → IsWord (45 ∷ text)
minus_word text h = record { some = omega arith; solid = h.solid }

pub cell_word : (c : Option ℤ) → IsCell c → IsWord (cell_text c)
cell_word None h = null_word
cell_word (Some (pos n)) h = decimal_word n (omega (arith, value_small (pos n) h))
cell_word (Some (negsuc n)) h = minus_word (decimal (suc n)) (decimal_word (suc n) (omega (arith, value_small (negsuc n) h)))

not_null : (z : ℤ) → IsTrue (is_value z) → z ≢ null_number
not_null z h e = let v : IsTrue (is_value null_number) = subst (λ (k : ℤ). IsTrue (is_value k)) e h in absurd cc

-- a cell's text says the cell
pub cell_says : (c : Option ℤ) → IsCell c → IsCellText null_number (cell_text c) c
cell_says None h = null_read
cell_says (Some (pos n)) h = (whole_decimal n (omega (arith, value_small (pos n) h)), not_null (pos n) h, h)
cell_says (Some (negsuc n)) h = (whole_minus n (omega (arith, value_small (negsuc n) h)), not_null (negsuc n) h, h)
