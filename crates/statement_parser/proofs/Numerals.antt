-- Printed numbers are words that read as the same number.
use Rattle.std.proofs.Common.{◌≡◌, ℕ, suc, ◌<◌, ◌≤◌, ◌^◌, ℤ, pos, negsuc, Bool, true, false, not, ◌&&◌, [], ◌∷◌, Some, refl, sym, ap, ◌∙◌, arith, nat_eq}
use Rattle.std.specs.Prelude.{codes, bytes_eq, option_map, IsTrue}
use Rattle.std.specs.List.{list_all}
use Rattle.std.specs.Char.{is_ascii_digit, is_ascii_alphabetic, digit_value}
use Rattle.std.specs.Int.{IsInRange}
use Rattle.std.specs.Fmt.{decimal, signed_decimal}
use Rattle.std.specs.Str.Parse.{AllDigits, IsNumeral}
use Rattle.std.proofs.lemmas.Fmt.{decimal_is_IsNumeral}
use Rattle.std.proofs.lemmas.Str.Parse.{digit_from_value}
use Rattle.std.proofs.lemmas.Bool.Decides.{nat_tests}
use Rattle.map_nums.specs.Numbers.{is_value, vmin, vmax}
use Rattle.map_nums.proofs.Ranges.{value_small}
use Rattle.map_words.specs.Bytes.{Text, is_blank, is_mark, is_good}
use Rattle.map_words.specs.Names.{is_plain}
use Rattle.map_words.specs.Numbers.{number_text, unsigned_text, signed_text, are_digits, with_sign, if_between}
use Rattle.statement_parser.specs.Places.{value_of}

-- a digit, as a fact
abbrev pub IsDigit : ℕ → Type 0
IsDigit b = (48 ≤ b) × (b ≤ 57)

digit_is : (b : ℕ) → digit_value b < 10 → IsDigit b
digit_is b h = let r : IsInRange 48 57 b = digit_from_value b h in r

ascii_digit : (b : ℕ) → IsDigit b → is_ascii_digit b ≡ true
ascii_digit b h = grind (arith, nat_tests)

all_ascii : (t : Text) → AllDigits 10 t → list_all is_ascii_digit t ≡ true
all_ascii [] h = refl
all_ascii (b ∷ bs) h = rw (ascii_digit b (digit_is b h.0), all_ascii bs h.1) refl

are_digits_is : (t : Text) → IsNumeral 10 t → are_digits t ≡ true
are_digits_is [] h = absurd (omega arith)
are_digits_is (b ∷ bs) h = all_ascii (b ∷ bs) h.1

unsigned_is : (n : ℕ) → n < 2 ^ 64 → unsigned_text (decimal n) ≡ Some n
unsigned_is n lt =
    let h = decimal_is_IsNumeral n lt in
    rw (are_digits_is (decimal n) h.0) (ap (λ k. Some k) h.1)

-- a first byte that is P
record IsFirst (P : ℕ → Type 0) (t : Text) : Type 0 where
  pub byte : ℕ
  pub rest : Text
  pub whole : t ≡ byte ∷ rest
  pub within : P byte

first_of : (t : Text) → IsNumeral 10 t → IsFirst IsDigit t
first_of [] h = absurd (omega arith)
first_of (b ∷ bs) h = record { byte = b; rest = bs; whole = refl; within = digit_is b h.1.0 }

no_sign : (b : ℕ) (bs : Text) → IsDigit b → number_text (b ∷ bs) ≡ signed_text false (b ∷ bs)
unfolding number_text
no_sign b bs h =
    let e : nat_eq b 45 ≡ false = grind (arith, nat_tests) in
    let f : nat_eq b 43 ≡ false = grind (arith, nat_tests) in
    rw (e, f) refl

pub number_decimal : (n : ℕ) → n < 2 ^ 64 → number_text (decimal n) ≡ Some (pos n)
number_decimal n lt =
    let f = first_of (decimal n) (decimal_is_IsNumeral n lt).0 in
    ap number_text f.whole ∙ no_sign f.byte f.rest f.within ∙ ap (signed_text false) (sym f.whole) ∙ ap (option_map (with_sign false)) (unsigned_is n lt)

number_minus : (n : ℕ) → suc n < 2 ^ 64 → number_text (45 ∷ decimal (suc n)) ≡ Some (negsuc n)
unfolding number_text
number_minus n lt = ap (option_map (with_sign true)) (unsigned_is (suc n) lt)

-- a number that a cell may hold
pos_small : (n : ℕ) → IsTrue (is_value (pos n)) → n < 2 ^ 64
pos_small n h = let m = value_small (pos n) h in omega arith

neg_small : (n : ℕ) → IsTrue (is_value (negsuc n)) → suc n < 2 ^ 64
neg_small n h = let m = value_small (negsuc n) h in omega arith

number_value : (z : ℤ) → IsTrue (is_value z) → number_text (signed_decimal z) ≡ Some z
number_value (pos n) h = number_decimal n (pos_small n h)
number_value (negsuc n) h = number_minus n (neg_small n h)

pub value_back : (z : ℤ) → IsTrue (is_value z) → value_of (signed_decimal z) ≡ Some z
value_back z h = ap (if_between vmin vmax) (number_value z h) ∙ rw h refl

-- ---- as a word

-- the first byte of a printed number
abbrev IsSignOrDigit : ℕ → Type 0
IsSignOrDigit b = (45 ≤ b) × (b ≤ 57)

start_of : (z : ℤ) → IsTrue (is_value z) → IsFirst IsSignOrDigit (signed_decimal z)
start_of (pos n) h =
    let f = first_of (decimal n) (decimal_is_IsNumeral n (pos_small n h)).0 in
    let d = f.within in
    record { byte = f.byte; rest = f.rest; whole = f.whole; within = (omega arith, omega arith) }
start_of (negsuc n) h = record { byte = 45; rest = decimal (suc n); whole = refl; within = (omega arith, omega arith) }

no_letter : (b : ℕ) → IsSignOrDigit b → is_ascii_alphabetic b ≡ false
no_letter b h = grind (arith, nat_tests)

no_name : (b : ℕ) (bs : Text) → IsSignOrDigit b → is_plain (b ∷ bs) ≡ false
unfolding is_plain
no_name b bs h = rw (no_letter b h) refl

pub no_plain : (z : ℤ) → IsTrue (is_value z) → is_plain (signed_decimal z) ≡ false
no_plain z h = let s = start_of z h in ap is_plain s.whole ∙ no_name s.byte s.rest s.within

pub no_null : (z : ℤ) → IsTrue (is_value z) → bytes_eq (signed_decimal z) (codes "null") ≡ false
no_null z h =
    let s = start_of z h in
    let w = s.within in
    let e : nat_eq s.byte 110 ≡ false = grind (arith, nat_tests) in
    ap (λ t. bytes_eq t (codes "null")) s.whole ∙ rw e refl

-- bytes that only make a word longer
abbrev pub is_run_byte : ℕ → Bool
is_run_byte b = is_good b && not (is_blank b) && not (is_mark b)

sign_or_digit_run : (b : ℕ) → IsSignOrDigit b → is_run_byte b ≡ true
sign_or_digit_run b h = grind (arith, nat_tests)

digits_run : (t : Text) → AllDigits 10 t → list_all is_run_byte t ≡ true
digits_run [] h = refl
digits_run (b ∷ bs) h = let d = digit_is b h.0 in rw (sign_or_digit_run b (omega arith, omega arith), digits_run bs h.1) refl

pub number_run : (z : ℤ) → IsTrue (is_value z) → list_all is_run_byte (signed_decimal z) ≡ true
number_run (pos n) h = digits_run (decimal n) (decimal_is_IsNumeral n (pos_small n h)).0.1
number_run (negsuc n) h = rw (sign_or_digit_run 45 (omega arith, omega arith), digits_run (decimal (suc n)) (decimal_is_IsNumeral (suc n) (neg_small n h)).0.1) refl

pub number_some : (z : ℤ) → IsTrue (is_value z) → signed_decimal z ≡ [] → ⊥
number_some z h e = let s = start_of z h in let f : s.byte ∷ s.rest ≡ [] = sym s.whole ∙ e in cc
