-- A number is that of its digits after leading zeros, and more than 18 of these make a long one.
use Rattle.std.proofs.Common.{◌≡◌, ℕ, zero, suc, ◌+◌, ◌-◌, ◌*◌, ◌^◌, ◌<◌, ◌≤◌, ◌==◌, Bool, true, false, cond, nat_lt, nat_le, ℤ, pos, neg_ℤ, nat_abs, List, [], ◌∷◌, length, take, drop, Some, refl, sym, ap, subst, ◌∙◌, arith, pow-suc, mul_assoc}
use Rattle.std.specs.Char.{is_ascii_digit}
use Rattle.std.specs.List.{fold, list_all, prefix_len}
use Rattle.std.specs.Option.{option_map}
use Rattle.std.proofs.lemmas.Bool.{and_parts, and_from, leb-true, lt-ltb, le-ltb, eqb-true, eqb-false, cond-true}
use Rattle.std.proofs.lemmas.Nat.{mul-le}
use Rattle.std.proofs.Math.Nat.{pow-le-pow_right}
use Rattle.std.proofs.Math.Numerals.{one-add}
use Rattle.grid_text.specs.Numbers.{digits_number, is_zero_fraction, natural_in, is_negative, unsigned}
use Rattle.grid_text.specs.Wholes.{significant, IsNatural, IsWhole}
use Rattle.grid_text.specs.declared.numbers.Natural.TheVariants as naturals
use Rattle.grid_text.specs.declared.numbers.Whole.TheVariants as wholes

-- the number that digits make after another
abbrev after : ℕ → List ℕ → ℕ
after n digits = fold (λ n b. 10 * n + (b - 48)) n digits

grow : (n : ℕ) (digits : List ℕ) → n * 10 ^ length digits ≤ after n digits
grow n [] = omega arith
grow n (b ∷ digits) =
    let p : ℕ = 10 ^ length digits in
    let next : 10 ^ suc (length digits) ≡ p * 10 = rw pow-suc refl in
    let more : 10 * n * p ≤ (10 * n + (b - 48)) * p = mul-le (10 * n) p (10 * n + (b - 48)) p (omega arith) (omega arith) in
    let same : n * 10 ^ suc (length digits) ≡ 10 * n * p = ap (λ q. n * q) next ∙ omega (arith, mul_assoc n p 10, mul_assoc 10 n p) in
    omega (arith, same, more, grow (10 * n + (b - 48)) digits)

drop_zeros : (w : Bool) (b p : ℕ) (digits : List ℕ) → (w ≡ true → b ≡ 48) → digits_number (drop p digits) ≡ digits_number digits → digits_number (drop (cond w (1 + p) 0) (b ∷ digits)) ≡ digits_number (b ∷ digits)
drop_zeros true b p digits zero_is e =
    let is : b ≡ 48 = zero_is refl in
    let start : 0 ≡ 10 * 0 + (b - 48) = omega (arith, is) in
    ap (λ k. digits_number (drop k (b ∷ digits))) (one-add p) ∙ e ∙ ap (λ m. after m digits) start
drop_zeros false b p digits zero_is e = refl

-- leading zeros count nothing
pub digits_number-significant : (digits : List ℕ) → digits_number (significant digits) ≡ digits_number digits
digits_number-significant [] = refl
digits_number-significant (b ∷ digits) =
    drop_zeros (b == 48) b (prefix_len (λ b. b == 48) digits) digits (eqb-true b 48) (digits_number-significant digits)

many_after_zeros : (w : Bool) (b p : ℕ) (digits : List ℕ) → (w ≡ true → b ≡ 48) → (w ≡ false → b ≡ 48 → ⊥) → 48 ≤ b → (18 < length (drop p digits) → 10 ^ 18 ≤ digits_number digits)
    → 18 < length (drop (cond w (1 + p) 0) (b ∷ digits)) → 10 ^ 18 ≤ digits_number (b ∷ digits)
many_after_zeros true b p digits is not least h l =
    let zero_is : b ≡ 48 = is refl in
    let start : 0 ≡ 10 * 0 + (b - 48) = omega (arith, zero_is) in
    let left : 18 < length (drop p digits) = subst (λ k. 18 < length (drop k (b ∷ digits))) (one-add p) l in
    subst (λ m. 10 ^ 18 ≤ after m digits) start (h left)
many_after_zeros false b p digits is not least h l =
    let first : 1 ≤ 10 * 0 + (b - 48) = omega (arith, least, not refl) in
    let few : 18 ≤ length digits = omega (arith, l) in
    let size : 10 ^ 18 ≤ 10 ^ length digits = pow-le-pow_right {n = 10} (omega arith) {i = 18} {j = length digits} few in
    let most : 1 * 10 ^ 18 ≤ (10 * 0 + (b - 48)) * 10 ^ length digits = mul-le 1 (10 ^ 18) (10 * 0 + (b - 48)) (10 ^ length digits) first size in
    omega (arith, most, grow (10 * 0 + (b - 48)) digits)

pub many_digits : (digits : List ℕ) → list_all is_ascii_digit digits ≡ true → 18 < length (significant digits) → 10 ^ 18 ≤ digits_number digits
many_digits [] h l = absurd (omega (arith, l))
many_digits (b ∷ digits) h l =
    let parts = and_parts (is_ascii_digit b) (list_all is_ascii_digit digits) h in
    let least : 48 ≤ b = leb-true 48 b (and_parts (nat_le 48 b) (nat_le b 57) parts.0).0 in
    many_after_zeros (b == 48) b (prefix_len (λ b. b == 48) digits) digits (eqb-true b 48) (eqb-false b 48) least (many_digits digits parts.1) l

passes_to : (w : Bool) (p : ℕ → Bool) (b k : ℕ) (bytes : List ℕ) → p b ≡ w → list_all p (take k bytes) ≡ true → list_all p (take (cond w (1 + k) 0) (b ∷ bytes)) ≡ true
passes_to true p b k bytes e h = ap (λ n. list_all p (take n (b ∷ bytes))) (one-add k) ∙ and_from (p b) (list_all p (take k bytes)) e h
passes_to false p b k bytes e h = refl

-- what stands before the first that fails passes
pub prefix_passes : (p : ℕ → Bool) (bytes : List ℕ) → list_all p (take (prefix_len p bytes) bytes) ≡ true
prefix_passes p [] = refl
prefix_passes p (b ∷ bytes) = passes_to (p b) p b (prefix_len p bytes) bytes refl (prefix_passes p bytes)

-- what is left of digits is digits
pub drop_passes : (p : ℕ → Bool) (k : ℕ) (bytes : List ℕ) → list_all p bytes ≡ true → list_all p (drop k bytes) ≡ true
drop_passes p zero bytes h = h
drop_passes p (suc k) [] h = refl
drop_passes p (suc k) (b ∷ bytes) h = drop_passes p k bytes (and_parts (p b) (list_all p bytes) h).1

pub digits_pass : (text digits found : List ℕ) (count : ℕ) → count ≡ prefix_len is_ascii_digit text → digits ≡ take count text → found ≡ significant digits → list_all is_ascii_digit found ≡ true
digits_pass text digits found count n d s =
    let all : list_all is_ascii_digit digits ≡ true = ap (list_all is_ascii_digit) (d ∙ ap (λ k. take k text) n) ∙ prefix_passes is_ascii_digit text in
    ap (list_all is_ascii_digit) s ∙ drop_passes is_ascii_digit (prefix_len (λ b. b == 48) digits) digits all

pub natural_is : (text digits fraction : List ℕ) (count : ℕ) → count ≡ prefix_len is_ascii_digit text → (count ≡ 0 → ⊥) → digits ≡ take count text → fraction ≡ drop count text → is_zero_fraction fraction ≡ true
    → natural_in text ≡ Some (digits_number digits)
natural_is text digits fraction count n some d f zeros =
    let p : ℕ = prefix_len is_ascii_digit text in
    let positive : 0 < p = omega (arith, n, some) in
    let rest : is_zero_fraction (drop p text) ≡ true = ap is_zero_fraction (ap (λ k. drop k text) (sym n) ∙ sym f) ∙ zeros in
    cond-true _ _ _ (and_from (nat_lt 0 p) (is_zero_fraction (drop p text)) (lt-ltb 0 p positive) rest)
    ∙ ap (λ (ds : List ℕ). Some (digits_number ds)) (ap (λ k. take k text) (sym n) ∙ sym d)

pub short_natural : (text digits fraction found : List ℕ) (count number : ℕ) → count ≡ prefix_len is_ascii_digit text → (count ≡ 0 → ⊥) → digits ≡ take count text → fraction ≡ drop count text → is_zero_fraction fraction ≡ true
    → found ≡ significant digits → number ≡ digits_number found → number < 10 ^ 18 → IsNatural text (naturals.Short number)
short_natural text digits fraction found count number n some d f zeros s e l =
    (natural_is text digits fraction count n some d f zeros ∙ ap (λ (k : ℕ). Some k) (sym (e ∙ ap digits_number s ∙ digits_number-significant digits)), l)

pub long_natural : (text digits fraction found : List ℕ) (count : ℕ) → count ≡ prefix_len is_ascii_digit text → (count ≡ 0 → ⊥) → digits ≡ take count text → fraction ≡ drop count text → is_zero_fraction fraction ≡ true
    → found ≡ significant digits → 18 < length found → IsNatural text naturals.Long
long_natural text digits fraction found count n some d f zeros s l =
    let all : list_all is_ascii_digit digits ≡ true = ap (list_all is_ascii_digit) (d ∙ ap (λ k. take k text) n) ∙ prefix_passes is_ascii_digit text in
    (digits_number digits, natural_is text digits fraction count n some d f zeros, many_digits digits all (subst (λ (ds : List ℕ). 18 < length ds) s l))

abbrev signed : Bool → ℕ → ℤ
signed negative n = cond negative (neg_ℤ (pos n)) (pos n)

signed_abs : (negative : Bool) (n : ℕ) → nat_abs (signed negative n) ≡ n
signed_abs true zero = refl
signed_abs true (suc n) = refl
signed_abs false n = refl

pub long_whole : (text digits : List ℕ) → digits ≡ unsigned text → IsNatural digits naturals.Long → IsWhole text wholes.Long
long_whole text digits e h =
    (signed (is_negative text) h.0, ap (λ ds. option_map (signed (is_negative text)) (natural_in ds)) (sym e) ∙ ap (option_map (signed (is_negative text))) h.1, le-ltb (nat_abs (signed (is_negative text) h.0)) (10 ^ 18) (omega (arith, signed_abs (is_negative text) h.0, h.2)))
