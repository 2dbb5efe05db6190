-- Ascending lists of numbers.
use Rattle.std.proofs.Common.{◌≡◌, ◌≢◌, ℕ, zero, suc, ◌+◌, ◌<◌, ◌≤◌, Bool, true, false, cond, eqb, leb, ltb, List, [], ◌∷◌, ◌++◌, length, sym, refl, ap, ◌∙◌, subst, arith, eq-eqb, ne_eqb}
use Rattle.std.specs.Prelude.{sum_by}
use Rattle.std.proofs.lemmas.List.Sums.{sum_by-cons, sum_by_push}
use Rattle.std.proofs.lemmas.Bool.Decides.{nat_tests}
use native.Mathlib.Decide.{dec_le, ℕ_discrete}
use Rattle.std.specs.List.{range_with_len}
use Rattle.tile_workers.specs.Lists.{one_if, times, AscendsFrom, Ascends, put_in, merged}
use Rattle.tile_workers.specs.Rule.{once_below}

pub times-cons : (x y : ℕ) (xs : List ℕ) → times x (y ∷ xs) ≡ one_if (eqb y x) + times x xs
times-cons x y xs = sum_by-cons (λ z. one_if (eqb z x)) y xs

pub one_if_same : (x : ℕ) → one_if (eqb x x) ≡ 1
one_if_same x = ap one_if (eq-eqb x x refl)

pub one_if_apart : (x y : ℕ) → x ≢ y → one_if (eqb x y) ≡ 0
one_if_apart x y n = ap one_if (ne_eqb x y n)

pub times_snoc : (x y : ℕ) (xs : List ℕ) → times x (xs ++ y ∷ []) ≡ times x xs + one_if (eqb y x)
times_snoc x y xs = sum_by_push (λ z. one_if (eqb z x)) xs y

put_sum : (f : ℕ → ℕ) (x y : ℕ) (ys : List ℕ) (b : Bool) → sum_by f (put_in x ys) ≡ f x + sum_by f ys → sum_by f (cond b (x ∷ y ∷ ys) (y ∷ put_in x ys)) ≡ f x + sum_by f (y ∷ ys)
put_sum f x y ys true h = sum_by-cons f x (y ∷ ys)
put_sum f x y ys false h = omega (arith, sum_by-cons f y (put_in x ys), sum_by-cons f y ys)

pub sum_put_in : (f : ℕ → ℕ) (x : ℕ) (ys : List ℕ) → sum_by f (put_in x ys) ≡ f x + sum_by f ys
sum_put_in f x [] = sum_by-cons f x []
sum_put_in f x (y ∷ ys) = put_sum f x y ys (leb x y) (sum_put_in f x ys)

pub sum_merged : (f : ℕ → ℕ) (xs ys : List ℕ) → sum_by f (merged xs ys) ≡ sum_by f xs + sum_by f ys
sum_merged f [] ys = omega arith
sum_merged f (x ∷ xs) ys = let r = sum_merged f xs ys in omega (arith, sum_put_in f x (merged xs ys), sum_by-cons f x xs)

pub length_sum : (xs : List ℕ) → length xs ≡ sum_by (λ _. 1) xs
length_sum [] = refl
length_sum (x ∷ xs) = let r = length_sum xs in omega (arith, sum_by-cons (λ (_ : ℕ). 1) x xs)

pub length_merged : (xs ys : List ℕ) → length (merged xs ys) ≡ length xs + length ys
length_merged xs ys = omega (arith, length_sum (merged xs ys), length_sum xs, length_sum ys, sum_merged (λ _. 1) xs ys)

pub times_merged : (x : ℕ) (xs ys : List ℕ) → times x (merged xs ys) ≡ times x xs + times x ys
times_merged x xs ys = sum_merged (λ z. one_if (eqb z x)) xs ys

pub lower : (low low' : ℕ) (xs : List ℕ) → low' ≤ low → AscendsFrom low xs → AscendsFrom low' xs
lower low low' [] h a = tt
lower low low' (x ∷ xs) h a = let b = a.0 in (omega arith, a.1)

-- what is below the bound isn't in the list
pub not_below : (low x : ℕ) (xs : List ℕ) → AscendsFrom low xs → x < low → times x xs ≡ 0
not_below low x [] a h = refl
not_below low x (y ∷ ys) a h = let b = a.0 in let r = not_below (suc y) x ys a.1 (omega arith) in omega (arith, times-cons x y ys, one_if_apart y x (λ e. omega arith))

put_ascends : (low x y : ℕ) (ys : List ℕ) (d : Dec (x ≤ y)) → AscendsFrom low (y ∷ ys) → low ≤ x → times x (y ∷ ys) ≡ 0 → (y < x → AscendsFrom (suc y) (put_in x ys)) → AscendsFrom low (cond (leb x y) (x ∷ y ∷ ys) (y ∷ put_in x ys))
put_ascends low x y ys (yes d) a h none later =
    let apart : x ≢ y = λ e. omega (arith, times-cons x y ys, subst (λ (z : ℕ). one_if (eqb z x) ≡ 1) e (one_if_same x)) in
    let t : leb x y ≡ true = grind (arith, nat_tests) in
    subst (λ b. AscendsFrom low (cond b (x ∷ y ∷ ys) (y ∷ put_in x ys))) (sym t) (h, (omega arith, a.1))
put_ascends low x y ys (no d) a h none later =
    let t : leb x y ≡ false = grind (arith, nat_tests) in
    subst (λ b. AscendsFrom low (cond b (x ∷ y ∷ ys) (y ∷ put_in x ys))) (sym t) (a.0, later (omega arith))

pub put_in_ascends : (low x : ℕ) (ys : List ℕ) → AscendsFrom low ys → low ≤ x → times x ys ≡ 0 → AscendsFrom low (put_in x ys)
put_in_ascends low x [] a h none = (h, tt)
put_in_ascends low x (y ∷ ys) a h none = put_ascends low x y ys (dec_le x y) a h none
    (λ less. put_in_ascends (suc y) x ys a.1 (omega arith) (omega (arith, times-cons x y ys)))

pub merged_ascends : (low : ℕ) (xs ys : List ℕ) → AscendsFrom low xs → AscendsFrom low ys → ((x : ℕ) → times x xs + times x ys ≤ 1) → AscendsFrom low (merged xs ys)
merged_ascends low [] ys a b apart = b
merged_ascends low (x ∷ xs) ys a b apart =
    let low_x = a.0 in
    let one = apart x in
    let rest : (z : ℕ) → times z xs + times z ys ≤ 1 = λ z. let h = apart z in omega (arith, times-cons z x xs) in
    let below = lower (suc x) low xs (omega arith) a.1 in
    put_in_ascends low x (merged xs ys) (merged_ascends low xs ys below b rest) low_x
    (omega (arith, times_merged x xs ys, times-cons x x xs, one_if_same x))

pub snoc_ascends : (low n : ℕ) (xs : List ℕ) → AscendsFrom low xs → low ≤ n → ((x : ℕ) → 0 < times x xs → x < n) → AscendsFrom low (xs ++ n ∷ [])
snoc_ascends low n [] a h all = (h, tt)
snoc_ascends low n (x ∷ xs) a h all =
    let less : x < n = all x (omega (arith, times-cons x x xs, one_if_same x)) in
    (a.0, snoc_ascends (suc x) n xs a.1 (omega arith) (λ z m. all z (omega (arith, times-cons z x xs))))

pub once_below_yes : (x n : ℕ) → x < n → once_below x n ≡ 1
once_below_yes x n h = let t : ltb x n ≡ true = grind (arith, nat_tests) in ap one_if t

pub once_below_no : (x n : ℕ) → n ≤ x → once_below x n ≡ 0
once_below_no x n h = let t : ltb x n ≡ false = grind (arith, nat_tests) in ap one_if t

one_if_le : (b : Bool) → one_if b ≤ 1
one_if_le true = omega arith
one_if_le false = omega arith

pub once_below_le : (x n : ℕ) → once_below x n ≤ 1
once_below_le x n = one_if_le (ltb x n)

pub once_below_some : (x n : ℕ) → 0 < once_below x n → x < n
once_below_some x n h = elim (dec_le (suc x) n) [ yes d ↦ omega arith | no d ↦ absurd (omega (arith, once_below_no x n (omega arith))) ]

next_cases : (x n : ℕ) → Dec (x ≡ n) → Dec (suc x ≤ n) → once_below x (n + 1) ≡ once_below x n + one_if (eqb n x)
next_cases x n (yes e) d = let h : one_if (eqb n x) ≡ 1 = subst (λ (z : ℕ). one_if (eqb n z) ≡ 1) (sym e) (one_if_same n) in omega (arith, once_below_yes x (n + 1) (omega arith), once_below_no x n (omega arith))
next_cases x n (no ne) (yes d) = omega (arith, once_below_yes x (n + 1) (omega arith), once_below_yes x n (omega arith), one_if_apart n x (λ e. ne (sym e)))
next_cases x n (no ne) (no d) =
    let more : n < x = elim (dec_le (suc n) x) [ yes m ↦ omega arith | no m ↦ absurd (ne (omega arith)) ] in
    omega (arith, once_below_no x (n + 1) (omega arith), once_below_no x n (omega arith), one_if_apart n x (λ e. ne (sym e)))

pub once_below_next : (x n : ℕ) → once_below x (n + 1) ≡ once_below x n + one_if (eqb n x)
once_below_next x n = next_cases x n (ℕ_discrete x n) (dec_le (suc x) n)

run_is : (low n : ℕ) (xs : List ℕ) → AscendsFrom low xs → ((x : ℕ) → low ≤ x → x < low + n → times x xs ≡ 1) → ((x : ℕ) → low + n ≤ x → times x xs ≡ 0) → xs ≡ range_with_len low n
run_is low zero [] a in_run out = refl
run_is low zero (x ∷ xs) a in_run out = let b = a.0 in absurd (omega (arith, out x (omega arith), times-cons x x xs, one_if_same x))
run_is low (suc n) [] a in_run out = absurd (let none : times low [] ≡ 0 = refl in omega (arith, in_run low (omega arith) (omega arith)))
run_is low (suc n) (x ∷ xs) a in_run out =
    let b = a.0 in
    let same : x ≡ low = elim (dec_le x low) [ yes d ↦ omega arith | no d ↦ absurd (omega (arith, in_run low (omega arith) (omega arith), times-cons low x xs, one_if_apart x low (λ e. omega arith), not_below (suc x) low xs a.1 (omega arith))) ] in
    let above : AscendsFrom (low + 1) xs = lower (suc x) (low + 1) xs (omega arith) a.1 in
    let tail = run_is (low + 1) n xs above
    (λ z h less. let r = in_run z (omega arith) (omega arith) in omega (arith, times-cons z x xs, one_if_apart x z (λ e. omega arith)))
    (λ z h. let r = out z (omega arith) in omega (arith, times-cons z x xs, one_if_apart x z (λ e. omega arith))) in
    λ i. same i ∷ tail i

pub range_is : (n : ℕ) (xs : List ℕ) → Ascends xs → ((x : ℕ) → times x xs ≡ once_below x n) → xs ≡ range_with_len 0 n
range_is n xs a all = run_is 0 n xs a (λ x h less. all x ∙ once_below_yes x n (omega arith)) (λ x h. all x ∙ once_below_no x n (omega arith))
