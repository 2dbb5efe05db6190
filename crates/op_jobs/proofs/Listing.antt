-- Numbers that pass tests, in order.
use Rattle.std.proofs.Common.{◌≡◌, inl, inr, ℕ, zero, suc, ◌+◌, ◌<◌, ◌≤◌, Bool, true, false, cond, List, [], ◌∷◌, ◌++◌, length, get_or, refl, sym, ◌∙◌, ap, arith}
use Rattle.std.specs.Prelude.{not}
use Rattle.std.specs.List.{All, Contains, filter, range_with_len}
use Rattle.std.proofs.lemmas.Bool.{both_ways, cases_eq}
use Rattle.std.proofs.lemmas.List.Elements.{All-head, All-tail, filter_passes, filter-append}
use Rattle.std.proofs.lemmas.List.{get_or_default}
use Rattle.std.proofs.lemmas.List.Filters.{length-filter_both}
use Rattle.std.proofs.lemmas.List.FromFn.{get_or-range_with_len, length-range_with_len}

-- what holds of each number below n holds of each in the list of them
pub range_all : (P : ℕ → Type 0) (n : ℕ) → ((t : ℕ) → t < n → P t) → All P (range_with_len 0 n)
range_all P n h k d l =
    let m : k < n = omega (arith, l, length-range_with_len 0 n) in
    let is : get_or (range_with_len 0 n) k d ≡ k = get_or-range_with_len 0 n k d m ∙ omega arith in
    rw (is) (h k m)

-- tests that agree on a list
pub filter_same : {X : Type 0} (p q : X → Bool) (xs : List X) → All (λ x. p x ≡ q x) xs → filter p xs ≡ filter q xs
filter_same p q [] a = refl
filter_same {X} p q (x ∷ xs) a =
    let here : p x ≡ q x = All-head (λ x. p x ≡ q x) x xs a in
    let rest = filter_same p q xs (All-tail (λ x. p x ≡ q x) x xs a) in
    ap (λ b. cond b (x ∷ filter p xs) (filter p xs)) here ∙ ap (λ (ys : List X). cond (q x) (x ∷ ys) ys) rest

-- a test that no element fails
pub filter_all : {X : Type 0} (p : X → Bool) (xs : List X) → All (λ x. p x ≡ true) xs → filter p xs ≡ xs
filter_all p [] a = refl
filter_all {X} p (x ∷ xs) a =
    let here : p x ≡ true = All-head (λ x. p x ≡ true) x xs a in
    let rest = filter_all p xs (All-tail (λ x. p x ≡ true) x xs a) in
    ap (λ b. cond b (x ∷ filter p xs) (filter p xs)) here ∙ ap (λ ys. x ∷ ys) rest

-- a test that passes only what another passes
pub filter_within : {X : Type 0} (p q : X → Bool) (xs : List X) → All (λ x. p x ≡ true → q x ≡ true) xs → filter p (filter q xs) ≡ filter p xs
filter_within p q [] a = refl
filter_within {X} p q (x ∷ xs) a = which (p x) (q x) refl refl (filter_within p q xs (All-tail (λ x. p x ≡ true → q x ≡ true) x xs a))
  where
    which : (v w : Bool) → v ≡ p x → w ≡ q x → filter p (filter q xs) ≡ filter p xs → filter p (cond w (x ∷ filter q xs) (filter q xs)) ≡ cond v (x ∷ filter p xs) (filter p xs)
    which v true e f rest = ap (λ b. cond b (x ∷ filter p (filter q xs)) (filter p (filter q xs))) (sym e) ∙ ap (λ (ys : List X). cond v (x ∷ ys) ys) rest
    which true false e f rest = let g : q x ≡ true = All-head (λ x. p x ≡ true → q x ≡ true) x xs a (sym e) in let h = f ∙ g in absurd cc
    which false false e f rest = rest

pub filter_fewer : {X : Type 0} (p q : X → Bool) (xs : List X) → All (λ x. p x ≡ true → q x ≡ true) xs → length (filter p xs) ≤ length (filter q xs)
filter_fewer p q xs a = omega (arith, ap length (filter_within p q xs a), length-filter_both p (λ x. not (p x)) (λ x. refl) (filter q xs))

-- tests that agree below n
pub tests_same : (p q : ℕ → Bool) (n : ℕ) → ((t : ℕ) → t < n → p t ≡ q t) → filter p (range_with_len 0 n) ≡ filter q (range_with_len 0 n)
tests_same p q n same = filter_same p q (range_with_len 0 n) (range_all (λ t. p t ≡ q t) n same)

-- ---- one more number

pub range_more : (n : ℕ) → range_with_len 0 (n + 1) ≡ range_with_len 0 n ++ n ∷ []
range_more n = next 0 n ∙ ap (λ k. range_with_len 0 n ++ k ∷ []) (omega arith)
  where
    next : (a n : ℕ) → range_with_len a (n + 1) ≡ range_with_len a n ++ (a + n) ∷ []
    next a zero = ap (λ k. k ∷ []) (omega arith)
    next a (suc n) =
        let e : range_with_len a (suc n + 1) ≡ a ∷ range_with_len (a + 1) (n + 1) = ap (range_with_len a) (let q : suc n + 1 ≡ suc (n + 1) = omega arith in q) in
        e ∙ ap (λ ks. a ∷ ks) (next (a + 1) n ∙ ap (λ k. range_with_len (a + 1) n ++ k ∷ []) (omega arith))

pub filter_next : (p : ℕ → Bool) (n : ℕ) → filter p (range_with_len 0 (n + 1)) ≡ filter p (range_with_len 0 n) ++ cond (p n) (n ∷ []) []
filter_next p n = ap (filter p) (range_more n) ∙ filter-append p (range_with_len 0 n) (n ∷ [])

-- ---- what a list of those that pass has

pub nothing_in : (t : ℕ) → Contains [] t → ⊥
nothing_in t c = omega (arith, c.1)

pub in_all : (x : ℕ) (xs : List ℕ) (t : ℕ) → Contains xs t → Contains (x ∷ xs) t
in_all x xs t c = (suc c.0, omega (arith, c.1), c.2)

kept_in : (v : Bool) (x : ℕ) (xs : List ℕ) (t : ℕ) → Contains xs t → Contains (cond v (x ∷ xs) xs) t
kept_in true x xs t c = in_all x xs t c
kept_in false x xs t c = c

-- what it has passes
pub passes : (p : ℕ → Bool) (xs : List ℕ) (t : ℕ) → Contains (filter p xs) t → p t ≡ true
passes p xs t c = ap p (sym c.2) ∙ filter_passes p xs c.0 t c.1

-- it has all that pass
pub filter_has : (p : ℕ → Bool) (n k t : ℕ) → k ≤ t → t < k + n → p t ≡ true → Contains (filter p (range_with_len k n)) t
filter_has p zero k t a b e = absurd (omega (arith, a, b))
filter_has p (suc n) k t a b e = elim (cases_eq k t) as (λ _. Contains (filter p (range_with_len k (suc n))) t) [
  | inl f ↦ here (p k) (ap p f ∙ e) f
  | inr m ↦ kept_in (p k) k (filter p (range_with_len (k + 1) n)) t (filter_has p n (k + 1) t (omega (arith, a, m)) (omega (arith, b)) e)
]
  where
    here : (v : Bool) → v ≡ true → k ≡ t → Contains (cond v (k ∷ filter p (range_with_len (k + 1) n)) (filter p (range_with_len (k + 1) n))) t
    here true q f = (0, omega arith, f)
    here false q f = absurd (both_ways false refl q)

-- where a number that passes stands
pub listed : (p : ℕ → Bool) (n t : ℕ) → t < n → p t ≡ true → (k : ℕ) × (k < length (filter p (range_with_len 0 n))) × (get_or (filter p (range_with_len 0 n)) k 0 ≡ t)
listed p n t l e = let c = filter_has p n 0 t (omega arith) (omega (arith, l)) e in (c.0, c.1, get_or_default (filter p (range_with_len 0 n)) c.0 0 t c.1 ∙ c.2)
