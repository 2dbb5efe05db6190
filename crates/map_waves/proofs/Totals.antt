-- Sums over the first numbers.
use Rattle.std.proofs.Common.{◌≡◌, ℕ, zero, suc, ◌+◌, ◌<◌, ◌≤◌, List, [], ◌∷◌, ◌⊎◌, inl, inr, refl, ap, ◌∙◌, arith}
use Rattle.std.specs.Prelude.{sum_by}
use Rattle.std.specs.List.{range_with_len}
use Rattle.std.proofs.lemmas.Bool.{cases_lt}
use Rattle.std.proofs.lemmas.List.Sums.{sum_by-cons}
use Rattle.map_waves.specs.Answers.{total_of}
use Rattle.map_waves.specs.Tasks.{AreBetween}

pub sum_next : (f : ℕ → ℕ) (a n : ℕ) → sum_by f (range_with_len a (suc n)) ≡ sum_by f (range_with_len a n) + f (a + n)
sum_next f a zero =
    let here = sum_by-cons f a [] in
    let same : f (a + 0) ≡ f a = let e : a + 0 ≡ a = omega arith in ap f e in
    omega arith
sum_next f a (suc n) =
    let rest = sum_next f (a + 1) n in
    let long = sum_by-cons f a (range_with_len (a + 1) (suc n)) in
    let short = sum_by-cons f a (range_with_len (a + 1) n) in
    let same : f (a + 1 + n) ≡ f (a + suc n) = let e : a + 1 + n ≡ a + suc n = omega arith in ap f e in
    omega (arith, rest, long, short, same)

pub total_suc : (f : ℕ → ℕ) (k : ℕ) → total_of f (suc k) ≡ total_of f k + f k
total_suc f k = sum_next f 0 k ∙ (let e : 0 + k ≡ k = omega arith in ap (λ i. total_of f k + f i) e)

pub total_next : (f : ℕ → ℕ) (k : ℕ) → total_of f (k + 1) ≡ total_of f k + f k
total_next f k = let same : k + 1 ≡ suc k = omega arith in ap (total_of f) same ∙ total_suc f k

pub total_start : (f : ℕ → ℕ) → total_of f 0 ≡ 0
total_start f = refl

pub total_rises : (f : ℕ → ℕ) (j k : ℕ) → j ≤ k → total_of f j ≤ total_of f k
total_rises f j zero h = let same : j ≡ 0 = omega arith in rw same (omega arith)
total_rises f j (suc k) h = go (cases_lt k j) (total_rises f j k)
  where
    go : (k < j) ⊎ (j ≤ k) → (j ≤ k → total_of f j ≤ total_of f k) → total_of f j ≤ total_of f (suc k)
    go (inl less) rest = let same : j ≡ suc k = omega arith in rw same (omega arith)
    go (inr more) rest = let low = rest more in let next = total_suc f k in omega (arith, low, next)

pub total_same : (f g : ℕ → ℕ) (n : ℕ) → ((i : ℕ) → i < n → f i ≡ g i) → total_of f n ≡ total_of g n
total_same f g zero same = refl
total_same f g (suc n) same =
    let rest = total_same f g n (λ i h. same i (omega arith)) in
    let left = total_suc f n in
    let right = total_suc g n in
    omega (arith, rest, same n (omega arith), left, right)

pub total_split : (f : ℕ → ℕ) (a b : ℕ) → total_of f (a + b) ≡ total_of f a + total_of (λ i. f (a + i)) b
total_split f a zero = let none = total_start (λ i. f (a + i)) in let same : a + 0 ≡ a = omega arith in ap (total_of f) same ∙ omega (arith, none)
total_split f a (suc b) =
    let rest = total_split f a b in
    let left = total_suc f (a + b) in
    let right = total_suc (λ i. f (a + i)) b in
    let same : a + suc b ≡ suc (a + b) = omega arith in
    ap (total_of f) same ∙ omega (arith, rest, left, right)

-- the sum over places that ascend is within that over all
pub places_within : (f : ℕ → ℕ) (stays : ℕ → Type 0) (low end : ℕ) (xs : List ℕ) → AreBetween stays low end xs → low ≤ end → sum_by f xs + total_of f low ≤ total_of f end
places_within f stays low end [] between h = let rises = total_rises f low end h in omega (arith, rises)
places_within f stays low end (x ∷ xs) between h =
    let from = between.0 in
    let below = between.1 in
    let sum = sum_by-cons f x xs in
    let next = total_suc f x in
    let rises = total_rises f low x from in
    omega (arith, places_within f stays (suc x) end xs between.3 (omega arith), sum, next, rises)
