-- When a word says the size of a sample.
use Rattle.std.proofs.Common.{◌≡◌, ◌<◌, ◌≤◌, ◌+◌, ◌-◌, ℕ, zero, suc, Bool, true, false, List, decimal, refl, ap, ◌∙◌, arith, bytes_eq, Some, None}
use Rattle.std.specs.List.{find, range_with_len}
use Rattle.map_machine.specs.Words.{sample_size}

-- the first of n numbers from a on that passes
find_none : (p : ℕ → Bool) (a n : ℕ) → ((j : ℕ) → j < n → p (a + j) ≡ false) → find p (range_with_len a n) ≡ None
find_none p a zero none = refl
find_none p a (suc n) none =
    let here : p a ≡ false = ap p (omega arith) ∙ none 0 (omega arith) in
    rw here (find_none p (a + 1) n (λ j within. ap p (omega arith) ∙ none (suc j) (omega (arith, within))))

find_first : (p : ℕ → Bool) (a n d : ℕ) → d < n → ((j : ℕ) → j < d → p (a + j) ≡ false) → p (a + d) ≡ true → find p (range_with_len a n) ≡ Some (a + d)
find_first p a zero d within before is = absurd (omega (arith, within))
find_first p a (suc n) zero within before is =
    let here : p a ≡ true = ap p (omega arith) ∙ is in
    rw here (ap Some (omega arith))
find_first p a (suc n) (suc d) within before is =
    let here : p a ≡ false = ap p (omega arith) ∙ before 0 (omega arith) in
    rw here (find_first p (a + 1) n d (omega (arith, within)) (λ j few. ap p (omega arith) ∙ before (suc j) (omega (arith, few))) (ap p (omega arith) ∙ is) ∙ ap Some (omega arith))

size_none : (word : List ℕ) (most : ℕ) → ((k : ℕ) → 1 ≤ k → k < most + 1 → bytes_eq word (decimal k) ≡ false) → find (λ n. bytes_eq word (decimal n)) (range_with_len 1 most) ≡ None
size_none word most none = find_none (λ n. bytes_eq word (decimal n)) 1 most (λ j within. none (1 + j) (omega arith) (omega (arith, within)))

size_some : (word : List ℕ) (most n : ℕ) → 1 ≤ n → n ≤ most → ((k : ℕ) → 1 ≤ k → k < n → bytes_eq word (decimal k) ≡ false) → bytes_eq word (decimal n) ≡ true
    → find (λ k. bytes_eq word (decimal k)) (range_with_len 1 most) ≡ Some n
size_some word most n some few before is =
    let there : 1 + (n - 1) ≡ n = omega (arith, some) in
    find_first (λ k. bytes_eq word (decimal k)) 1 most (n - 1) (omega (arith, some, few)) (λ j within. before (1 + j) (omega arith) (omega (arith, within))) (ap (λ k. bytes_eq word (decimal k)) there ∙ is) ∙ ap Some there

pub no_size : (word : List ℕ) → ((k : ℕ) → 1 ≤ k → k < 1225 → bytes_eq word (decimal k) ≡ false) → sample_size word ≡ None
no_size word none = size_none word 1224 none

pub some_size : (word : List ℕ) (n : ℕ) → 1 ≤ n → n ≤ 1224 → ((k : ℕ) → 1 ≤ k → k < n → bytes_eq word (decimal k) ≡ false) → bytes_eq word (decimal n) ≡ true → sample_size word ≡ Some n
some_size word n some few before is = size_some word 1224 n some few before is
