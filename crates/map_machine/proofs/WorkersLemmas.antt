-- When a word says a number of workers.
use Rattle.std.proofs.Common.{◌≡◌, ◌<◌, ◌≤◌, ◌+◌, ◌-◌, ℕ, true, List, decimal, ap, ◌∙◌, arith, bytes_eq}
use Rattle.std.specs.List.{list_any, range_with_len}
use Rattle.std.proofs.lemmas.List.Folds.{list_any_at}
use Rattle.std.proofs.lemmas.List.FromFn.{length-range_with_len, get_or-range_with_len}
use Rattle.map_machine.specs.Words.{is_workers}

one_up_to : (word : List ℕ) (most n : ℕ) → 1 ≤ n → n ≤ most → bytes_eq word (decimal n) ≡ true
    → list_any (λ k. bytes_eq word (decimal k)) (range_with_len 1 most) ≡ true
one_up_to word most n some within is =
    let at : n - 1 < most = omega arith in
    let there : 1 + (n - 1) ≡ n = omega arith in
    list_any_at (λ k. bytes_eq word (decimal k)) (range_with_len 1 most) (n - 1) 0 (omega (arith, length-range_with_len 1 most))
    (ap (λ k. bytes_eq word (decimal k)) (get_or-range_with_len 1 most (n - 1) 0 at ∙ there) ∙ is)

pub some_workers : (word : List ℕ) (n : ℕ) → 1 ≤ n → n ≤ 64 → bytes_eq word (decimal n) ≡ true → is_workers word ≡ true
some_workers word n some within is = one_up_to word 64 n some within is
