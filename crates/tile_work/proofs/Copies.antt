-- How many tiles are copied.
use Rattle.std.proofs.Common.{◌≡◌, ℕ, zero, suc, ◌+◌, ◌<◌, ◌≤◌, inl, inr, Bool, true, false, cond, List, [], ◌∷◌, length, get_or, refl, sym, ◌∙◌, ap, arith}
use Rattle.std.specs.Prelude.{filter, if◌then◌else◌}
use Rattle.std.specs.List.{range_with_len}
use Rattle.std.proofs.lemmas.Bool.{cases_Bool, both_ways}
use Rattle.std.proofs.lemmas.List.Sums.{sum_by-cons}
use Rattle.tile_work.specs.Working.{copies}

one_copy : (b v : Bool) (x m : ℕ) (xs : List ℕ) → (b ≡ true → v ≡ true) → m ≤ length xs → (if b then 1 else 0) + m ≤ length (cond v (x ∷ xs) xs)
one_copy true true x m xs h l = omega (arith, l)
one_copy true false x m xs h l = absurd (both_ways false refl (h refl))
one_copy false true x m xs h l = omega (arith, l)
one_copy false false x m xs h l = omega (arith, l)

none_here : (b : Bool) → b ≡ false → ◌≡◌ {A = ℕ} (if b then 1 else 0) 0
none_here true e = absurd (both_ways true e refl)
none_here false e = refl

-- copied tiles that pass are no more than all tiles that pass, counted from k on
pub copies_few : (copied : List Bool) (p : ℕ → Bool) (k n : ℕ) → ((t : ℕ) → get_or copied t false ≡ true → (t < n) × (p (k + t) ≡ true)) → copies copied ≤ length (filter p (range_with_len k n))
copies_few [] p k n h = omega arith
copies_few (b ∷ bs) p k zero h =
    let r = copies_few bs p (k + 1) zero (λ t e. absurd (omega (arith, (h (suc t) e).0))) in
    elim (cases_Bool b) as (λ _. copies (b ∷ bs) ≤ 0) [
      | inl e ↦ absurd (omega (arith, (h 0 e).0))
      | inr e ↦ (let q = none_here b e in omega (arith, sum_by-cons (λ b. if b then 1 else 0) b bs, q, r))
    ]
copies_few (b ∷ bs) p k (suc n) h =
    let r = copies_few bs p (k + 1) n (λ t e. let d = h (suc t) e in let q : k + suc t ≡ k + 1 + t = omega arith in (omega (arith, d.0), ap p (sym q) ∙ d.1)) in
    let z : k + 0 ≡ k = omega arith in
    let o = one_copy b (p k) k (copies bs) (filter p (range_with_len (k + 1) n)) (λ e. ap p (sym z) ∙ (h 0 e).1) r in
    omega (arith, sum_by-cons (λ b. if b then 1 else 0) b bs, o)
