-- Calls at the places of a list, the first one apart from the others.
use Rattle.std.proofs.Common.{◌≡◌, inl, inr, ℕ, suc, ◌+◌, ◌-◌, ◌++◌, List, length, get_or, set, sym, ◌∙◌, ap, subst, arith}
use Rattle.std.proofs.lemmas.Bool.{cases_lt}
use Rattle.std.proofs.lemmas.List.{get_or-set_same, length-set, length-append, get_or_append_left, get_or-append_right}
use Rattle.tile_workers.specs.Forks.{AreAccepted, AreChanged}

module _ {X : Type 0} where
  pub accepted_only : (P : ℕ → X → Type 0) (i : ℕ) (xs : List X) (d : X) → length xs ≡ 1 → AreAccepted P i xs → P i (get_or xs 0 d)
  accepted_only P i xs d one h = let e : i + 0 ≡ i = omega arith in subst (λ k. P k (get_or xs 0 d)) e (h.each 0 d (omega (arith, one)))

  pub changed_only : (R : ℕ → X → X → Type 0) (i : ℕ) (xs : List X) (y : X) → length xs ≡ 1 → ((d : X) → R i (get_or xs 0 d) y) → AreChanged R i xs (set xs 0 y)
  changed_only R i xs y one h = record {
    len = length-set xs 0 y;
    each = λ k d l. (
        let e : i ≡ i + k = omega (arith, l, one) in
        let z : 0 ≡ k = omega (arith, l, one) in
        let P : ℕ → Type 0 = λ j. R (i + k) (get_or xs j d) (get_or (set xs 0 y) j d) in
        subst P z (subst (λ j. R j (get_or xs 0 d) (get_or (set xs 0 y) 0 d)) e (subst (R i (get_or xs 0 d)) (sym (get_or-set_same xs 0 y d (omega (arith, one)))) (h d))));
  }

  module _ (all xs ys : List X) (i : ℕ) (joined : all ≡ xs ++ ys) (one : length xs ≡ 1) where
    count : length all ≡ 1 + length ys
    count = omega (arith, ap length joined, length-append xs ys, one)

    first_at : (d : X) → get_or xs 0 d ≡ get_or all 0 d
    first_at d = sym (ap (λ (zs : List X). get_or zs 0 d) joined ∙ get_or_append_left xs ys d 0 (omega (arith, one)))

    rest_at : (k : ℕ) (d : X) → get_or ys k d ≡ get_or all (suc k) d
    rest_at k d = let e : suc k - 1 ≡ k = omega arith in sym (ap (λ (zs : List X). get_or zs (suc k) d) joined ∙ get_or-append_right xs ys 1 (suc k) d one (omega arith) ∙ ap (λ j. get_or ys j d) e)

    pub accepted_first : (P : ℕ → X → Type 0) → AreAccepted P i all → AreAccepted P i xs
    accepted_first P h = record {
      room = omega (arith, h.room, count, one);
      each = λ k d l. (
          let z : 0 ≡ k = omega (arith, l, one) in
          let Q : ℕ → Type 0 = λ j. P (i + j) (get_or xs j d) in
          subst Q z (subst (P (i + 0)) (sym (first_at d)) (h.each 0 d (omega (arith, count)))));
    }

    pub accepted_rest : (P : ℕ → X → Type 0) → AreAccepted P i all → AreAccepted P (i + 1) ys
    accepted_rest P h = record {
      room = omega (arith, h.room, count);
      each = λ k d l. (
          let e : i + suc k ≡ i + 1 + k = omega arith in
          subst (λ j. P j (get_or ys k d)) e (subst (P (i + suc k)) (sym (rest_at k d)) (h.each (suc k) d (omega (arith, l, count)))));
    }

  pub changed_both : (R : ℕ → X → X → Type 0) (all xs ys xs' ys' : List X) (i : ℕ) → all ≡ xs ++ ys → length xs ≡ 1 → AreChanged R i xs xs' → AreChanged R (i + 1) ys ys' → AreChanged R i all (xs' ++ ys')
  changed_both R all xs ys xs' ys' i joined one a b = record {
    len = omega (arith, count all xs ys i joined one, length-append xs' ys', a.len, b.len, one);
    each = λ k d l. elim (cases_lt k 1) as (λ _. R (i + k) (get_or all k d) (get_or (xs' ++ ys') k d)) [
      | inl m ↦ (
          let z : 0 ≡ k = omega (arith, m) in
          let Q : ℕ → Type 0 = λ j. R (i + j) (get_or all j d) (get_or (xs' ++ ys') j d) in
          subst Q z (subst (λ (y : X). R (i + 0) (get_or all 0 d) y) (sym (get_or_append_left xs' ys' d 0 (omega (arith, a.len, one)))) (subst (λ (x : X). R (i + 0) x (get_or xs' 0 d)) (first_at all xs ys i joined one d) (a.each 0 d (omega (arith, one))))))
      | inr m ↦ (
          let j = k - 1 in
          let e : suc j ≡ k = omega (arith, m) in
          let f : i + 1 + j ≡ i + suc j = omega arith in
          let Q : ℕ → Type 0 = λ n. R (i + n) (get_or all n d) (get_or (xs' ++ ys') n d) in
          let n : suc j - 1 ≡ j = omega arith in
          let there : get_or (xs' ++ ys') (suc j) d ≡ get_or ys' j d = get_or-append_right xs' ys' 1 (suc j) d (a.len ∙ one) (omega arith) ∙ ap (λ x. get_or ys' x d) n in
          subst Q e (subst (λ (y : X). R (i + suc j) (get_or all (suc j) d) y) (sym there) (subst (λ (x : X). R (i + suc j) x (get_or ys' j d)) (rest_at all xs ys i joined one j d) (subst (λ x. R x (get_or ys j d) (get_or ys' j d)) f (b.each j d (omega (arith, l, e, count all xs ys i joined one))))))
          )
    ];
  }
