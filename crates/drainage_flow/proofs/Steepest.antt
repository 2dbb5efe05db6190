-- The first of the steepest ways is the winner's.
use Rattle.std.proofs.Common.{◌≡◌, ℕ, zero, suc, ◌+◌, ◌<◌, Bool, true, false, cond, get_or, Option, Some, None, refl, sym, ◌∙◌, ap, subst, arith, inl, inr, ℤ, pos, ◌<ℤ◌}
use Rattle.std.specs.Prelude.{◌⊎◌, ◌≤ℤ◌, ◌&&◌, int_lt, int_le, position, option_and_then, slice_get, nat_lt, IfSome}
use Rattle.std.specs.List.{list_all, position_or_len}
use Rattle.std.proofs.lemmas.Int.{ints}
use Rattle.std.proofs.lemmas.Bool.{cases_lt, cases_Bool, and_parts}
use Rattle.std.proofs.lemmas.Bool.Decides.{nat_tests}
use Rattle.std.proofs.lemmas.List.Sums.{position_or_len_is, list_all-from_AllPass, AllPass-from_list_all}
use Rattle.std.proofs.lemmas.List.{get_or_default}
use Rattle.std.proofs.lemmas.Option.{slice_get-get_or}
use Rattle.map_nums.specs.Grids.{Size, Cells, Offset, cell_at, moved, compass}
use Rattle.map_defs.specs.Drainage.{drop_to, drop_at, is_steepest, winner_at}
use Rattle.map_defs.specs.Flow.{downstream_of}
use Rattle.drainage_flow.specs.Steepest.{offset_at, AreAround, fall_to, IsFirstSteepest}

no_fall : {P : Type 0} (x : ℤ) → x ≤ℤ pos 0 → int_lt (pos 0) x ≡ true → P
no_fall x l e = absurd (grind (arith, ints))

no_more : {P : Type 0} (x y : ℤ) → x <ℤ y → int_le y x ≡ true → P
no_more x y l e = absurd (grind (arith, ints))

-- ---- the first of the greatest falls

module _ (falls : ℕ → ℤ) where
  pub steepest_none : IsFirstSteepest falls 0 (pos 0) None
  steepest_none = record { above = omega (arith, ints); most = λ u l. absurd (omega arith); found = inl (refl, refl) }

  pub steeper_more : (k : ℕ) (best fall : ℤ) (to new : Option ℕ) (b : Bool) → int_lt best fall ≡ b → IsFirstSteepest falls k best to → fall ≡ falls k → new ≡ Some k → IsFirstSteepest falls (k + 1) (cond b fall best) (cond b new to)
  steeper_more k best fall to new true t w e m =
      let l : best <ℤ fall = grind (arith, ints) in
      record {
        above = omega (arith, ints, w.above);
        most = λ u h. elim (cases_lt u k) as (λ _. falls u ≤ℤ fall) [ inl g ↦ omega (arith, ints, w.most u g) | inr g ↦ (let q : u ≡ k = omega arith in rw (q) (omega (arith, ints, e))) ];
        found = inr (k, omega arith, omega (arith, ints, w.above), sym e, m, λ u g. omega (arith, ints, w.most u g));
      }
  steeper_more k best fall to new false t w e m =
      let l : fall ≤ℤ best = grind (arith, ints) in
      record {
        above = w.above;
        most = λ u h. elim (cases_lt u k) as (λ _. falls u ≤ℤ best) [ inl g ↦ w.most u g | inr g ↦ (let q : u ≡ k = omega arith in rw (q) (omega (arith, ints, e))) ];
        found = elim w.found as (λ _. ((to ≡ None) × (best ≡ pos 0)) ⊎ ((j : ℕ) × (j < k + 1) × (pos 0 <ℤ best) × (falls j ≡ best) × (to ≡ Some j) × ((u : ℕ) → u < j → falls u <ℤ best))) [
          | inl f ↦ inl f
          | inr f ↦ inr (f.0, omega (arith, f.1), f.2, f.3, f.4, f.5)
        ];
      }

  pub steepest_some : (k : ℕ) → (b : ℤ) × (t : Option ℕ) × IsFirstSteepest falls k b t
  steepest_some zero = (pos 0, None, steepest_none)
  steepest_some (suc k) =
      let w = steepest_some k in
      let f : ℤ = falls k in
      let n : Option ℕ = Some k in
      let m = steeper_more k w.0 f w.1 n (int_lt w.0 f) refl w.2 refl refl in
      (cond (int_lt w.0 f) f w.0, cond (int_lt w.0 f) n w.1, subst (λ (x : ℕ). IsFirstSteepest falls x (cond (int_lt w.0 f) f w.0) (cond (int_lt w.0 f) n w.1)) (omega arith) m)

  pub found_few : (best : ℤ) (to : Option ℕ) → IsFirstSteepest falls 8 best to → IfSome to (λ k. k < 8)
  found_few best None w = tt
  found_few best (Some k) w = elim w.found as (λ _. k < 8) [
    | inl f ↦ absurd (cc (f.0))
    | inr f ↦ (let e : k ≡ f.0 = cc (f.4) in omega (arith, e, f.1))
  ]

pub steepest_as : (f g : ℕ → ℤ) (best : ℤ) (to : Option ℕ) → ((u : ℕ) → u < 8 → f u ≡ g u) → IsFirstSteepest f 8 best to → IsFirstSteepest g 8 best to
steepest_as f g best to e w = record {
  above = w.above;
  most = λ u l. omega (arith, ints, w.most u l, e u l);
  found = elim w.found as (λ _. ((to ≡ None) × (best ≡ pos 0)) ⊎ ((j : ℕ) × (j < 8) × (pos 0 <ℤ best) × (g j ≡ best) × (to ≡ Some j) × ((u : ℕ) → u < j → g u <ℤ best))) [
    | inl h ↦ inl h
    | inr h ↦ inr (h.0, h.1, h.2, sym (e h.0 h.1) ∙ h.3, h.4, λ u l. (let a : u < 8 = omega (arith, l, h.1) in omega (arith, ints, h.5 u l, e u a)))
  ];
}

-- ---- is the winner

module _ (s : Size) (surface : Cells) (at : ℕ) (here : ℤ) where
  abbrev falls_at : ℕ → ℤ
  falls_at k = drop_at s surface at here (offset_at k)

  abbrev test : Offset → Bool
  test o = is_steepest s surface at here o

  -- one that another falls_at more than is not the steepest
  not_steepest : (u j : ℕ) → u < 8 → j < 8 → falls_at u <ℤ falls_at j → test (offset_at u) ≡ false
  not_steepest u j h g l = elim (cases_Bool (test (offset_at u))) as (λ _. test (offset_at u) ≡ false) [
    | inl t ↦ (
        let p = and_parts (int_lt (pos 0) (falls_at u)) (list_all (λ v. int_le (drop_at s surface at here v) (falls_at u)) compass) t in
        let a = AllPass-from_list_all (λ v. int_le (drop_at s surface at here v) (falls_at u)) compass p.1 j (pos 0, pos 0) g in
        no_more (falls_at u) (falls_at j) l a)
    | inr t ↦ t
  ]

  not_falling : (u : ℕ) → falls_at u ≤ℤ pos 0 → test (offset_at u) ≡ false
  not_falling u l = elim (cases_Bool (test (offset_at u))) as (λ _. test (offset_at u) ≡ false) [
    | inl t ↦ (let p = and_parts (int_lt (pos 0) (falls_at u)) (list_all (λ v. int_le (drop_at s surface at here v) (falls_at u)) compass) t in no_fall (falls_at u) l p.0)
    | inr t ↦ t
  ]

  is_the_steepest : (j : ℕ) → j < 8 → pos 0 <ℤ falls_at j → ((u : ℕ) → u < 8 → falls_at u ≤ℤ falls_at j) → test (offset_at j) ≡ true
  is_the_steepest j h l most =
      let all : list_all (λ v. int_le (drop_at s surface at here v) (falls_at j)) compass ≡ true =
      list_all-from_AllPass (λ v. int_le (drop_at s surface at here v) (falls_at j)) compass (λ k d g. (
      let e : get_or compass k d ≡ offset_at k = get_or_default compass k d (pos 0, pos 0) g in
      subst (λ (o : Offset). int_le (drop_at s surface at here o) (falls_at j) ≡ true) (sym e) (le_true (falls_at k) (falls_at j) (most k g)))) in
      let above : int_lt (pos 0) (falls_at j) ≡ true = grind (arith, ints) in
      ap (λ b. b && list_all (λ v. int_le (drop_at s surface at here v) (falls_at j)) compass) above ∙ all
    where
      le_true : (x y : ℤ) → x ≤ℤ y → int_le x y ≡ true
      le_true x y h = grind (arith, ints)

  winner_from : (best : ℤ) (to : Option ℕ) → IsFirstSteepest falls_at 8 best to → position test compass ≡ to
  winner_from best to w = elim w.found as (λ _. position test compass ≡ to) [
    | inl f ↦ (
        let e : position_or_len test compass ≡ 8 = position_or_len_is test compass 8 (pos 0, pos 0) (omega arith) (λ k h. not_falling k (omega (arith, ints, w.most k h, f.1))) (λ h. absurd (omega arith)) in
        ap (λ n. cond (nat_lt n 8) (Some n) None) e ∙ sym f.0)
    | inr f ↦ (
        let j : ℕ = f.0 in
        let here_is : falls_at j ≡ best = f.3 in
        let e : position_or_len test compass ≡ j = position_or_len_is test compass j (pos 0, pos 0) (omega (arith, f.1)) (λ k h. not_steepest k j (omega (arith, f.1)) f.1 (omega (arith, ints, f.5 k h, here_is)))
        (λ h. is_the_steepest j f.1 (omega (arith, ints, f.2, here_is)) (λ u g. omega (arith, ints, w.most u g, here_is))) in
        let lt : nat_lt j 8 ≡ true = lt_true j 8 f.1 in
        ap (λ n. cond (nat_lt n 8) (Some n) None) e
        ∙ ap (λ b. cond b (Some j) None) lt
        ∙ sym f.4)
  ]
    where
      lt_true : (a b : ℕ) → a < b → nat_lt a b ≡ true
      lt_true a b h = grind (arith, nat_tests)

  pub winner_is : (best : ℤ) (to : Option ℕ) → cell_at surface at ≡ Some here → IsFirstSteepest falls_at 8 best to → to ≡ winner_at s surface at
  unfolding winner_at
  winner_is best to e w = sym (ap (λ c. option_and_then (λ z. position (is_steepest s surface at z) compass) c) e ∙ winner_from best to w)

  pub winner_found : (around : Cells) (best : ℤ) (to : Option ℕ) → cell_at surface at ≡ Some here → AreAround s surface at around → IsFirstSteepest (fall_to here around) 8 best to → to ≡ winner_at s surface at
  winner_found around best to e a w = winner_is best to e (steepest_as (fall_to here around) falls_at best to (λ u l. ap (drop_to here (offset_at u)) (a.each u l)) w)

-- ---- where it leads

pub winner_null : (s : Size) (surface : Cells) (at : ℕ) → cell_at surface at ≡ None → None ≡ winner_at s surface at
unfolding winner_at
winner_null s surface at e = sym (ap (λ c. option_and_then (λ z. position (is_steepest s surface at z) compass) c) e)

pub winner_few : (s : Size) (surface : Cells) (at : ℕ) → IfSome (winner_at s surface at) (λ k. k < 8)
winner_few s surface at = few (cell_at surface at) refl
  where
    few : (o : Option ℤ) → cell_at surface at ≡ o → IfSome (winner_at s surface at) (λ k. k < 8)
    few None e = subst (λ (w : Option ℕ). IfSome w (λ k. k < 8)) (winner_null s surface at e) tt
    few (Some z) e =
        let w = steepest_some (falls_at s surface at z) 8 in
        subst (λ (o : Option ℕ). IfSome o (λ k. k < 8)) (winner_is s surface at z w.0 w.1 e w.2) (found_few (falls_at s surface at z) w.0 w.1 w.2)

pub downstream_none : (s : Size) (surface : Cells) (at : ℕ) → None ≡ winner_at s surface at → None ≡ downstream_of s surface at
unfolding downstream_of
downstream_none s surface at e = sym (ap (λ w. option_and_then (moved s at) (option_and_then (slice_get compass) w)) (sym e))

pub downstream_some : (s : Size) (surface : Cells) (at k : ℕ) → Some k ≡ winner_at s surface at → k < 8 → moved s at (offset_at k) ≡ downstream_of s surface at
unfolding downstream_of
downstream_some s surface at k e l = sym (
    ap (λ w. option_and_then (moved s at) (option_and_then (slice_get compass) w)) (sym e)
    ∙ ap (option_and_then (moved s at)) (slice_get-get_or compass k (pos 0, pos 0) l))
