-- The greatest mark is that of the first steepest way.
use Rattle.std.proofs.Common.{◌≡◌, ℕ, ◌+◌, ◌<◌, Bool, true, false, cond, Option, Some, None, refl, ◌∙◌, ap, subst, arith, inl, inr, ℤ, pos, ◌<ℤ◌}
use Rattle.std.specs.Prelude.{◌≤ℤ◌, int_lt}
use Rattle.std.proofs.lemmas.Int.{ints}
use Rattle.map_nums.specs.Grids.{Size, Cells, cell_at}
use Rattle.map_defs.specs.Drainage.{winner_at}
use Rattle.drainage_flow.specs.Steepest.{AreAround, fall_to, IsFirstSteepest}
use Rattle.drainage_flow.specs.Marks.{marked, mark_of, IsMark}
use Rattle.drainage_flow.proofs.Steepest.{steepest_none, steeper_more, winner_found}

lt_from : (a b : ℤ) → int_lt a b ≡ true → a <ℤ b
lt_from a b e = grind (arith, ints)

le_from : (a b : ℤ) → int_lt a b ≡ false → b ≤ℤ a
le_from a b e = grind (arith, ints)

lt_yes : (a b : ℤ) → a <ℤ b → int_lt a b ≡ true
lt_yes a b h = grind (arith, ints)

lt_no : (a b : ℤ) → b ≤ℤ a → int_lt a b ≡ false
lt_no a b h = grind (arith, ints)

module _ (falls : ℕ → ℤ) where
  pub mark_none : IsMark falls 0 (pos 7)
  mark_none = record { best = pos 0; to = None; steepest = steepest_none falls; is = refl }

  -- a greater mark is a steeper way's
  steeper : (k : ℕ) (best : ℤ) (to : Option ℕ) → k < 8 → IsFirstSteepest falls k best to → mark_of best to <ℤ marked (falls k) k → best <ℤ falls k
  steeper k best None few w l = elim w.found as (λ _. best <ℤ falls k) [
    | inl f ↦ omega (arith, ints, f.1, l)
    | inr f ↦ absurd (cc (f.4))
  ]
  steeper k best (Some j) few w l = elim w.found as (λ _. best <ℤ falls k) [
    | inl f ↦ absurd (cc (f.0))
    | inr f ↦ (let e : j ≡ f.0 = cc (f.4) in omega (arith, ints, e, f.1, l))
  ]

  not_steeper : (k : ℕ) (best : ℤ) (to : Option ℕ) → k < 8 → IsFirstSteepest falls k best to → marked (falls k) k ≤ℤ mark_of best to → falls k ≤ℤ best
  not_steeper k best None few w l = elim w.found as (λ _. falls k ≤ℤ best) [
    | inl f ↦ omega (arith, ints, f.1, l)
    | inr f ↦ absurd (cc (f.4))
  ]
  not_steeper k best (Some j) few w l = elim w.found as (λ _. falls k ≤ℤ best) [
    | inl f ↦ absurd (cc (f.0))
    | inr f ↦ (let e : j ≡ f.0 = cc (f.4) in omega (arith, ints, e, f.1, l))
  ]

  -- one more way
  pub mark_more : (k : ℕ) (mark next greater : ℤ) → k < 8 → IsMark falls k mark → next ≡ marked (falls k) k → greater ≡ cond (int_lt mark next) next mark → IsMark falls (k + 1) greater
  mark_more k mark next greater few m n g = more (int_lt mark next) refl
    where
      more : (b : Bool) → int_lt mark next ≡ b → IsMark falls (k + 1) greater
      more true t =
          let l : mark_of m.best m.to <ℤ marked (falls k) k = subst (λ x. x <ℤ marked (falls k) k) m.is (subst (λ x. mark <ℤ x) n (lt_from mark next t)) in
          let s : int_lt m.best (falls k) ≡ true = lt_yes m.best (falls k) (steeper k m.best m.to few m.steepest l) in
          record {
            best = falls k;
            to = Some k;
            steepest = steeper_more falls k m.best (falls k) m.to (Some k) true s m.steepest refl refl;
            is = g ∙ ap (λ b. cond b next mark) t ∙ n;
          }
      more false t =
          let l : marked (falls k) k ≤ℤ mark_of m.best m.to = subst (λ x. marked (falls k) k ≤ℤ x) m.is (subst (λ x. x ≤ℤ mark) n (le_from mark next t)) in
          let s : int_lt m.best (falls k) ≡ false = lt_no m.best (falls k) (not_steeper k m.best m.to few m.steepest l) in
          record {
            best = m.best;
            to = m.to;
            steepest = steeper_more falls k m.best (falls k) m.to (Some k) false s m.steepest refl refl;
            is = g ∙ ap (λ b. cond b next mark) t ∙ m.is;
          }

  -- where a mark of all eight leads
  mark_leads : (best : ℤ) (to result : Option ℕ) (mark : ℤ) → IsFirstSteepest falls 8 best to → mark ≡ mark_of best to → (mark <ℤ pos 8 → result ≡ None) → ((fall : ℤ) (k : ℕ) → k < 8 → pos 0 <ℤ fall → mark ≡ marked fall k → result ≡ Some k) → result ≡ to
  mark_leads best None result mark w e none some = none (omega (arith, ints, e))
  mark_leads best (Some j) result mark w e none some = elim w.found as (λ _. result ≡ Some j) [
    | inl f ↦ absurd (cc (f.0))
    | inr f ↦ (let q : j ≡ f.0 = cc (f.4) in some best j (omega (arith, q, f.1)) f.2 e)
  ]

-- the mark of all eight leads to the winner
pub mark_winner : (s : Size) (surface : Cells) (at : ℕ) (here there : ℤ) (around : Cells) (k : ℕ) (mark : ℤ) (result : Option ℕ) → there ≡ here → k ≡ 8 → IsMark (fall_to there around) k mark → (mark <ℤ pos 8 → result ≡ None) → ((fall : ℤ) (k : ℕ) → k < 8 → pos 0 <ℤ fall → mark ≡ marked fall k → result ≡ Some k) → cell_at surface at ≡ Some here → AreAround s surface at around → result ≡ winner_at s surface at
mark_winner s surface at here there around k mark result same all m none some e a =
    let m : IsMark (fall_to here around) 8 mark = rw (same, all) at m in
    mark_leads (fall_to here around) m.best m.to result mark m.steepest m.is none some ∙ winner_found s surface at here around m.best m.to e a m.steepest
