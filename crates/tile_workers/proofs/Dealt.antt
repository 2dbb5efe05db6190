-- Each event keeps what the seats hold together, and what follows from it.
use Rattle.std.proofs.Common.{◌≡◌, ◌≢◌, ℕ, zero, suc, ◌+◌, ◌<◌, ◌≤◌, Bool, List, [], ◌∷◌, ◌++◌, length, set, sym, refl, ap, ◌∙◌, subst, arith, length-append}
use Rattle.std.specs.Prelude.{sum_by}
use mathlib.Core.Option.{some}
use native.Mathlib.Decide.{ℕ_discrete}
use lib.ListN.{get_elem?}
use Rattle.tile_workers.specs.declared.seat.View.{View}
use Rattle.tile_workers.specs.Lists.{times, Ascends}
use Rattle.tile_workers.specs.Tickets.{view, first_view, new_view, spent_view, less_one, both_views}
use Rattle.tile_workers.specs.Rule.{IsDealt}
use Rattle.tile_workers.specs.TicketLaws.{IsWithOne, HoldsAll}
use Rattle.tile_workers.proofs.Sums.{sum_set, sum_fork, sum_both, sum_one, sum_two, sum_only, sum_some, Each, each_set, each_snoc}
use Rattle.tile_workers.proofs.Numbers.{times_snoc, times_merged, length_merged, merged_ascends, snoc_ascends, once_below_yes, once_below_no, once_below_le, once_below_some, once_below_next, range_is}

abbrev SpentIsEmpty : View → Type 0
SpentIsEmpty v = v.share ≡ 0 → v.drawn ≡ []

pub split_dealt : (next : ℕ) (l : List View) (i : ℕ) (v : View) → IsDealt next l → get_elem? l i ≡ some v → 1 < v.share → IsDealt next (set l i (less_one v) ++ new_view ∷ [])
split_dealt next l i v d at more = record {
  shares = let h = d.shares in omega (arith, sum_fork (λ (u : View). u.share) l i v (less_one v) new_view at);
  once = λ x. let h = d.once x in omega (arith, sum_fork (λ (u : View). times x u.drawn) l i v (less_one v) new_view at);
  counted = let h = d.counted in omega (arith, sum_fork (λ (u : View). length u.drawn) l i v (less_one v) new_view at);
  ascends = each_snoc (λ u. Ascends u.drawn) (set l i (less_one v)) new_view (each_set (λ u. Ascends u.drawn) l i (less_one v) d.ascends (d.ascends i v at)) tt;
  spent = each_snoc SpentIsEmpty (set l i (less_one v)) new_view (each_set SpentIsEmpty l i (less_one v) d.spent (λ h. absurd (omega arith))) (λ h. refl);
}

-- a number of a seat's list is below the next
pub drawn_below : (next : ℕ) (l : List View) (i : ℕ) (v : View) → IsDealt next l → get_elem? l i ≡ some v → (x : ℕ) → 0 < times x v.drawn → x < next
drawn_below next l i v d at x some_there = once_below_some x next (let h = d.once x in omega (arith, sum_one (λ (u : View). times x u.drawn) l i v at))

pub draw_dealt : (next : ℕ) (l : List View) (i : ℕ) (v : View) (m : Bool) → IsDealt next l → get_elem? l i ≡ some v → 0 < v.share → IsDealt (next + 1) (set l i (view (v.drawn ++ next ∷ []) v.share m))
draw_dealt next l i v m d at live = let w : View = view (v.drawn ++ next ∷ []) v.share m in record {
  shares = let h = d.shares in omega (arith, sum_set (λ (u : View). u.share) l i v w at);
  once = λ x. let h = d.once x in omega (arith, sum_set (λ (u : View). times x u.drawn) l i v w at, times_snoc x next v.drawn, once_below_next x next);
  counted = let h = d.counted in omega (arith, sum_set (λ (u : View). length u.drawn) l i v w at, length-append v.drawn (next ∷ []));
  ascends = each_set (λ u. Ascends u.drawn) l i w d.ascends (snoc_ascends 0 next v.drawn (d.ascends i v at) (omega arith) (drawn_below next l i v d at));
  spent = each_set SpentIsEmpty l i w d.spent (λ h. absurd (omega arith));
}

pub join_dealt : (next : ℕ) (l : List View) (i j : ℕ) (v w : View) → IsDealt next l → i ≢ j → get_elem? l i ≡ some v → get_elem? l j ≡ some w → 0 < v.share
    → IsDealt next (set (set l i (both_views v w)) j spent_view)
join_dealt next l i j v w d apart at at' live = let both : View = both_views v w in record {
  shares = let h = d.shares in omega (arith, sum_both (λ (u : View). u.share) l i j v w both spent_view apart at at');
  once = λ x. let h = d.once x in omega (arith, sum_both (λ (u : View). times x u.drawn) l i j v w both spent_view apart at at', times_merged x v.drawn w.drawn);
  counted = let h = d.counted in omega (arith, sum_both (λ (u : View). length u.drawn) l i j v w both spent_view apart at at', length_merged v.drawn w.drawn);
  ascends = each_set (λ u. Ascends u.drawn) (set l i both) j spent_view (each_set (λ u. Ascends u.drawn) l i both d.ascends
      (merged_ascends 0 v.drawn w.drawn (d.ascends i v at) (d.ascends j w at')
      (λ x. let h = d.once x in omega (arith, once_below_le x next, sum_two (λ (u : View). times x u.drawn) l i j v w apart at at')))) tt;
  spent = each_set SpentIsEmpty (set l i both) j spent_view (each_set SpentIsEmpty l i both d.spent (λ h. absurd (omega arith))) (λ h. refl);
}

pub first_each : (P : View → Type 0) (v : View) → P v → Each P (v ∷ [])
first_each P v h zero u e = subst P (mathlib.Core.Option.some-injective v u e) h
first_each P v h (suc i) u e = absurd (mathlib.Core.Option.some-ne-none u (sym e))

pub first_dealt : IsDealt 0 (first_view ∷ [])
first_dealt = record {
  shares = refl;
  once = λ x. sym (once_below_no x 0 (omega arith));
  counted = refl;
  ascends = first_each (λ u. Ascends u.drawn) first_view tt;
  spent = first_each SpentIsEmpty first_view (λ h. refl);
}

-- where one seat has every share, the others have none
pub others_spent : (l : List View) (i : ℕ) (v : View) → sum_by (λ (u : View). u.share) l ≡ 64 → get_elem? l i ≡ some v → v.share ≡ 64
    → (j : ℕ) (w : View) → i ≢ j → get_elem? l j ≡ some w → w.share ≡ 0
others_spent l i v all at whole j w apart at' = omega (arith, sum_two (λ (u : View). u.share) l i j v w apart at at')

pub dealt_whole : (next : ℕ) (l : List View) (i : ℕ) (v : View) → IsDealt next l → get_elem? l i ≡ some v → v.share ≡ 64 → HoldsAll next l i v
dealt_whole next l i v d at whole =
    let none = others_spent l i v d.shares at whole in
    let empty : (j : ℕ) (w : View) → i ≢ j → get_elem? l j ≡ some w → w.drawn ≡ [] = λ j w apart at'. d.spent j w at' (none j w apart at') in (
      range_is next v.drawn (d.ascends i v at)
          (λ x. sym (sum_only (λ (u : View). times x u.drawn) l i v at (λ j w apart at'. ap (λ (ys : List ℕ). times x ys) (empty j w apart at'))) ∙ d.once x),
      λ j w at' apart. (none j w apart at', empty j w apart at'),
    )

pub dealt_once : (next : ℕ) (l : List View) (x : ℕ) → IsDealt next l → x < next → IsWithOne l x
dealt_once next l x d less =
    let is_one = d.once x ∙ once_below_yes x next less in
    let r = sum_some (λ (u : View). times x u.drawn) l (omega arith) in
    let i : ℕ = r.0 in let v : View = r.1 in let at : get_elem? l i ≡ some v = r.2 in let more : 0 < times x v.drawn = r.3 in
    let live : 0 < v.share = elim (ℕ_discrete v.share 0) [ yes e ↦ absurd (let none : times x v.drawn ≡ 0 = ap (λ (ys : List ℕ). times x ys) (d.spent i v at e) in omega arith) | no ne ↦ omega arith ] in (
      i,
      v,
      at,
      live,
      omega (arith, sum_one (λ (u : View). times x u.drawn) l i v at),
      λ j w at' apart. omega (arith, sum_two (λ (u : View). times x u.drawn) l i j v w apart at at'),
    )

pub dealt_above : (next : ℕ) (l : List View) (x i : ℕ) (v : View) → IsDealt next l → next ≤ x → get_elem? l i ≡ some v → times x v.drawn ≡ 0
dealt_above next l x i v d above at = let h = d.once x in omega (arith, once_below_no x next above, sum_one (λ (u : View). times x u.drawn) l i v at)
