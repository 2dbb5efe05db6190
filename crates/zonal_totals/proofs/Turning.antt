-- A turn of the loop over the sections.
use Rattle.std.proofs.Common.{◌≡◌, ℕ, suc, ◌+◌, ◌-◌, ◌<◌, ◌≤◌, List, [], ◌∷◌, ◌++◌, length, get_or, take, drop, refl, sym, ◌∙◌, ap, subst, arith, ℤ, ◌<ℤ◌, ◌≤ℤ◌}
use Rattle.std.proofs.Math.Seq.{take-length}
use Rattle.std.proofs.lemmas.Int.{ints}
use Rattle.std.proofs.lemmas.List.{take-append-drop, drop-drop, get_or-take, get_or-drop, length-take-le, length-drop}
use Rattle.zonal_totals.specs.declared.pairs.Pair.{Pair}
use Rattle.zonal_totals.specs.declared.entries.Entry.{Entry}
use Rattle.zonal_totals.specs.declared.steps.Step.{Step}
use Rattle.zonal_totals.specs.Pairs.{rank, floor, IsShort}
use Rattle.zonal_totals.specs.Entries.{Climbs}
use Rattle.zonal_totals.specs.Steps.{StepsClimb}
use Rattle.zonal_totals.specs.Merges.{Fits, IsMerged}
use Rattle.zonal_totals.specs.Sections.{joined, end_of, lowest, last_zone, IsRenewed}
use Rattle.zonal_totals.proofs.Merging.{short_at}
use Rattle.zonal_totals.proofs.Sectioning.{last_at}
use Rattle.zonal_totals.proofs.Renewing.{IsRenewing, section_at, section_fits, out_climbs, renewed_more, steps_take, steps_drop, steps_floor}

pub steps_rest_is : (n : ℕ) (ss : List Step) → take (length ss - n) (drop n ss) ≡ drop n ss
steps_rest_is n ss = ap (λ k. take k (drop n ss)) (sym (length-drop n ss)) ∙ take-length (drop n ss)

rank_within : (p : Pair) → IsShort p → rank p ≤ℤ end_of p.zone
rank_within p s = omega (arith, ints, s.high_key)

rank_beyond : (z : ℤ) (p : Pair) → IsShort p → z <ℤ p.zone → end_of z <ℤ rank p
rank_beyond z p s h = omega (arith, ints, s.low_key, h)

module _ (cs : List (List Entry)) (ss : List Step) (i j : ℕ) (out : List (List Entry)) (fits : Fits (joined cs) ss) (inv : IsRenewing cs ss i j out) (more : i < length cs) (x : List Entry) (is : x ≡ get_or cs i [])
    (to : ℕ) (last : Entry) (last_is : (d : Entry) → last ≡ get_or x (length x - 1) d) (order : j ≤ to) (within : to ≤ length ss)
    (below : (k : ℕ) (d : Step) → j ≤ k → k < to → (get_or ss k d).pair.zone ≤ℤ last.pair.zone)
    (above : (d : Step) → to < length ss → last.pair.zone <ℤ (get_or ss to d).pair.zone) where
  abbrev z : ℤ
  z = inv.zone

  abbrev es : List Entry
  es = get_or cs i []

  abbrev z' : ℤ
  z' = last_zone z es

  abbrev ts : List Step
  ts = take (to - j) (drop j ss)

  last_zone_is : last.pair.zone ≡ z'
  last_zone_is = ap (λ (e : Entry). e.pair.zone) (last_is last ∙ ap (λ (l : List Entry). get_or l (length l - 1) last) is) ∙ sym (last_at z es last (section_at z cs i inv.base more).0)

  behind : drop (to - j) (drop j ss) ≡ drop to ss
  behind = let n : j + (to - j) ≡ to = omega arith in drop-drop (to - j) j ss ∙ ap (λ k. drop k ss) n

  split : drop j ss ≡ ts ++ drop to ss
  split = sym (take-append-drop (to - j) (drop j ss)) ∙ ap (λ (l : List Step). ts ++ l) behind

  low : StepsClimb (end_of z) ts
  low = steps_take (end_of z) (drop j ss) (to - j) inv.steps

  high : (k : ℕ) (d : Step) → k < length ts → rank (get_or ts k d).pair ≤ℤ end_of z'
  high k d h =
      let k' : k < to - j = omega (arith, length-take-le (to - j) (drop j ss) (omega (arith, length-drop j ss))) in
      let at : get_or ts k d ≡ get_or ss (j + k) d = get_or-take (to - j) (drop j ss) k d k' ∙ get_or-drop j ss k d in
      let zone = ap (λ (s : Step). s.pair.zone) at in
      omega (arith, ints, rank_within (get_or ts k d).pair (short_at (end_of z) ts k d low h), zone, below (j + k) d (omega arith) (omega (arith, k')), last_zone_is)

  beyond : StepsClimb (end_of z') (drop to ss)
  beyond =
      subst (λ (l : List Step). StepsClimb (end_of z') l) behind
      (steps_drop (end_of z) (end_of z') (drop j ss) (to - j) inv.steps (λ d h.
      let n : j + (to - j) ≡ to = omega arith in
      let at : get_or (drop j ss) (to - j) d ≡ get_or ss to d = get_or-drop j ss (to - j) d ∙ ap (λ k. get_or ss k d) n in
      let zone = ap (λ (s : Step). s.pair.zone) at in
      let up : z' <ℤ (get_or (drop j ss) (to - j) d).pair.zone = omega (arith, ints, zone, above d (omega (arith, h, length-drop j ss)), last_zone_is) in
      rank_beyond z' (get_or (drop j ss) (to - j) d).pair (short_at (end_of z) (drop j ss) (to - j) d inv.steps h) up))

  pub turn_order : Climbs floor x
  turn_order = subst (λ (l : List Entry). Climbs floor l) (sym is) (floor_of es (section_at z cs i inv.base more).1)
    where
      floor_of : (fs : List Entry) → Climbs (end_of z) fs → Climbs floor fs
      floor_of [] c = tt
      floor_of (f ∷ fs) c = let k = c.2 in (omega (arith, ints, k.low_zone, k.low_key), c.1, c.2, c.3)

  pub turn_steps : StepsClimb floor ts
  turn_steps = steps_floor (end_of z) ts low

  pub turn_fits : Fits x ts
  turn_fits = subst (λ (l : List Entry). Fits l ts) (sym is) (section_fits cs ss i j out fits inv more ts (drop to ss) split high low beyond)

  pub turn_behind : (fs : List Entry) → IsMerged x ts fs → Climbs (end_of (last_zone lowest (joined out))) fs
  turn_behind fs m = out_climbs cs ss i j out fits inv more ts (drop to ss) split high low beyond fs (subst (λ (l : List Entry). IsMerged l ts fs) is m)

  pub turn_more : (new : List (List Entry)) → IsRenewed out x ts new → IsRenewing cs ss (i + 1) to new
  turn_more new r =
      let e : suc i ≡ i + 1 = omega arith in
      let P : ℕ → Type 0 = λ n. IsRenewing cs ss n to new in
      subst P e (renewed_more cs ss i j out fits inv more ts (drop to ss) split high low beyond to new refl (subst (λ (l : List Entry). IsRenewed out l ts new) is r))
