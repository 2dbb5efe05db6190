-- Sections renewed one by one are the whole merged.
use Rattle.std.proofs.Common.{◌≡◌, ℕ, zero, suc, ◌+◌, ◌<◌, ◌≤◌, ◌^◌, List, [], ◌∷◌, ◌++◌, length, get_or, take, drop, refl, sym, ◌∙◌, ap, subst, arith, ℤ, pos, ◌<ℤ◌, ◌≤ℤ◌, ◌+ℤ◌}
use Rattle.std.proofs.lemmas.Int.{ints, by_lt_z}
use Rattle.std.proofs.lemmas.List.{take-append-drop, take_all}
use Rattle.zonal_totals.specs.declared.pairs.Pair.{Pair}
use Rattle.zonal_totals.specs.declared.entries.Entry.{Entry}
use Rattle.zonal_totals.specs.declared.steps.Step.{Step}
use Rattle.zonal_totals.specs.Pairs.{rank, floor, IsShort}
use Rattle.zonal_totals.specs.Entries.{count_in, top_of, Climbs}
use Rattle.zonal_totals.specs.Steps.{net_in, StepsClimb}
use Rattle.zonal_totals.specs.Merges.{Fits, IsMerged}
use Rattle.zonal_totals.specs.Sections.{joined, end_of, lowest, last_zone, AreSections, IsRenewed}
use Rattle.zonal_totals.proofs.Climbing.{pair_itself, pair_other, climbs_from, climbs_join, count_below, count_above, count_join, short_of}
use Rattle.zonal_totals.proofs.Settling.{net_below}
use Rattle.zonal_totals.proofs.Merging.{net_join}
use Rattle.zonal_totals.proofs.Sectioning.{joined_push, last_from, last_join, top_end, sections_climb, sections_push, end_lowest}

-- ---- what stays within bounds

-- an entry is counted
own_count : (e : Entry) (es : List Entry) → e.count ≤ count_in (e ∷ es) e.pair
own_count e es = rw (pair_itself e.pair) (omega arith)

rest_count : (e : Entry) (es : List Entry) (p : Pair) → count_in es p ≤ count_in (e ∷ es) p
rest_count e es p = omega arith

counted_at : (r : ℤ) (es : List Entry) (i : ℕ) (d : Entry) → Climbs r es → i < length es → 0 < count_in es (get_or es i d).pair
counted_at r [] i d c h = absurd (omega arith)
counted_at r (e ∷ es) zero d c h = omega (arith, c.1, own_count e es)
counted_at r (e ∷ es) (suc i) d c h = omega (arith, counted_at (rank e.pair) es i d c.3 (omega arith), rest_count e es (get_or es i d).pair)

net_none : (ss : List Step) (p : Pair) (r : ℤ) → ((i : ℕ) (d : Step) → i < length ss → rank (get_or ss i d).pair ≤ℤ r) → r <ℤ rank p → net_in ss p ≡ pos 0
net_none [] p r h l = refl
net_none (s ∷ ss) p r h l =
    let a = h 0 s (omega arith) in
    rw (pair_other s.pair p (λ q. omega (arith, ints, a, l, q)), net_none ss p r (λ i d m. h (suc i) d (omega arith)) l) refl

last_within : (y z : ℤ) (fs : List Entry) → y ≤ℤ z → ((i : ℕ) (d : Entry) → i < length fs → (get_or fs i d).pair.zone ≤ℤ z) → last_zone y fs ≤ℤ z
last_within y z [] h k = h
last_within y z (f ∷ fs) h k = last_within f.pair.zone z fs (k 0 f (omega arith)) (λ i d l. k (suc i) d (omega arith))

end_le : (a b : ℤ) → a ≤ℤ b → end_of a ≤ℤ end_of b
end_le a b h = omega (arith, ints, h)

le_itself : (a : ℤ) → a ≤ℤ a
le_itself a = omega (arith, ints)

-- entries es and steps ss lie above the end of zone z
module _ (z : ℤ) (es : List Entry) (ss : List Step) (low : Climbs (end_of z) es) (steps_low : StepsClimb (end_of z) ss) where
  pub none_under : (p : Pair) → rank p ≤ℤ end_of z → (count_in es p ≡ 0) × (net_in ss p ≡ pos 0)
  none_under p h = (count_below (end_of z) es p low h, net_below (end_of z) ss p steps_low h)

  pub some_left : (fs : List Entry) → IsMerged es ss fs → (i : ℕ) (d : Entry) → i < length fs → (count_in es (get_or fs i d).pair ≡ 0) × (net_in ss (get_or fs i d).pair ≡ pos 0) → ⊥
  some_left fs m i d h n = omega (arith, ints, m.counts (get_or fs i d).pair, counted_at floor fs i d m.climbs h, n.0, n.1)

  pub merged_low : (fs : List Entry) → IsMerged es ss fs → Climbs (end_of z) fs
  merged_low [] m = tt
  merged_low (g ∷ gs) m =
      let c = m.climbs in
      (by_lt_z (end_of z) (rank g.pair) (λ l. l) (λ l. absurd (some_left (g ∷ gs) m 0 g (omega arith) (none_under g.pair (omega (arith, ints, l))))), c.1, c.2, c.3)

  -- and reach up to the end of zone z'
  module _ (z' : ℤ) (up : z ≤ℤ z') (high : last_zone z es ≤ℤ z') (steps_high : (i : ℕ) (d : Step) → i < length ss → rank (get_or ss i d).pair ≤ℤ end_of z') where
    pub none_over : (p : Pair) → end_of z' <ℤ rank p → (count_in es p ≡ 0) × (net_in ss p ≡ pos 0)
    none_over p h =
        let top = top_end (end_of z) z es (le_itself (end_of z)) low in
        (count_above (end_of z) es p low (omega (arith, ints, top, end_le (last_zone z es) z' high, h)), net_none ss p (end_of z') steps_high h)

    zone_within : (e : Entry) → IsShort e.pair → rank e.pair ≤ℤ end_of z' → e.pair.zone ≤ℤ z'
    zone_within e s h = by_lt_z z' e.pair.zone (λ l. absurd (omega (arith, ints, s.low_key, h, l))) (λ l. omega (arith, ints, l))

    pub merged_high : (fs : List Entry) → IsMerged es ss fs → last_zone z fs ≤ℤ z'
    merged_high fs m =
        last_within z z' fs up (λ i d h.
        zone_within (get_or fs i d) (short_of floor fs i d m.climbs h)
        (by_lt_z (end_of z') (rank (get_or fs i d).pair) (λ l. absurd (some_left fs m i d h (none_over (get_or fs i d).pair l))) (λ l. omega (arith, ints, l))))

-- ---- the parts of a whole

pub count_parts : (cs : List (List Entry)) (i : ℕ) (p : Pair) → i < length cs → count_in (joined cs) p ≡ count_in (joined (take i cs)) p + (count_in (get_or cs i []) p + count_in (joined (drop (suc i) cs)) p)
count_parts [] i p h = absurd (omega arith)
count_parts (es ∷ cs) zero p h = omega (arith, count_join es (joined cs) p)
count_parts (es ∷ cs) (suc i) p h = omega (arith, count_join es (joined cs) p, count_join es (joined (take i cs)) p, count_parts cs i p (omega arith))

pub count_taken : (cs : List (List Entry)) (i : ℕ) (p : Pair) → i < length cs → count_in (joined (take (suc i) cs)) p ≡ count_in (joined (take i cs)) p + count_in (get_or cs i []) p
count_taken [] i p h = absurd (omega arith)
count_taken (es ∷ cs) zero p h = omega (arith, count_join es [] p)
count_taken (es ∷ cs) (suc i) p h = omega (arith, count_join es (joined (take (suc i) cs)) p, count_join es (joined (take i cs)) p, count_taken cs i p (omega arith))

pub net_split : (ss : List Step) (n : ℕ) (p : Pair) → net_in ss p ≡ net_in (take n ss) p +ℤ net_in (drop n ss) p
net_split ss n p = ap (λ (l : List Step). net_in l p) (sym (take-append-drop n ss)) ∙ net_join (take n ss) (drop n ss) p

pub section_at : (z : ℤ) (cs : List (List Entry)) (i : ℕ) → AreSections z (drop i cs) → i < length cs → (0 < length (get_or cs i [])) × Climbs (end_of z) (get_or cs i []) × AreSections (last_zone z (get_or cs i [])) (drop (suc i) cs)
section_at z [] i s h = absurd (omega arith)
section_at z (es ∷ cs) zero s h = (s.0, s.1, s.2)
section_at z (es ∷ cs) (suc i) s h = section_at z cs i s (omega arith)

-- ---- the loop

-- the first i sections with the first j steps became out; what is left lies above the end of zone z
pub record IsRenewing (cs : List (List Entry)) (ss : List Step) (i j : ℕ) (out : List (List Entry)) : Type 0 where
  pub zone : ℤ
  pub sections : AreSections lowest out
  pub last : last_zone lowest (joined out) ≤ℤ zone
  pub counts : (p : Pair) → pos (count_in (joined out) p) ≡ pos (count_in (joined (take i cs)) p) +ℤ net_in (take j ss) p
  pub base : AreSections zone (drop i cs)
  pub steps : StepsClimb (end_of zone) (drop j ss)

module _ (cs : List (List Entry)) (ss : List Step) (i j : ℕ) (out : List (List Entry)) (fits : Fits (joined cs) ss) (inv : IsRenewing cs ss i j out) where
  abbrev z : ℤ
  z = inv.zone

  -- above the zone nothing was put in yet
  out_none : (p : Pair) → end_of z <ℤ rank p → count_in (joined out) p ≡ 0
  out_none p h =
      let c = sections_climb lowest out inv.sections in
      let top = top_end (end_of lowest) lowest (joined out) (omega (arith, ints)) c in
      count_above (end_of lowest) (joined out) p c (omega (arith, ints, top, inv.last, h))

  -- the section that is next, with the steps up to its last zone
  module _ (m : i < length cs) (ts : List Step) (us : List Step) (split : drop j ss ≡ ts ++ us) (steps_high : (k : ℕ) (d : Step) → k < length ts → rank (get_or ts k d).pair ≤ℤ end_of (last_zone z (get_or cs i [])))
      (steps_low : StepsClimb (end_of z) ts) (steps_rest : StepsClimb (end_of (last_zone z (get_or cs i []))) us) where
    abbrev es : List Entry
    es = get_or cs i []

    abbrev z' : ℤ
    z' = last_zone z es

    abbrev here : (0 < length es) × Climbs (end_of z) es × AreSections z' (drop (suc i) cs)
    here = section_at z cs i inv.base m

    up : z ≤ℤ z'
    up = last_from z es here.1

    net_parts : (p : Pair) → net_in ss p ≡ net_in (take j ss) p +ℤ (net_in ts p +ℤ net_in us p)
    net_parts p = net_split ss j p ∙ ap (λ (x : ℤ). net_in (take j ss) p +ℤ x) (ap (λ (l : List Step). net_in l p) split ∙ net_join ts us p)

    rest_none : (p : Pair) → rank p ≤ℤ end_of z' → (count_in (joined (drop (suc i) cs)) p ≡ 0) × (net_in us p ≡ pos 0)
    rest_none p h = (count_below (end_of z') (joined (drop (suc i) cs)) p (sections_climb z' (drop (suc i) cs) here.2) h, net_below (end_of z') us p steps_rest h)

    none : (p : Pair) → (count_in es p ≡ 0) × (net_in ts p ≡ pos 0) → (n : ℕ) × (pos (count_in es p) +ℤ net_in ts p ≡ pos n) × (n < 2 ^ 32)
    none p h = (0, omega (arith, ints, h.0, h.1), omega arith)

    within : (p : Pair) → end_of z <ℤ rank p → rank p ≤ℤ end_of z' → (n : ℕ) × (pos (count_in es p) +ℤ net_in ts p ≡ pos n) × (n < 2 ^ 32)
    within p low high =
        let f = fits p in
        let r = rest_none p high in
        (f.0, omega (arith, ints, f.1, count_parts cs i p m, net_parts p, r.0, r.1, inv.counts p, out_none p low), f.2)

    pub section_fits : Fits es ts
    section_fits p =
        by_lt_z (end_of z) (rank p)
        (λ l. by_lt_z (end_of z') (rank p) (λ h. none p (none_over z es ts here.1 steps_low z' up (le_itself z') steps_high p h)) (λ h. within p l (omega (arith, ints, h))))
        (λ h. none p (none_under z es ts here.1 steps_low p (omega (arith, ints, h))))

    pub renewed_more : (j' : ℕ) (new : List (List Entry)) → drop j' ss ≡ us → IsRenewed out es ts new → IsRenewing cs ss (suc i) j' new
    renewed_more j' new e r = record {
      zone = z';
      sections = r.sections;
      last =
          let high = merged_high z es ts here.1 steps_low z' up (le_itself z') steps_high r.entries r.merged in
          omega (arith, ints, ap (λ (l : List Entry). last_zone lowest l) r.joins ∙ last_join lowest (joined out) r.entries, last_less (last_zone lowest (joined out)) z r.entries inv.last high up);
      counts = λ p.
          let n : net_in (take j' ss) p +ℤ net_in us p ≡ net_in (take j ss) p +ℤ (net_in ts p +ℤ net_in us p) = ap (λ (x : ℤ). net_in (take j' ss) p +ℤ x) (ap (λ (l : List Step). net_in l p) (sym e)) ∙ sym (net_split ss j' p) ∙ net_parts p in
          omega (arith, ints, ap (λ (l : List Entry). count_in l p) r.joins, count_join (joined out) r.entries p, inv.counts p, r.merged.counts p, count_taken cs i p m, n);
      base = here.2;
      steps = subst (λ (l : List Step). StepsClimb (end_of z') l) (sym e) steps_rest;
    }
      where
        last_less : (y w : ℤ) (fs : List Entry) → y ≤ℤ w → last_zone w fs ≤ℤ z' → w ≤ℤ z' → last_zone y fs ≤ℤ z'
        last_less y w [] a b c = omega (arith, ints, a, c)
        last_less y w (f ∷ fs) a b c = b

    pub out_climbs : (fs : List Entry) → IsMerged es ts fs → Climbs (end_of (last_zone lowest (joined out))) fs
    out_climbs fs q =
        climbs_from (end_of z) (end_of (last_zone lowest (joined out))) fs (omega (arith, ints, inv.last))
        (merged_low z es ts here.1 steps_low fs q)

  -- the steps behind the last section
  module _ (all : length cs ≤ i) where
    taken_all : take i cs ≡ cs
    taken_all = take_all i cs all

    net_rest : (p : Pair) → net_in ss p ≡ net_in (take j ss) p +ℤ net_in (drop j ss) p
    net_rest p = net_split ss j p

    pub rest_fits : Fits [] (drop j ss)
    rest_fits p =
        by_lt_z (end_of z) (rank p)
        (λ l. let f = fits p in (f.0, omega (arith, ints, f.1, net_rest p, inv.counts p, ap (λ (l : List (List Entry)). count_in (joined l) p) taken_all, out_none p l), f.2))
        (λ h. (0, omega (arith, ints, net_below (end_of z) (drop j ss) p inv.steps (omega (arith, ints, h))), omega arith))

    pub rest_climbs : (fs : List Entry) → IsMerged [] (drop j ss) fs → Climbs (end_of (last_zone lowest (joined out))) fs
    rest_climbs fs m = climbs_from (end_of z) (end_of (last_zone lowest (joined out))) fs (omega (arith, ints, inv.last)) (merged_low z [] (drop j ss) tt inv.steps fs m)

    pub rest_merged : (fs new : List Entry) → IsMerged [] (drop j ss) fs → new ≡ joined out ++ fs → IsMerged (joined cs) ss new
    rest_merged fs new m e = record {
      climbs = subst (λ (l : List Entry). Climbs floor l) (sym e)
          (end_lowest (joined out ++ fs) (climbs_join (end_of lowest) (joined out) fs (sections_climb lowest out inv.sections)
          (climbs_from (end_of (last_zone lowest (joined out))) (top_of (end_of lowest) (joined out)) fs (top_end (end_of lowest) lowest (joined out) (le_itself (end_of lowest)) (sections_climb lowest out inv.sections)) (rest_climbs fs m))));
      counts = λ p. omega (arith, ints, ap (λ (l : List Entry). count_in l p) e, count_join (joined out) fs p, inv.counts p, m.counts p, net_rest p, ap (λ (l : List (List Entry)). count_in (joined l) p) taken_all);
    }

-- ---- the loop's beginning

pub steps_lowest : (ss : List Step) → StepsClimb floor ss → StepsClimb (end_of lowest) ss
steps_lowest [] c = tt
steps_lowest (s ∷ ss) c = let k = c.2 in (omega (arith, ints, k.low_zone, k.low_key), c.1, c.2, c.3)

pub renewing_none : (cs : List (List Entry)) (ss : List Step) → AreSections lowest cs → StepsClimb floor ss → IsRenewing cs ss 0 0 []
renewing_none cs ss s c = record { zone = lowest; sections = tt; last = le_itself lowest; counts = λ p. omega (arith, ints); base = s; steps = steps_lowest ss c }

-- ---- parts of the steps

pub steps_take : (r : ℤ) (ss : List Step) (n : ℕ) → StepsClimb r ss → StepsClimb r (take n ss)
steps_take r ss zero c = tt
steps_take r [] (suc n) c = tt
steps_take r (s ∷ ss) (suc n) c = (c.0, c.1, c.2, steps_take (rank s.pair) ss n c.3)

pub steps_drop : (r r' : ℤ) (ss : List Step) (n : ℕ) → StepsClimb r ss → ((d : Step) → n < length ss → r' <ℤ rank (get_or ss n d).pair) → StepsClimb r' (drop n ss)
steps_drop r r' [] zero c h = tt
steps_drop r r' (s ∷ ss) zero c h = (h s (omega arith), c.1, c.2, c.3)
steps_drop r r' [] (suc n) c h = tt
steps_drop r r' (s ∷ ss) (suc n) c h = steps_drop (rank s.pair) r' ss n c.3 (λ d l. h d (omega arith))

pub steps_floor : (r : ℤ) (ss : List Step) → StepsClimb r ss → StepsClimb floor ss
steps_floor r [] c = tt
steps_floor r (s ∷ ss) c = let k = c.2 in (omega (arith, ints, k.low_zone, k.low_key), c.1, c.2, c.3)

-- ---- one section

pub merged_same : (es : List Entry) (ss : List Step) → ss ≡ [] → Climbs floor es → IsMerged es ss es
merged_same es ss e c = subst (λ (l : List Step). IsMerged es l es) (sym e) (record { climbs = c; counts = λ p. omega (arith, ints) })

pub renewed_whole : (old new : List (List Entry)) (es fs : List Entry) (ss : List Step) → AreSections lowest old → IsMerged es ss fs → 0 < length fs → Climbs (end_of (last_zone lowest (joined old))) fs → new ≡ old ++ fs ∷ [] → IsRenewed old es ss new
renewed_whole old new es fs ss s m h behind n = record {
  entries = fs;
  merged = m;
  sections = subst (λ (l : List (List Entry)). AreSections lowest l) (sym n) (sections_push lowest old fs s h behind);
  joins = ap joined n ∙ joined_push old fs;
}

pub renewed_same : (old new : List (List Entry)) (es : List Entry) (ss : List Step) → ss ≡ [] → AreSections lowest old → 0 < length es → Climbs floor es → ((fs : List Entry) → IsMerged es ss fs → Climbs (end_of (last_zone lowest (joined old))) fs) → new ≡ old ++ es ∷ [] → IsRenewed old es ss new
renewed_same old new es ss e s h c behind n = let m = merged_same es ss e c in renewed_whole old new es es ss s m h (behind es m) n
