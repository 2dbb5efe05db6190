-- Steps put together.
use Rattle.std.proofs.Common.{◌≡◌, ◌≢◌, ℕ, zero, suc, ◌+◌, ◌<◌, ◌≤◌, Bool, true, false, cond, List, [], ◌∷◌, ◌++◌, length, get_or, take, fold, IsPermutation, refl, sym, ◌∙◌, ap, subst, arith, ℤ, pos, negsuc, ◌<ℤ◌, ◌≤ℤ◌, ◌+ℤ◌}
use Rattle.std.specs.Ordering.{int_eq, int_cmp, is_lt}
use Rattle.std.specs.List.Sorted.{IsSortedBy}
use Rattle.std.proofs.lemmas.Int.{ints}
use Rattle.std.proofs.lemmas.Bool.Decides.{Decides-int_eq}
use Rattle.map_nums.proofs.Exchanges.{along_permutation}
use Rattle.zonal_totals.specs.declared.pairs.Pair.{Pair}
use Rattle.zonal_totals.specs.declared.steps.Step.{Step}
use Rattle.zonal_totals.specs.Pairs.{same_pair, rank, floor, IsShort}
use Rattle.zonal_totals.specs.Steps.{step_at, net_in, size, weight, top_step, StepsClimb, StepsRise, AllShort}
use Rattle.zonal_totals.specs.Settled.{kept, meet, put_step, settled}
use Rattle.zonal_totals.proofs.Climbing.{pair_is, pair_other, pair_itself, rank_apart, short_floor}

-- ---- weights

pub size_bounds : (z : ℤ) → (z ≤ℤ pos (size z)) × (pos 0 ≤ℤ (z +ℤ pos (size z)))
size_bounds (pos n) = (omega (arith, ints), omega (arith, ints))
size_bounds (negsuc n) = (omega (arith, ints), omega (arith, ints))

size_least : (z : ℤ) (n : ℕ) → z ≤ℤ pos n → pos 0 ≤ℤ (z +ℤ pos n) → size z ≤ n
size_least (pos m) n h k = omega (arith, ints, h)
size_least (negsuc m) n h k = omega (arith, ints, k)

pub size_sum : (a b : ℤ) → size (a +ℤ b) ≤ size a + size b
size_sum a b =
    let p = size_bounds a in
    let q = size_bounds b in
    size_least (a +ℤ b) (size a + size b) (omega (arith, ints, p.0, q.0)) (omega (arith, ints, p.1, q.1))

pub weight_at : (ss : List Step) (i : ℕ) (d : Step) → i < length ss → weight (take i ss) + size (get_or ss i d).by ≤ weight ss
weight_at [] i d h = absurd (omega arith)
weight_at (s ∷ ss) zero d h = omega arith
weight_at (s ∷ ss) (suc i) d h = omega (arith, weight_at ss i d (omega arith))

pub weight_join : (ss us : List Step) → weight (ss ++ us) ≡ weight ss + weight us
weight_join [] us = omega arith
weight_join (s ∷ ss) us = omega (arith, weight_join ss us)

kept_weight_by : (s : Step) (b : Bool) → weight (cond b [] (s ∷ [])) ≤ size s.by
kept_weight_by s true = omega arith
kept_weight_by s false = omega arith

pub kept_weight : (s : Step) → weight (kept s) ≤ size s.by
kept_weight s = kept_weight_by s (int_eq s.by (pos 0))

meet_weight_by : (t s : Step) (b : Bool) → weight (cond b (kept (record { pair = s.pair; by = t.by +ℤ s.by })) (t ∷ kept s)) ≤ size t.by + size s.by
meet_weight_by t s true = omega (arith, kept_weight (record { pair = s.pair; by = t.by +ℤ s.by }), size_sum t.by s.by)
meet_weight_by t s false = omega (arith, kept_weight s)

pub put_weight : (ss : List Step) (s : Step) → weight (put_step ss s) ≤ weight ss + size s.by
put_weight [] s = omega (arith, kept_weight s)
put_weight (t ∷ []) s = omega (arith, meet_weight_by t s (same_pair t.pair s.pair))
put_weight (t ∷ u ∷ ss) s = omega (arith, put_weight (u ∷ ss) s)

pub put_push : (ss : List Step) (t s : Step) → put_step (ss ++ t ∷ []) s ≡ ss ++ meet t s
put_push [] t s = refl
put_push (x ∷ []) t s = refl
put_push (x ∷ y ∷ ss) t s = ap (λ l. x ∷ l) (put_push (y ∷ ss) t s)

-- ---- nets

kept_net_by : (s : Step) (p : Pair) (b : Bool) → int_eq s.by (pos 0) ≡ b → net_in (cond b [] (s ∷ [])) p ≡ step_at s p
kept_net_by s p true e =
    let z : s.by ≡ pos 0 = (Decides-int_eq s.by (pos 0)).0 e in
    elim (same_pair s.pair p) as (λ b. pos 0 ≡ cond b s.by (pos 0)) [ true ↦ sym z | false ↦ refl ]
kept_net_by s p false e = omega (arith, ints)

pub kept_net : (s : Step) (p : Pair) → net_in (kept s) p ≡ step_at s p
kept_net s p = kept_net_by s p (int_eq s.by (pos 0)) refl

sum_at : (t s : Step) (p : Pair) (b : Bool) → cond b (t.by +ℤ s.by) (pos 0) ≡ cond b t.by (pos 0) +ℤ cond b s.by (pos 0)
sum_at t s p true = refl
sum_at t s p false = refl

meet_net_by : (t s : Step) (p : Pair) (b : Bool) → same_pair t.pair s.pair ≡ b → net_in (cond b (kept (record { pair = s.pair; by = t.by +ℤ s.by })) (t ∷ kept s)) p ≡ step_at t p +ℤ step_at s p
meet_net_by t s p true e =
    let same = pair_is t.pair s.pair e in
    kept_net (record { pair = s.pair; by = t.by +ℤ s.by }) p ∙ sum_at t s p (same_pair s.pair p) ∙ ap (λ (q : Pair). cond (same_pair q p) t.by (pos 0) +ℤ step_at s p) (sym same)
meet_net_by t s p false e = ap (λ z. step_at t p +ℤ z) (kept_net s p)

pub put_net : (ss : List Step) (s : Step) (p : Pair) → net_in (put_step ss s) p ≡ net_in ss p +ℤ step_at s p
put_net [] s p = kept_net s p ∙ omega (arith, ints)
put_net (t ∷ []) s p = meet_net_by t s p (same_pair t.pair s.pair) refl ∙ omega (arith, ints)
put_net (t ∷ u ∷ ss) s p = omega (arith, ints, put_net (u ∷ ss) s p)

settled_net_from : (ss acc : List Step) (p : Pair) → net_in (fold put_step acc ss) p ≡ net_in acc p +ℤ net_in ss p
settled_net_from [] acc p = omega (arith, ints)
settled_net_from (s ∷ ss) acc p = omega (arith, ints, settled_net_from ss (put_step acc s) p, put_net acc s p)

pub settled_net : (ss : List Step) (p : Pair) → net_in (settled ss) p ≡ net_in ss p
settled_net ss p = omega (arith, ints, settled_net_from ss [] p)

pub net-permutation : (ss us : List Step) → IsPermutation ss us → (p : Pair) → net_in ss p ≡ net_in us p
net-permutation =
    along_permutation (λ ss us. (p : Pair) → net_in ss p ≡ net_in us p) (λ ss p. refl) (λ s ss us h p. ap (λ z. step_at s p +ℤ z) (h p)) (λ s t ss p. omega (arith, ints)) (λ ss us vs h k p. h p ∙ k p)

pub weight-permutation : (ss us : List Step) → IsPermutation ss us → weight ss ≡ weight us
weight-permutation =
    along_permutation (λ ss us. weight ss ≡ weight us) (λ ss. refl) (λ s ss us h. ap (λ n. size s.by + n) h) (λ s t ss. omega arith) (λ ss us vs h k. h ∙ k)

-- ---- order

not_zero : (z : ℤ) → int_eq z (pos 0) ≡ false → z ≢ pos 0
not_zero z e h = let t : int_eq z (pos 0) ≡ true = (Decides-int_eq z (pos 0)).1 h in cc

abbrev IsPut : ℤ → List Step → ℤ → Type 0
IsPut r ss t = StepsClimb r ss × (top_step r ss ≤ℤ t)

kept_climbs_by : (r : ℤ) (s : Step) (b : Bool) → int_eq s.by (pos 0) ≡ b → r <ℤ rank s.pair → IsShort s.pair → IsPut r (cond b [] (s ∷ [])) (rank s.pair)
kept_climbs_by r s true e h k = (tt, omega (arith, ints))
kept_climbs_by r s false e h k = ((h, not_zero s.by e, k, tt), omega (arith, ints))

kept_climbs : (r : ℤ) (s : Step) → r <ℤ rank s.pair → IsShort s.pair → IsPut r (kept s) (rank s.pair)
kept_climbs r s h k = kept_climbs_by r s (int_eq s.by (pos 0)) refl h k

meet_climbs_by : (r : ℤ) (t s : Step) (b : Bool) → same_pair t.pair s.pair ≡ b → r <ℤ rank t.pair → t.by ≢ pos 0 → IsShort t.pair → rank t.pair ≤ℤ rank s.pair → IsShort s.pair → IsPut r (cond b (kept (record { pair = s.pair; by = t.by +ℤ s.by })) (t ∷ kept s)) (rank s.pair)
meet_climbs_by r t s true e h n k l m = kept_climbs r (record { pair = s.pair; by = t.by +ℤ s.by }) (omega (arith, ints, h, l)) m
meet_climbs_by r t s false e h n k l m = let up = kept_climbs (rank t.pair) s (rank_apart t.pair s.pair k m l e) m in ((h, n, k, up.0), up.1)

pub put_climbs : (r : ℤ) (ss : List Step) (s : Step) → StepsClimb r ss → r <ℤ rank s.pair → top_step r ss ≤ℤ rank s.pair → IsShort s.pair → IsPut r (put_step ss s) (rank s.pair)
put_climbs r [] s c h l k = kept_climbs r s h k
put_climbs r (t ∷ []) s c h l k = meet_climbs_by r t s (same_pair t.pair s.pair) refl c.0 c.1 c.2 l k
put_climbs r (t ∷ u ∷ ss) s c h l k =
    let above : rank t.pair <ℤ rank s.pair = omega (arith, ints, c.3.0, steps_top (rank u.pair) ss c.3.3, l) in
    let up = put_climbs (rank t.pair) (u ∷ ss) s c.3 above l k in
    ((c.0, c.1, c.2, up.0), up.1)
  where
    steps_top : (r : ℤ) (ss : List Step) → StepsClimb r ss → r ≤ℤ top_step r ss
    steps_top r [] c = omega (arith, ints)
    steps_top r (s ∷ ss) c = omega (arith, ints, c.0, steps_top (rank s.pair) ss c.3)

rises_from : (r r' : ℤ) (ss : List Step) → r' ≤ℤ r → StepsRise r ss → StepsRise r' ss
rises_from r r' [] h c = tt
rises_from r r' (s ∷ ss) h c = (omega (arith, ints, c.0), c.1)

settled_from : (ss acc : List Step) → StepsClimb floor acc → StepsRise (top_step floor acc) ss → AllShort ss → StepsClimb floor (fold put_step acc ss)
settled_from [] acc c h k = c
settled_from (s ∷ ss) acc c h k =
    let up = put_climbs floor acc s c (short_floor s.pair k.0) h.0 k.0 in
    settled_from ss (put_step acc s) up.0 (rises_from (rank s.pair) (top_step floor (put_step acc s)) ss up.1 h.1) k.1

pub settled_climbs : (ss : List Step) → StepsRise floor ss → AllShort ss → StepsClimb floor (settled ss)
settled_climbs ss h k = settled_from ss [] tt h k

not_less : (a b : ℤ) → is_lt (int_cmp a b) ≡ false → b ≤ℤ a
not_less a b h = grind (arith, ints)

sorted_rises : (r : ℤ) (ss : List Step) → AllShort ss → ((d : Step) → 0 < length ss → r ≤ℤ rank (get_or ss 0 d).pair) → ((k : ℕ) (d : Step) → k + 1 < length ss → rank (get_or ss k d).pair ≤ℤ rank (get_or ss (k + 1) d).pair) → StepsRise r ss
sorted_rises r [] k f h = tt
sorted_rises r (s ∷ []) k f h = (f s (omega arith), tt)
sorted_rises r (s ∷ t ∷ ss) k f h = (
  f s (omega arith),
  sorted_rises (rank s.pair) (t ∷ ss) k.1 (λ d l. h 0 d (omega arith)) (λ i d l.
      let e : suc i + 1 ≡ suc (i + 1) = omega arith in
      subst (λ n. rank (get_or (t ∷ ss) i d).pair ≤ℤ rank (get_or (s ∷ t ∷ ss) n d).pair) e (h (suc i) d (omega arith))),
)

pub rises_sorted : (ss : List Step) → AllShort ss → IsSortedBy (λ (s t : Step). is_lt (int_cmp (rank s.pair) (rank t.pair))) ss → StepsRise floor ss
rises_sorted [] k h = tt
rises_sorted (s ∷ ss) k h = sorted_rises floor (s ∷ ss) k (λ d l. let f = short_floor s.pair k.0 in omega (arith, ints, f)) (λ i d l. not_less _ _ (h i d (omega arith) l))

-- ---- what ranks elsewhere

pub net_below : (r : ℤ) (ss : List Step) (p : Pair) → StepsClimb r ss → rank p ≤ℤ r → net_in ss p ≡ pos 0
net_below r [] p c h = refl
net_below r (s ∷ ss) p c h =
    let n : rank s.pair ≢ rank p = λ q. omega (arith, ints, c.0, q) in
    rw (pair_other s.pair p n, net_below (rank s.pair) ss p c.3 (omega (arith, ints, c.0))) refl

-- a step is above those before it
pub top_before : (r : ℤ) (ss : List Step) (i : ℕ) (d : Step) → StepsClimb r ss → i < length ss → top_step r (take i ss) <ℤ rank (get_or ss i d).pair
top_before r [] i d c h = absurd (omega arith)
top_before r (s ∷ ss) zero d c h = c.0
top_before r (s ∷ ss) (suc i) d c h = top_before (rank s.pair) ss i d c.3 (omega arith)

pub top_push : (r : ℤ) (ss : List Step) (s : Step) → top_step r (ss ++ s ∷ []) ≡ rank s.pair
top_push r [] s = refl
top_push r (t ∷ ss) s = top_push (rank t.pair) ss s

pub short_push : (ss : List Step) (s : Step) → AllShort ss → IsShort s.pair → AllShort (ss ++ s ∷ [])
short_push [] s a k = (k, tt)
short_push (t ∷ ss) s a k = (a.0, short_push ss s a.1 k)

pub settled_push : (ss acc : List Step) (s : Step) → fold put_step acc (ss ++ s ∷ []) ≡ put_step (fold put_step acc ss) s
settled_push [] acc s = refl
settled_push (t ∷ ss) acc s = settled_push ss (put_step acc t) s

settled_weight_from : (ss acc : List Step) → weight (fold put_step acc ss) ≤ weight acc + weight ss
settled_weight_from [] acc = omega arith
settled_weight_from (s ∷ ss) acc = omega (arith, settled_weight_from ss (put_step acc s), put_weight acc s)

pub settled_weight : (ss : List Step) → weight (settled ss) ≤ weight ss
settled_weight ss = omega (arith, settled_weight_from ss [])

pub meet_same : (t s : Step) → t.pair ≡ s.pair → meet t s ≡ kept (record { pair = s.pair; by = t.by +ℤ s.by })
meet_same t s e = let P : Pair → Type 0 = λ x. same_pair x s.pair ≡ true in let w : same_pair t.pair s.pair ≡ true = subst P (sym e) (pair_itself s.pair) in rw (w) refl

pub meet_other : (t s : Step) → same_pair t.pair s.pair ≡ false → meet t s ≡ t ∷ kept s
meet_other t s w = rw (w) refl
