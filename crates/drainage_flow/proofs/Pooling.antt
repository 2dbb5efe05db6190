-- A place that waits for nothing passes on what it has, over lists: from place to place, up to the last.
use Rattle.std.proofs.Common.{◌≡◌, ◌≢◌, ℕ, zero, suc, ◌+◌, ◌-◌, ◌<◌, ◌≤◌, Bool, true, false, cond, eqb, List, [], ◌∷◌, length, set, get_or, Option, Some, None, refl, sym, ◌∙◌, ap, arith, inl, inr, ℤ, pos, ◌+ℤ◌}
use Rattle.std.specs.Prelude.{◌≤ℤ◌, ◌<ℤ◌, not, nat_lt, is_some, IfSome}
use Rattle.std.proofs.lemmas.Int.{ints}
use Rattle.std.proofs.lemmas.Bool.{cases_Bool, cases_lt}
use Rattle.std.proofs.lemmas.Bool.Decides.{nat_tests}
use Rattle.std.proofs.lemmas.List.{get_or-set_same, get_or-set_other, get_or_default, get_or_past, length-set}
use Rattle.drainage_flow.specs.Nets.{Net, part, sum_to, is_to, inflow, IsFalling, Agrees}
use Rattle.drainage_flow.specs.Pouring.{most_load, undone, passed, IsPouring, down_in, flow_in, wait_in, laid, Places, place_in, place_of, ArePools, PassesTo, Passes}
use Rattle.drainage_flow.proofs.Sums.{sum_same, sum_plus, sum_none, sum_picked}
use Rattle.drainage_flow.proofs.Above.{to_is, peak, far_above, gathered_same}
use Rattle.drainage_flow.proofs.Mending.{same_or_not}
use Rattle.drainage_flow.proofs.Entries.{other_false, same_true}
use Rattle.drainage_flow.proofs.Pours.{part_off, sum_most, part_least, part_on, not_here, not_done, not_none, pour_stop, pour_end, pour_wait, pour_on}

-- ---- lists in place of others

module _ {X : Type 0} (first : ℕ) (xs : List X) (f : ℕ → X) where
  pub laid_below : (c : ℕ) → c < first → laid first xs f c ≡ f c
  laid_below c l = let t : nat_lt c first ≡ true = grind (arith, nat_tests) in ap (λ b. cond b (f c) (get_or xs (c - first) (f c))) t

  pub laid_past : (c : ℕ) → first ≤ c → laid first xs f c ≡ get_or xs (c - first) (f c)
  laid_past c l = let t : nat_lt c first ≡ false = grind (arith, nat_tests) in ap (λ b. cond b (f c) (get_or xs (c - first) (f c))) t

  pub laid_in : (k : ℕ) (d : X) → k < length xs → laid first xs f (first + k) ≡ get_or xs k d
  laid_in k d l =
      let e : first + k - first ≡ k = omega arith in
      laid_past (first + k) (omega arith) ∙ ap (λ j. get_or xs j (f (first + k))) e ∙ get_or_default xs k (f (first + k)) d l

  pub laid_after : (c : ℕ) → first + length xs ≤ c → laid first xs f c ≡ f c
  laid_after c l = laid_past c (omega (arith, l)) ∙ get_or_past xs (c - first) (f c) (omega (arith, l))

pub laid_set : {X : Type 0} (first : ℕ) (xs : List X) (f : ℕ → X) (k : ℕ) (v : X) → k < length xs → laid first (set xs k v) f (first + k) ≡ v
laid_set first xs f k v l = laid_in first (set xs k v) f k v (omega (arith, l, length-set xs k v)) ∙ get_or-set_same xs k v v l

pub laid_other : {X : Type 0} (first : ℕ) (xs : List X) (f : ℕ → X) (k : ℕ) (v : X) (c : ℕ) → c ≢ first + k → laid first (set xs k v) f c ≡ laid first xs f c
laid_other first xs f k v c n = elim (cases_lt c first) as (λ _. laid first (set xs k v) f c ≡ laid first xs f c) [
  | inl l ↦ laid_below first (set xs k v) f c l ∙ sym (laid_below first xs f c l)
  | inr l ↦ (let m : c - first ≢ k = λ q. n (omega (arith, q, l)) in laid_past first (set xs k v) f c l ∙ get_or-set_other xs k (c - first) v (f c) m ∙ sym (laid_past first xs f c l))
]

-- ---- numbers in a list

tests : (b c : Bool) (m k : ℕ) → cond b None (cond c (Some m) None) ≡ Some k → (b ≡ false) × (c ≡ true) × (m ≡ k)
tests true c m k e = not_none k e
tests false true m k e = (refl, refl, cc)
tests false false m k e = not_none k e

pub place_some : (first n d k : ℕ) → place_in first n d ≡ Some k → (d ≡ first + k) × (k < n)
place_some first n d k e =
    let t = tests (nat_lt d first) (nat_lt (d - first) n) (d - first) k e in
    let a : nat_lt d first ≡ false = t.0 in
    let b : nat_lt (d - first) n ≡ true = t.1 in
    let l : first ≤ d = grind (arith, nat_tests) in
    let m : d - first < n = grind (arith, nat_tests) in
    (omega (arith, l, t.2), omega (arith, m, t.2))

pub place_here : (first n k : ℕ) → k < n → place_in first n (first + k) ≡ Some k
place_here first n k l =
    let a : nat_lt (first + k) first ≡ false = grind (arith, nat_tests) in
    let b : nat_lt (first + k - first) n ≡ true = grind (arith, nat_tests) in
    ap (λ t. cond t None (cond (nat_lt (first + k - first) n) (Some (first + k - first)) None)) a ∙ ap (λ t. cond t (Some (first + k - first)) None) b ∙ ap (λ i. let o : Option ℕ = Some i in o) (omega arith)

-- ---- over lists

module _ (g : Net) (r : Places) (first n end at : ℕ) (downs : List (Option ℕ)) (waits : List ℕ) (flows : List ℤ) (p : ArePools g r first n end (Some (first + at)) downs waits flows) (in_list : at < length downs) where
  q : IsPouring g (Some (first + at)) (laid first downs r.down) (laid first flows r.flow) (laid first waits r.wait)
  q = p.pouring

  at_flow : laid first flows r.flow (first + at) ≡ flow_in flows at
  at_flow = laid_in first flows r.flow at (pos 0) (omega (arith, in_list, p.downs_count, p.flows_count))

  same_down : g.down (first + at) ≡ down_in downs at
  same_down = let o = q.own (first + at) refl in sym (q.downs (first + at) o.0 o.1) ∙ laid_in first downs r.down at None in_list

  flow_put : (k : ℕ) (z : ℤ) (x : ℕ) → k < length downs → laid first (set flows k (flow_in flows k +ℤ z)) r.flow x ≡ laid first flows r.flow x +ℤ part (is_to (Some (first + k)) x) z
  flow_put k z x l =
      let m : k < length flows = omega (arith, l, p.downs_count, p.flows_count) in
      elim (same_or_not x (first + k)) as (λ _. laid first (set flows k (flow_in flows k +ℤ z)) r.flow x ≡ laid first flows r.flow x +ℤ part (is_to (Some (first + k)) x) z) [
        | inl e ↦ rw (e) (omega (arith, ints, laid_set first flows r.flow k (flow_in flows k +ℤ z) m, laid_in first flows r.flow k (pos 0) m, part_on (eqb (first + k) (first + k)) z (same_true (first + k))))
        | inr n ↦ omega (arith, ints, laid_other first flows r.flow k (flow_in flows k +ℤ z) x n, part_off (eqb (first + k) x) z (other_false (first + k) x n))
      ]

  -- what a place does for the pools
  pub passes_on : (downs' : List (Option ℕ)) (waits' : List ℕ) (flows' : List ℤ) (next : Option ℕ) → Passes first (down_in downs at) at downs waits flows downs' waits' flows' next → ArePools g r first n end (place_of first next) downs' waits' flows'
  passes_on downs' waits' flows' next = by_down (down_in downs at) refl
    where
      by_place : (d : ℕ) → down_in downs at ≡ Some d → (o : Option ℕ) → place_in first (length downs) d ≡ o → PassesTo o at downs waits flows downs' waits' flows' next → ArePools g r first n end (place_of first next) downs' waits' flows'
      by_place d e None out h = rw (h.0, h.2, h.3)
          record {
            within = p.within;
            downs_count = p.downs_count;
            waits_count = ap length h.1 ∙ length-set waits at 0 ∙ p.waits_count;
            flows_count = p.flows_count;
            pouring = rw (h.1) (pour_stop g (first + at) (laid first downs r.down) (laid first downs r.down) (laid first flows r.flow) (laid first flows r.flow) (laid first waits r.wait) (laid first (set waits at 0) r.wait) q
                (laid_set first waits r.wait at 0 (omega (arith, in_list, p.downs_count, p.waits_count)))
                (λ x n. laid_other first waits r.wait at 0 x n));
            started = λ begin all k l. (
                let inside : d < length downs = omega (arith, all, p.downs_count, q.within (first + at) d (q.own (first + at) refl).0 (same_down ∙ e)) in
                let there : place_in first (length downs) d ≡ Some d = (let z : d ≡ 0 + d = omega arith in ap (λ j. place_in j (length downs) d) begin ∙ ap (place_in 0 (length downs)) z ∙ place_here 0 (length downs) d inside) in
                not_none d (sym out ∙ there));
          }
      by_place d e (Some k) inside h =
          let is = place_some first (length downs) d k inside in
          let to_k : g.down (first + at) ≡ Some (first + k) = same_down ∙ e ∙ ap (λ j. let o : Option ℕ = Some j in o) is.0 in
          let passes : (x : ℕ) → laid first flows' r.flow x ≡ laid first flows r.flow x +ℤ part (is_to (g.down (first + at)) x) (laid first flows r.flow (first + at))
          = λ x. ap (λ (fs : List ℤ). laid first fs r.flow x) h.1 ∙ flow_put k (flow_in flows at) x is.1 ∙ ap (λ z. laid first flows r.flow x +ℤ part (is_to (Some (first + k)) x) z) (sym at_flow) ∙ ap (λ o. laid first flows r.flow x +ℤ part (is_to o x) (laid first flows r.flow (first + at))) (sym to_k) in
          let kept : (x : ℕ) → x ≢ first + at → laid first downs' r.down x ≡ laid first downs r.down x = λ x n. ap (λ (ds : List (Option ℕ)). laid first ds r.down x) h.0 ∙ laid_other first downs r.down at None x n in
          let downs_count : length downs' ≡ n = ap length h.0 ∙ length-set downs at None ∙ p.downs_count in
          let flows_count : length flows' ≡ n = ap length h.1 ∙ length-set flows k (flow_in flows k +ℤ flow_in flows at) ∙ p.flows_count in
          let in_waits : k < length waits = omega (arith, is.1, p.downs_count, p.waits_count) in
          let here_wait : laid first waits r.wait (first + k) ≡ wait_in waits k = laid_in first waits r.wait k 0 in_waits in
          elim h.2 as (λ _. ArePools g r first n end (place_of first next) downs' waits' flows') [
            | inl a ↦ rw (a.2)
                record {
                  within = p.within;
                  downs_count = downs_count;
                  waits_count = ap length a.1 ∙ length-set waits k (wait_in waits k - 1) ∙ p.waits_count;
                  flows_count = flows_count;
                  pouring = pour_wait g (first + at) (laid first downs r.down) (laid first downs' r.down) (laid first flows r.flow) (laid first flows' r.flow) (laid first waits r.wait) (laid first waits' r.wait) q passes kept (first + k) to_k
                      (omega (arith, here_wait, a.0))
                      (ap (λ (ws : List ℕ). laid first ws r.wait (first + k)) a.1 ∙ laid_set first waits r.wait k (wait_in waits k - 1) in_waits ∙ ap (λ n. n - 1) (sym here_wait))
                      (λ x n. ap (λ (ws : List ℕ). laid first ws r.wait x) a.1 ∙ laid_other first waits r.wait k (wait_in waits k - 1) x n);
                  started = λ begin all j l. (
                      let before = p.started begin all j l in
                      elim (same_or_not j k) as (λ _. 0 < wait_in waits' j) [
                        | inl e ↦ omega (arith, ap (λ (ws : List ℕ). wait_in ws j) a.1, ap (λ i. wait_in (set waits k (wait_in waits k - 1)) i) e, get_or-set_same waits k (wait_in waits k - 1) 0 in_waits, a.0)
                        | inr n ↦ omega (arith, ap (λ (ws : List ℕ). wait_in ws j) a.1, get_or-set_other waits k j (wait_in waits k - 1) 0 n, before)
                      ]);
                }
            | inr b ↦ rw (b.2)
                record {
                  within = p.within;
                  downs_count = downs_count;
                  waits_count = ap length b.1 ∙ p.waits_count;
                  flows_count = flows_count;
                  pouring = pour_on g (first + at) (laid first downs r.down) (laid first downs' r.down) (laid first flows r.flow) (laid first flows' r.flow) (laid first waits r.wait) (laid first waits' r.wait) q passes kept (first + k) to_k
                      (omega (arith, here_wait, b.0))
                      (λ x. ap (λ (ws : List ℕ). laid first ws r.wait x) b.1);
                  started = λ begin all j l. (let before = p.started begin all j l in omega (arith, ap (λ (ws : List ℕ). wait_in ws j) b.1, before));
                }
          ]

      by_down : (o : Option ℕ) → down_in downs at ≡ o → Passes first o at downs waits flows downs' waits' flows' next → ArePools g r first n end (place_of first next) downs' waits' flows'
      by_down None e h = rw (h.0, h.1, h.2, h.3)
          record {
            within = p.within;
            downs_count = p.downs_count;
            waits_count = p.waits_count;
            flows_count = p.flows_count;
            pouring = pour_end g (first + at) (laid first downs r.down) (laid first downs r.down) (laid first flows r.flow) (laid first flows r.flow) (laid first waits r.wait) (laid first waits r.wait) q
                (λ x. omega (arith, ints, ap (λ o. part (is_to o x) (laid first flows r.flow (first + at))) (same_down ∙ e))) (λ x n. refl) (same_down ∙ e) (λ x. refl);
            started = p.started;
          }
      by_down (Some d) e h = by_place d e (place_in first (length downs) d) refl h

-- the sum of two that wait to be passed on
two_loads : (g : Net) (done : ℕ → Bool) (load : ℕ → ℤ) (c d : ℕ) → ((x : ℕ) → x < g.size → pos 0 ≤ℤ load x) → sum_to (λ x. part (not (done x)) (load x)) g.size ≤ℤ most_load → c < g.size → d < g.size → c ≢ d → done c ≡ false → done d ≡ false → (load c +ℤ load d) ≤ℤ most_load
two_loads g done load c d least most lc ld n fc fd =
    let both : sum_to (λ x. part (eqb c x) (load c) +ℤ part (eqb d x) (load d)) g.size ≡ load c +ℤ load d = sum_plus (λ x. part (eqb c x) (load c)) (λ x. part (eqb d x) (load d)) g.size ∙ omega (arith, ints, sum_picked (λ x. load c) c g.size lc, sum_picked (λ x. load d) d g.size ld) in
    let few : sum_to (λ x. part (eqb c x) (load c) +ℤ part (eqb d x) (load d)) g.size ≤ℤ sum_to (λ x. part (not (done x)) (load x)) g.size
    = sum_most (λ x. part (eqb c x) (load c) +ℤ part (eqb d x) (load d)) (λ x. part (not (done x)) (load x)) g.size (λ x l. one x l) in
    omega (arith, ints, both, few, most)
  where
    one : (x : ℕ) → x < g.size → (part (eqb c x) (load c) +ℤ part (eqb d x) (load d)) ≤ℤ part (not (done x)) (load x)
    one x l = elim (same_or_not x c) as (λ _. (part (eqb c x) (load c) +ℤ part (eqb d x) (load d)) ≤ℤ part (not (done x)) (load x)) [
      | inl q ↦ rw (q) (omega (arith, ints, part_on (eqb c c) (load c) (same_true c), part_off (eqb d c) (load d) (other_false d c n), part_on (not (done c)) (load c) (ap not fc)))
      | inr m ↦ elim (same_or_not x d) as (λ _. (part (eqb c x) (load c) +ℤ part (eqb d x) (load d)) ≤ℤ part (not (done x)) (load x)) [
        | inl q ↦ rw (q) (omega (arith, ints, part_off (eqb c d) (load c) (other_false c d (λ r. n (sym r))), part_on (eqb d d) (load d) (same_true d), part_on (not (done d)) (load d) (ap not fd)))
        | inr k ↦ omega (arith, ints, part_off (eqb c x) (load c) (other_false c x m), part_off (eqb d x) (load d) (other_false d x k), part_least (not (done x)) (load x) (least x l))
      ]
    ]

-- what a place passes on fits
pub record Fits (flows : List ℤ) (at k : ℕ) : Type 0 where
  pub low : pos 0 ≤ℤ (flow_in flows k +ℤ flow_in flows at +ℤ most_load)
  pub high : (flow_in flows k +ℤ flow_in flows at) ≤ℤ most_load

pub fits_on : (g : Net) (r : Places) (first n end at d k : ℕ) (downs : List (Option ℕ)) (waits : List ℕ) (flows : List ℤ) → ArePools g r first n end (Some (first + at)) downs waits flows → at < length downs → down_in downs at ≡ Some d → place_in first (length downs) d ≡ Some k → Fits flows at k
fits_on g r first n end at d k downs waits flows p in_list e inside =
    let q = p.pouring in
    let c = first + at in
    let f = laid first flows r.flow in
    let o = q.own c refl in
    let is = place_some first (length downs) d k inside in
    let to_d : g.down c ≡ Some d = same_down g r first n end at downs waits flows p in_list ∙ e in
    let in_net : d < g.size = q.within c d o.0 to_d in
    let within = λ (x : ℕ) (t : g.down c ≡ Some x). q.within c x o.0 t in
    let yes : is_to (g.down c) d ≡ true = ap (λ (w : Option ℕ). is_to w d) to_d ∙ same_true d in
    let no = not_here g f q.load q.done c q.core o.0 o.1 o.2 within in
    let apart : d ≢ c = λ t. (let u : is_to (g.down c) c ≡ true = ap (is_to (g.down c)) (sym t) ∙ yes in absurd (cc)) in
    let fresh : q.done d ≡ false = elim (cases_Bool (q.done d)) as (λ _. q.done d ≡ false) [ inl t ↦ (let u = not_done g f q.load q.done c q.core o.0 o.1 o.2 within d t in absurd (cc)) | inr h ↦ h ] in
    let least = λ (x : ℕ) (l : x < g.size). (let s : pos 0 ≤ℤ q.load x = omega (arith, ints, q.core.high x l, q.core.low x l) in s) in
    let two = two_loads g q.done q.load d c least q.core.loads in_net o.0 apart fresh o.1 in
    let from : f c ≡ flow_in flows at = at_flow g r first n end at downs waits flows p in_list in
    let to : f d ≡ flow_in flows k = ap f is.0 ∙ laid_in first flows r.flow k (pos 0) (omega (arith, is.1, p.downs_count, p.flows_count)) in
    record {
      low = omega (arith, ints, two, q.core.low d in_net, q.core.low c o.0, from, to);
      high = omega (arith, ints, two, q.core.high d in_net, q.core.high c o.0, from, to);
    }

pub if_some : {P : ℕ → Type 0} (o : Option ℕ) → ((d : ℕ) → o ≡ Some d → P d) → IfSome o P
if_some None h = tt
if_some (Some d) h = h d refl

-- how many places have not passed on
abbrev pub left_in : List (Option ℕ) → ℕ
left_in [] = 0
left_in (o ∷ os) = cond (is_some o) 1 0 + left_in os

pub fewer_left : (downs : List (Option ℕ)) (at d : ℕ) → down_in downs at ≡ Some d → left_in (set downs at None) < left_in downs
fewer_left [] at d e = absurd (cc)
fewer_left (o ∷ os) zero d e = less_here o e
  where
    less_here : (x : Option ℕ) → x ≡ Some d → 0 + left_in os < cond (is_some x) 1 0 + left_in os
    less_here None e = absurd (cc)
    less_here (Some b) e = omega arith
fewer_left (o ∷ os) (suc at) d e = omega (arith, fewer_left os at d e)

pub fewer_passed : (first at k : ℕ) (downs downs' : List (Option ℕ)) (waits waits' : List ℕ) (flows flows' : List ℤ) → Passes first (down_in downs at) at downs waits flows downs' waits' flows' (Some k) → left_in downs' < left_in downs
fewer_passed first at k downs downs' waits waits' flows flows' = by_down (down_in downs at) refl
  where
    by_place : (d : ℕ) → down_in downs at ≡ Some d → (o : Option ℕ) → PassesTo o at downs waits flows downs' waits' flows' (Some k) → left_in downs' < left_in downs
    by_place d e None h = not_none k (sym h.3)
    by_place d e (Some j) h = rw (h.0) (fewer_left downs at d e)

    by_down : (o : Option ℕ) → down_in downs at ≡ o → Passes first o at downs waits flows downs' waits' flows' (Some k) → left_in downs' < left_in downs
    by_down None e h = not_none k (sym h.3)
    by_down (Some d) e h = by_place d e (place_in first (length downs) d) h

pub passes_within : (first at k : ℕ) (downs downs' : List (Option ℕ)) (waits waits' : List ℕ) (flows flows' : List ℤ) → Passes first (down_in downs at) at downs waits flows downs' waits' flows' (Some k) → k < length downs'
passes_within first at k downs downs' waits waits' flows flows' = by_down (down_in downs at) refl
  where
    by_place : (d : ℕ) → (o : Option ℕ) → place_in first (length downs) d ≡ o → PassesTo o at downs waits flows downs' waits' flows' (Some k) → k < length downs'
    by_place d None e h = not_none k (sym h.3)
    by_place d (Some j) e h =
        let is = place_some first (length downs) d j e in
        let same : length downs' ≡ length downs = ap length h.0 ∙ length-set downs at None in
        elim h.2 as (λ _. k < length downs') [
          | inl a ↦ not_none k (sym a.2)
          | inr b ↦ (let q : k ≡ j = cc in omega (arith, same, is.1, q))
        ]

    by_down : (o : Option ℕ) → down_in downs at ≡ o → Passes first o at downs waits flows downs' waits' flows' (Some k) → k < length downs'
    by_down None e h = not_none k (sym h.3)
    by_down (Some d) e h = by_place d (place_in first (length downs) d) refl h

-- ---- from place to place

pub pools_begin : (g : Net) (r : Places) (first n start : ℕ) (downs : List (Option ℕ)) (waits : List ℕ) (flows : List ℤ) → ArePools g r first n start None downs waits flows → start < length downs → wait_in waits start ≡ 0 → ArePools g r first n (start + 1) (Some (first + start)) downs (set waits start 1) flows
pools_begin g r first n start downs waits flows p l z =
    let q = p.pouring in
    let c = first + start in
    let in_waits : start < length waits = omega (arith, l, p.downs_count, p.waits_count) in
    let in_net : c < g.size = omega (arith, l, p.downs_count, p.within) in
    let nil : laid first waits r.wait c ≡ 0 = laid_in first waits r.wait start 0 in_waits ∙ z in
    let one : laid first (set waits start 1) r.wait c ≡ 1 = laid_set first waits r.wait start 1 in_waits in
    let fresh : q.done c ≡ false = q.fresh c in_net nil in
    let none : (x : ℕ) → (let n : Option ℕ = None in n) ≢ Some x = λ x e. not_none x e in
    record {
      within = p.within;
      downs_count = p.downs_count;
      waits_count = length-set waits start 1 ∙ p.waits_count;
      flows_count = p.flows_count;
      pouring = record {
        done = q.done;
        load = q.load;
        core = q.core;
        downs = q.downs;
        within = q.within;
        waits = λ x m d n. (let other : x ≢ c = λ e. n (ap Some (sym e)) in ap pos (laid_other first waits r.wait start 1 x other) ∙ q.waits x m d (none x));
        fresh = λ x m w. elim (same_or_not x c) as (λ _. q.done x ≡ false) [ inl e ↦ ap q.done e ∙ fresh | inr n ↦ q.fresh x m (sym (laid_other first waits r.wait start 1 x n) ∙ w) ];
        own = λ x e. (let t : x ≡ c = cc in rw (t) (in_net, fresh, sym (q.waits c in_net fresh (none c)) ∙ ap pos nil, omega (arith, one)));
      };
      started = λ begin all k m. elim (same_or_not k start) as (λ _. 0 < wait_in (set waits start 1) k) [
        | inl e ↦ omega (arith, ap (λ j. wait_in (set waits start 1) j) e, get_or-set_same waits start 1 0 in_waits)
        | inr n ↦ omega (arith, get_or-set_other waits start k 1 0 n, p.started begin all k (omega (arith, m, n)))
      ];
    }

-- a place that isn't ready is done with
pub pools_pass : (g : Net) (r : Places) (first n start : ℕ) (downs : List (Option ℕ)) (waits : List ℕ) (flows : List ℤ) → ArePools g r first n start None downs waits flows → wait_in waits start ≢ 0 → ArePools g r first n (start + 1) None downs waits flows
pools_pass g r first n start downs waits flows p o = record {
  within = p.within;
  downs_count = p.downs_count;
  waits_count = p.waits_count;
  flows_count = p.flows_count;
  pouring = p.pouring;
  started = λ begin all k m. elim (same_or_not k start) as (λ _. 0 < wait_in waits k) [ inl e ↦ (let h : wait_in waits k ≢ 0 = rw (e) o in positive (wait_in waits k) h) | inr n ↦ p.started begin all k (omega (arith, m, n)) ];
}
  where
    positive : (k : ℕ) → k ≢ 0 → 0 < k
    positive zero h = absurd (h refl)
    positive (suc k) h = omega arith

-- ---- the end

module _ (g : Net) (h : ℕ → ℤ) (falling : IsFalling g h) (r : Places) (downs : List (Option ℕ)) (waits : List ℕ) (flows : List ℤ) (p : ArePools g r 0 g.size g.size None downs waits flows) where
  abbrev done : ℕ → Bool
  done = p.pouring.done

  not_ready : (c : ℕ) → c < g.size → done c ≡ false → inflow g (undone done) c ≢ pos 0
  not_ready c l e none =
      let here : laid 0 waits r.wait c ≡ wait_in waits c = (let z : c ≡ 0 + c = omega arith in ap (laid 0 waits r.wait) z ∙ laid_in 0 waits r.wait c 0 (omega (arith, l, p.waits_count))) in
      omega (arith, ints, p.pouring.waits c l e (λ q. not_none c q), none, here, p.started refl refl c l)

  near_done : (top : ℤ) → ((d : ℕ) → d < g.size → h d ≤ℤ top) → (k c : ℕ) → c < g.size → top <ℤ (h c +ℤ pos k) → done c ≡ true
  unfolding inflow
  near_done top most zero c l t = absurd (omega (arith, ints, most c l, t))
  near_done top most (suc k) c l t = elim (cases_Bool (done c)) as (λ _. done c ≡ true) [
    | inl y ↦ y
    | inr e ↦ (
        let none : inflow g (undone done) c ≡ pos 0 = sum_same (λ d. part (is_to (g.down d) c) (undone done d)) (λ d. pos 0) g.size (λ d m. all_in d (λ u. near_done top most k d m (omega (arith, ints, u, t))) m (is_to (g.down d) c) refl) ∙ sum_none g.size in
        absurd (not_ready c l e none))
  ]
    where
      all_in : (d : ℕ) → (h c <ℤ h d → done d ≡ true) → d < g.size → (b : Bool) → is_to (g.down d) c ≡ b → part b (undone done d) ≡ pos 0
      all_in d higher m true e = ap (λ b. part (not b) (pos 1)) (higher (falling.falls d c m (to_is (g.down d) c e)))
      all_in d higher m false e = refl

  pub all_done : (c : ℕ) → c < g.size → done c ≡ true
  all_done c l = let q = peak h g.size in let far = far_above (h c) q.0 in near_done q.0 q.1 far.0 c l far.1

  flow_here : (c : ℕ) → c < g.size → laid 0 flows r.flow c ≡ flow_in flows c
  flow_here c l = let z : c ≡ 0 + c = omega arith in ap (laid 0 flows r.flow) z ∙ laid_in 0 flows r.flow c (pos 0) (omega (arith, l, p.flows_count))

  pub pools_agree : Agrees g (flow_in flows)
  pools_agree c l = sym (flow_here c l) ∙ p.pouring.core.tied c l
      ∙ gathered_same g h falling (passed done (laid 0 flows r.flow)) (flow_in flows) c (λ d m u. part_on (done d) (laid 0 flows r.flow d) (all_done d m) ∙ flow_here d m)
