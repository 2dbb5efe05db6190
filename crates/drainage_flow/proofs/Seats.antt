-- The places of bands, one after another.
use Rattle.std.proofs.Common.{◌≡◌, ◌≢◌, ℕ, zero, suc, ◌+◌, ◌-◌, ◌<◌, ◌≤◌, Bool, true, false, cond, List, [], ◌∷◌, ◌++◌, length, get_or, set, take, drop, Option, Some, None, Result, Ok, Err, IfOk, refl, sym, ◌∙◌, ap, subst, arith, inl, inr, ℤ, pos, ◌+ℤ◌}
use Rattle.std.specs.Prelude.{◌⊎◌, IfSome}
use Rattle.std.specs.List.{flat_map, sum_by}
use Rattle.std.proofs.lemmas.List.{get_or_append_left, get_or-append_right, set-append_left, set-append_right, length-append, length-set, drop_more, drop_all, take_more, append-nil}
use Rattle.std.proofs.lemmas.List.Sums.{sum_by-cons, sum_by-append}
use Rattle.drainage_flow.specs.Nets.{Net}
use Rattle.drainage_flow.specs.Pouring.{down_in, flow_in, wait_in, place_in, Places, ArePools, TakesIn, Starts, Passes}
use Rattle.drainage_flow.specs.FlowBands.{all_downs, all_waits, all_flows, counts_of, AreEven, IsSeat}
use Rattle.drainage_flow.specs.declared.flow_band.FlowBand.{FlowBand}
use Rattle.drainage_flow.proofs.Pooling.{pools_begin, pools_pass}

-- ---- one list of each band

-- as many as there are places
abbrev pub AreAsLong : {X : Type 0} → (FlowBand → List X) → List FlowBand → Type 0
AreAsLong f [] = Unit {0}
AreAsLong f (b ∷ bs) = (length (f b) ≡ length b.downs.items) × AreAsLong f bs

pub downs_long : (bs : List FlowBand) → AreAsLong (λ b. b.downs.items) bs
downs_long [] = tt
downs_long (b ∷ bs) = (refl, downs_long bs)

pub waits_long : (bs : List FlowBand) → AreEven bs → AreAsLong (λ b. b.waits.items) bs
waits_long [] h = tt
waits_long (b ∷ bs) h = (h.0, waits_long bs h.2)

pub flows_long : (bs : List FlowBand) → AreEven bs → AreAsLong (λ b. b.flows.items) bs
flows_long [] h = tt
flows_long (b ∷ bs) h = (h.1, flows_long bs h.2)

pub seat_get : {X : Type 0} (f : FlowBand → List X) (bs : List FlowBand) (at k i : ℕ) (d : X) (e : FlowBand) → AreAsLong f bs → IsSeat (counts_of bs) at k i → get_or (flat_map f bs) at d ≡ get_or (f (get_or bs k e)) i d
seat_get f [] at k i d e h s = absurd s
seat_get f (b ∷ bs) at zero i d e h s = ap (λ j. get_or (f b ++ flat_map f bs) j d) s.0 ∙ get_or_append_left (f b) (flat_map f bs) d i (omega (arith, s.1, h.0))
seat_get f (b ∷ bs) at (suc k) i d e h s = get_or-append_right (f b) (flat_map f bs) (length b.downs.items) at d h.0 s.0 ∙ seat_get f bs (at - length b.downs.items) k i d e h.1 s.1

pub seat_set : {X : Type 0} (f : FlowBand → List X) (bs : List FlowBand) (at k i : ℕ) (b' : FlowBand) (v : X) (e : FlowBand) → AreAsLong f bs → IsSeat (counts_of bs) at k i → f b' ≡ set (f (get_or bs k e)) i v → flat_map f (set bs k b') ≡ set (flat_map f bs) at v
seat_set f [] at k i b' v e h s q = absurd s
seat_set {X} f (b ∷ bs) at zero i b' v e h s q =
    ap (λ (xs : List X). xs ++ flat_map f bs) q ∙ sym (set-append_left (f b) (flat_map f bs) i v (omega (arith, s.1, h.0))) ∙ ap (λ j. set (f b ++ flat_map f bs) j v) (sym s.0)
seat_set {X} f (b ∷ bs) at (suc k) i b' v e h s q =
    ap (λ (xs : List X). f b ++ xs) (seat_set f bs (at - length b.downs.items) k i b' v e h.1 s.1 q) ∙ sym (set-append_right (f b) (flat_map f bs) (length b.downs.items) at v h.0 s.0)

pub seat_same : {X : Type 0} (f : FlowBand → List X) (bs : List FlowBand) (k : ℕ) (b' e : FlowBand) → f b' ≡ f (get_or bs k e) → flat_map f (set bs k b') ≡ flat_map f bs
seat_same f [] k b' e q = refl
seat_same {X} f (b ∷ bs) zero b' e q = ap (λ (xs : List X). xs ++ flat_map f bs) q
seat_same {X} f (b ∷ bs) (suc k) b' e q = ap (λ (xs : List X). f b ++ xs) (seat_same f bs k b' e q)

-- ---- the bands

pub even_set : (bs : List FlowBand) (k : ℕ) (b' : FlowBand) → AreEven bs → length b'.waits.items ≡ length b'.downs.items → length b'.flows.items ≡ length b'.downs.items → AreEven (set bs k b')
even_set [] k b' h w f = tt
even_set (b ∷ bs) zero b' h w f = (w, f, h.2)
even_set (b ∷ bs) (suc k) b' h w f = (h.0, h.1, even_set bs k b' h.2 w f)

pub even_at : (bs : List FlowBand) (k : ℕ) (e : FlowBand) → AreEven bs → k < length bs → (length (get_or bs k e).waits.items ≡ length (get_or bs k e).downs.items) × (length (get_or bs k e).flows.items ≡ length (get_or bs k e).downs.items)
even_at [] k e h l = absurd (omega (arith, l))
even_at (b ∷ bs) zero e h l = (h.0, h.1)
even_at (b ∷ bs) (suc k) e h l = even_at bs k e h.2 (omega (arith, l))

pub counts_set : (bs : List FlowBand) (k : ℕ) (b' e : FlowBand) → length b'.downs.items ≡ length (get_or bs k e).downs.items → counts_of (set bs k b') ≡ counts_of bs
counts_set [] k b' e q = refl
counts_set (b ∷ bs) zero b' e q = ap (λ (n : ℕ). n ∷ counts_of bs) q
counts_set (b ∷ bs) (suc k) b' e q = ap (λ (ns : List ℕ). length b.downs.items ∷ ns) (counts_set bs k b' e q)

pub seat_within : (bs : List FlowBand) (at k i : ℕ) (e : FlowBand) → IsSeat (counts_of bs) at k i → (k < length bs) × (i < length (get_or bs k e).downs.items) × (at < length (all_downs bs))
seat_within [] at k i e s = absurd s
seat_within (b ∷ bs) at zero i e s = (omega arith, s.1, omega (arith, s.0, s.1, length-append b.downs.items (all_downs bs)))
seat_within (b ∷ bs) at (suc k) i e s = let r = seat_within bs (at - length b.downs.items) k i e s.1 in (omega (arith, r.0), r.1, omega (arith, r.2, s.0, length-append b.downs.items (all_downs bs)))

pub all_count : (bs : List FlowBand) → length (all_downs bs) ≡ sum_by (λ (n : ℕ). n) (counts_of bs)
all_count [] = refl
all_count (b ∷ bs) = omega (arith, length-append b.downs.items (all_downs bs), all_count bs, sum_by-cons (λ (n : ℕ). n) (length b.downs.items) (counts_of bs))

pub same_count : (bs cs : List FlowBand) → counts_of bs ≡ counts_of cs → length (all_downs bs) ≡ length (all_downs cs)
same_count bs cs e = all_count bs ∙ ap (sum_by (λ (n : ℕ). n)) e ∙ sym (all_count cs)

-- ---- a place is looked for

pub seat_next : (bs : List FlowBand) (at k rest count : ℕ) (b : FlowBand) → k < length bs → b ≡ get_or bs k b → count ≡ length b.downs.items → count ≤ rest → rest < length (all_downs (drop k bs)) → ((m i : ℕ) → IsSeat (counts_of (drop k bs)) rest m i → IsSeat (counts_of bs) at (k + m) i)
    → (rest - count < length (all_downs (drop (k + 1) bs))) × ((m i : ℕ) → IsSeat (counts_of (drop (k + 1) bs)) (rest - count) m i → IsSeat (counts_of bs) at (k + 1 + m) i)
seat_next bs at k rest count b l e c past within h =
    let d : drop k bs ≡ b ∷ drop (k + 1) bs = drop_more bs k b l ∙ ap (λ (x : FlowBand). x ∷ drop (k + 1) bs) (sym e) in
    let long : length (all_downs (drop k bs)) ≡ length b.downs.items + length (all_downs (drop (k + 1) bs)) = ap (λ (cs : List FlowBand). length (all_downs cs)) d ∙ length-append b.downs.items (all_downs (drop (k + 1) bs)) in (
      omega (arith, within, long, c, past),
      λ m i s. (
          let n : k + suc m ≡ k + 1 + m = omega arith in
          let t : IsSeat (length b.downs.items ∷ counts_of (drop (k + 1) bs)) rest (suc m) i = (omega (arith, c, past), subst (λ x. IsSeat (counts_of (drop (k + 1) bs)) (rest - x) m i) c s) in
          subst (λ x. IsSeat (counts_of bs) at x i) n (h (suc m) i (subst (λ (cs : List FlowBand). IsSeat (counts_of cs) rest (suc m) i) (sym d) t))),
    )

pub seat_found : (bs : List FlowBand) (at k rest count : ℕ) (b : FlowBand) → k < length bs → b ≡ get_or bs k b → count ≡ length b.downs.items → rest < count → ((m i : ℕ) → IsSeat (counts_of (drop k bs)) rest m i → IsSeat (counts_of bs) at (k + m) i) → IsSeat (counts_of bs) at k rest
seat_found bs at k rest count b l e c here h =
    let d : drop k bs ≡ b ∷ drop (k + 1) bs = drop_more bs k b l ∙ ap (λ (x : FlowBand). x ∷ drop (k + 1) bs) (sym e) in
    let t : IsSeat (length b.downs.items ∷ counts_of (drop (k + 1) bs)) rest 0 rest = (refl, omega (arith, c, here)) in
    let n : k + 0 ≡ k = omega arith in
    subst (λ x. IsSeat (counts_of bs) at x rest) n (h 0 rest (subst (λ (cs : List FlowBand). IsSeat (counts_of cs) rest 0 rest) (sym d) t))

pub seat_there : {P : Type 0} (bs : List FlowBand) (k rest : ℕ) → length bs ≤ k → rest < length (all_downs (drop k bs)) → P
seat_there bs k rest l within = absurd (omega (arith, within, ap (λ (cs : List FlowBand). length (all_downs cs)) (drop_all k bs l)))

-- place i of band k, after those of the bands before it
pub seat_at : (ns : List ℕ) (k i : ℕ) → k < length ns → i < get_or ns k 0 → IsSeat ns (sum_by (λ (n : ℕ). n) (take k ns) + i) k i
seat_at [] k i l m = absurd (omega (arith, l))
seat_at (n ∷ ns) zero i l m = (omega arith, m)
seat_at (n ∷ ns) (suc k) i l m =
    let e : sum_by (λ (n : ℕ). n) (n ∷ take k ns) ≡ n + sum_by (λ (n : ℕ). n) (take k ns) = sum_by-cons (λ (n : ℕ). n) n (take k ns) in
    let r : sum_by (λ (n : ℕ). n) (n ∷ take k ns) + i - n ≡ sum_by (λ (n : ℕ). n) (take k ns) + i = omega (arith, e) in
    (omega (arith, e), subst (λ x. IsSeat ns x k i) (sym r) (seat_at ns k i (omega (arith, l)) m))

pub sum_next : (ns : List ℕ) (k : ℕ) → k < length ns → sum_by (λ (n : ℕ). n) (take (k + 1) ns) ≡ sum_by (λ (n : ℕ). n) (take k ns) + get_or ns k 0
sum_next ns k l = ap (sum_by (λ (n : ℕ). n)) (take_more ns k 0 l) ∙ sum_by-append (λ (n : ℕ). n) (take k ns) (get_or ns k 0 ∷ []) ∙ omega (arith, sum_by-cons (λ (n : ℕ). n) (get_or ns k 0) [])

pub counts_at : (bs : List FlowBand) (k : ℕ) (e : FlowBand) → k < length bs → get_or (counts_of bs) k 0 ≡ length (get_or bs k e).downs.items
counts_at [] k e l = absurd (omega (arith, l))
counts_at (b ∷ bs) zero e l = refl
counts_at (b ∷ bs) (suc k) e l = counts_at bs k e (omega (arith, l))

pub counts_count : (bs : List FlowBand) → length (counts_of bs) ≡ length bs
counts_count [] = refl
counts_count (b ∷ bs) = omega (arith, counts_count bs)

-- ---- places of one part

pub seat_low : (ns : List ℕ) (at k i : ℕ) → IsSeat ns at k i → (k < length ns) × (i ≤ at)
seat_low [] at k i s = absurd s
seat_low (n ∷ ns) at zero i s = (omega arith, omega (arith, s.0))
seat_low (n ∷ ns) at (suc k) i s = let r = seat_low ns (at - n) k i s.1 in (omega (arith, r.0), omega (arith, r.1))

-- so many places on, as long as the part goes
pub seat_on : (ns : List ℕ) (at k i c : ℕ) → IsSeat ns at k i → i + c < get_or ns k 0 → IsSeat ns (at + c) k (i + c)
seat_on [] at k i c s l = absurd s
seat_on (n ∷ ns) at zero i c s l = (omega (arith, s.0), l)
seat_on (n ∷ ns) at (suc k) i c s l =
    let e : at - n + c ≡ at + c - n = omega (arith, s.0) in
    (omega (arith, s.0), subst (λ x. IsSeat ns x k (i + c)) e (seat_on ns (at - n) k i c s.1 l))

-- ---- a place passes on what it has

module _ (bs : List FlowBand) (even : AreEven bs) (first at k i : ℕ) (e : FlowBand) (s : IsSeat (counts_of bs) at k i) where
  abbrev b : FlowBand
  b = get_or bs k e

  abbrev n : ℕ
  n = length (all_downs bs)

  pub down_here : down_in (all_downs bs) at ≡ down_in b.downs.items i
  down_here = seat_get (λ (x : FlowBand). x.downs.items) bs at k i None e (downs_long bs) s

  pub flow_here : flow_in (all_flows bs) at ≡ flow_in b.flows.items i
  flow_here = seat_get (λ (x : FlowBand). x.flows.items) bs at k i (pos 0) e (flows_long bs even) s

  pub passes_none : down_in b.downs.items i ≡ None → Passes first (down_in (all_downs bs) at) at (all_downs bs) (all_waits bs) (all_flows bs) (all_downs bs) (all_waits bs) (all_flows bs) None
  passes_none d = rw (down_here ∙ d) (refl, refl, refl, refl)

  module _ (b' : FlowBand) (down : ℕ) (to : down_in b.downs.items i ≡ Some down) where
    pub passes_stop : place_in first n down ≡ None → b'.downs.items ≡ b.downs.items → b'.waits.items ≡ set b.waits.items i 0 → b'.flows.items ≡ b.flows.items → Passes first (down_in (all_downs bs) at) at (all_downs bs) (all_waits bs) (all_flows bs) (all_downs (set bs k b')) (all_waits (set bs k b')) (all_flows (set bs k b')) None
    passes_stop out ds ws fs = rw (down_here ∙ to) (rw out (
      seat_same (λ (x : FlowBand). x.downs.items) bs k b' e ds,
      seat_set (λ (x : FlowBand). x.waits.items) bs at k i b' 0 e (waits_long bs even) s ws,
      seat_same (λ (x : FlowBand). x.flows.items) bs k b' e fs,
      refl,
    ))

    module _ (ds : b'.downs.items ≡ set b.downs.items i None) (ws : b'.waits.items ≡ b.waits.items) (fs : b'.flows.items ≡ b.flows.items) where
      abbrev bs' : List FlowBand
      bs' = set bs k b'

      pub left_counts : counts_of bs' ≡ counts_of bs
      left_counts = counts_set bs k b' e (ap length ds ∙ length-set b.downs.items i None)

      pub left_even : AreEven bs'
      left_even =
          let l = (seat_within bs at k i e s).0 in
          let h = even_at bs k e even l in
          let same : length b'.downs.items ≡ length b.downs.items = ap length ds ∙ length-set b.downs.items i None in
          even_set bs k b' even (ap length ws ∙ h.0 ∙ sym same) (ap length fs ∙ h.1 ∙ sym same)

      left_downs : all_downs bs' ≡ set (all_downs bs) at None
      left_downs = seat_set (λ (x : FlowBand). x.downs.items) bs at k i b' None e (downs_long bs) s ds

      left_waits : all_waits bs' ≡ all_waits bs
      left_waits = seat_same (λ (x : FlowBand). x.waits.items) bs k b' e ws

      pub left_flows : all_flows bs' ≡ all_flows bs
      left_flows = seat_same (λ (x : FlowBand). x.flows.items) bs k b' e fs

      module _ (next m j : ℕ) (e' : FlowBand) (inside : place_in first n down ≡ Some next) (t : IsSeat (counts_of bs) next m j) where
        pub next_seat : IsSeat (counts_of bs') next m j
        next_seat = subst (λ (ns : List ℕ). IsSeat ns next m j) (sym left_counts) t

        abbrev there : FlowBand
        there = get_or bs' m e'

        pub flow_there : flow_in there.flows.items j ≡ flow_in (all_flows bs) next
        flow_there = sym (seat_get (λ (x : FlowBand). x.flows.items) bs' next m j (pos 0) e' (flows_long bs' left_even) next_seat) ∙ ap (λ (ys : List ℤ). flow_in ys next) left_flows

        module _ (b'' : FlowBand) (ready : Bool) (amount : ℤ) (is : amount ≡ flow_in b.flows.items i) (ds' : b''.downs.items ≡ there.downs.items) (ws' : TakesIn there.waits.items j b''.waits.items ready) (fs' : b''.flows.items ≡ set there.flows.items j (flow_in there.flows.items j +ℤ amount)) where
          wait_there : wait_in there.waits.items j ≡ wait_in (all_waits bs) next
          wait_there = sym (seat_get (λ (x : FlowBand). x.waits.items) bs' next m j 0 e' (waits_long bs' left_even) next_seat) ∙ ap (λ (ys : List ℕ). wait_in ys next) left_waits

          pub waits_count : length b''.waits.items ≡ length there.waits.items
          waits_count = elim ws' as (λ _. length b''.waits.items ≡ length there.waits.items) [
            | inl a ↦ ap length a.1 ∙ length-set there.waits.items j (wait_in there.waits.items j - 1)
            | inr a ↦ ap length a.1
          ]

          pub taken_counts : counts_of (set bs' m b'') ≡ counts_of bs
          taken_counts = counts_set bs' m b'' e' (ap length ds') ∙ left_counts

          pub taken_even : AreEven (set bs' m b'')
          taken_even =
              let l = (seat_within bs' next m j e' next_seat).0 in
              let h = even_at bs' m e' left_even l in
              even_set bs' m b'' left_even (waits_count ∙ h.0 ∙ sym (ap length ds')) (ap length fs' ∙ length-set there.flows.items j (flow_in there.flows.items j +ℤ amount) ∙ h.1 ∙ sym (ap length ds'))

          taken_flows : all_flows (set bs' m b'') ≡ set (all_flows bs) next (flow_in (all_flows bs) next +ℤ flow_in (all_flows bs) at)
          taken_flows =
              seat_set (λ (x : FlowBand). x.flows.items) bs' next m j b'' (flow_in there.flows.items j +ℤ amount) e' (flows_long bs' left_even) next_seat fs'
              ∙ ap (λ (ys : List ℤ). set ys next (flow_in there.flows.items j +ℤ amount)) left_flows
              ∙ ap (λ (z : ℤ). set (all_flows bs) next (z +ℤ amount)) flow_there
              ∙ ap (λ (z : ℤ). set (all_flows bs) next (flow_in (all_flows bs) next +ℤ z)) (is ∙ sym flow_here)

          pub passes_to : Passes first (down_in (all_downs bs) at) at (all_downs bs) (all_waits bs) (all_flows bs) (all_downs (set bs' m b'')) (all_waits (set bs' m b'')) (all_flows (set bs' m b'')) (cond ready (Some next) None)
          passes_to = rw (down_here ∙ to) (rw inside (
            seat_same (λ (x : FlowBand). x.downs.items) bs' m b'' e' ds' ∙ left_downs,
            taken_flows,
            elim ws' as (λ _. ((1 < wait_in (all_waits bs) next) × (all_waits (set bs' m b'') ≡ set (all_waits bs) next (wait_in (all_waits bs) next - 1)) × (cond ready (Some next) None ≡ None)) ⊎ ((wait_in (all_waits bs) next ≤ 1) × (all_waits (set bs' m b'') ≡ all_waits bs) × (cond ready (Some next) None ≡ Some next))) [
              | inl a ↦ inl (
                omega (arith, a.0, wait_there),
                seat_set (λ (x : FlowBand). x.waits.items) bs' next m j b'' (wait_in there.waits.items j - 1) e' (waits_long bs' left_even) next_seat a.1
                    ∙ ap (λ (ys : List ℕ). set ys next (wait_in there.waits.items j - 1)) left_waits ∙ ap (λ (w : ℕ). set (all_waits bs) next (w - 1)) wait_there,
                ap (λ (r : Bool). cond r (Some next) None) a.2,
              )
              | inr a ↦ inr (
                omega (arith, a.0, wait_there),
                seat_same (λ (x : FlowBand). x.waits.items) bs' m b'' e' a.1 ∙ left_waits,
                ap (λ (r : Bool). cond r (Some next) None) a.2,
              )
            ],
          ))

          pub passes_ready : ready ≡ true → Passes first (down_in (all_downs bs) at) at (all_downs bs) (all_waits bs) (all_flows bs) (all_downs (set bs' m b'')) (all_waits (set bs' m b'')) (all_flows (set bs' m b'')) (Some next)
          passes_ready r = subst (λ (x : Bool). Passes first (down_in (all_downs bs) at) at (all_downs bs) (all_waits bs) (all_flows bs) (all_downs (set bs' m b'')) (all_waits (set bs' m b'')) (all_flows (set bs' m b'')) (cond x (Some next) None)) r passes_to

          pub passes_waits : ready ≡ false → Passes first (down_in (all_downs bs) at) at (all_downs bs) (all_waits bs) (all_flows bs) (all_downs (set bs' m b'')) (all_waits (set bs' m b'')) (all_flows (set bs' m b'')) None
          passes_waits r = subst (λ (x : Bool). Passes first (down_in (all_downs bs) at) at (all_downs bs) (all_waits bs) (all_flows bs) (all_downs (set bs' m b'')) (all_waits (set bs' m b'')) (all_flows (set bs' m b'')) (cond x (Some next) None)) r passes_to

-- what a place has is found in its band
pub flow_found : (bs : List FlowBand) (at k i : ℕ) (b : FlowBand) → AreEven bs → IsSeat (counts_of bs) at k i → b ≡ get_or bs k b → (i < length b.flows.items) × (flow_in b.flows.items i ≡ flow_in (all_flows bs) at)
flow_found bs at k i b even s e =
    let w = seat_within bs at k i b s in
    let count : length b.flows.items ≡ length (get_or bs k b).downs.items = ap (λ (x : FlowBand). length x.flows.items) e ∙ (even_at bs k b even w.0).1 in
    (omega (arith, w.1, count), ap (λ (x : FlowBand). flow_in x.flows.items i) e ∙ sym (flow_here bs even 0 at k i b s))

-- ---- a place starts

module _ (bs : List FlowBand) (even : AreEven bs) (at k i : ℕ) (e b' : FlowBand) (s : IsSeat (counts_of bs) at k i) (ds : b'.downs.items ≡ (get_or bs k e).downs.items) (fs : b'.flows.items ≡ (get_or bs k e).flows.items) where
  pub start_counts : counts_of (set bs k b') ≡ counts_of bs
  start_counts = counts_set bs k b' e (ap length ds)

  pub start_downs : all_downs (set bs k b') ≡ all_downs bs
  start_downs = seat_same (λ (x : FlowBand). x.downs.items) bs k b' e ds

  pub start_flows : all_flows (set bs k b') ≡ all_flows bs
  start_flows = seat_same (λ (x : FlowBand). x.flows.items) bs k b' e fs

  pub start_even : length b'.waits.items ≡ length (get_or bs k e).waits.items → AreEven (set bs k b')
  start_even w =
      let h = even_at bs k e even (seat_within bs at k i e s).0 in
      even_set bs k b' even (w ∙ h.0 ∙ sym (ap length ds)) (ap length fs ∙ h.1 ∙ sym (ap length ds))

  pub start_waits : b'.waits.items ≡ set (get_or bs k e).waits.items i 1 → all_waits (set bs k b') ≡ set (all_waits bs) at 1
  start_waits ws = seat_set (λ (x : FlowBand). x.waits.items) bs at k i b' 1 e (waits_long bs even) s ws

  pub same_waits : b'.waits.items ≡ (get_or bs k e).waits.items → all_waits (set bs k b') ≡ all_waits bs
  same_waits ws = seat_same (λ (x : FlowBand). x.waits.items) bs k b' e ws

  -- it is in hand
  pub started : (g : Net) (r : Places) (first n : ℕ) → wait_in (get_or bs k e).waits.items i ≡ 0 → b'.waits.items ≡ set (get_or bs k e).waits.items i 1 → ArePools g r first n at None (all_downs bs) (all_waits bs) (all_flows bs) → ArePools g r first n (at + 1) (Some (first + at)) (all_downs (set bs k b')) (all_waits (set bs k b')) (all_flows (set bs k b'))
  started g r first n none ws p =
      let here : wait_in (all_waits bs) at ≡ 0 = seat_get (λ (x : FlowBand). x.waits.items) bs at k i 0 e (waits_long bs even) s ∙ none in
      rw (start_downs, start_waits ws, start_flows) (pools_begin g r first n at (all_downs bs) (all_waits bs) (all_flows bs) p (seat_within bs at k i e s).2 here)

  -- it isn't ready
  pub passed : (g : Net) (r : Places) (first n : ℕ) → wait_in (get_or bs k e).waits.items i ≢ 0 → b'.waits.items ≡ (get_or bs k e).waits.items → ArePools g r first n at None (all_downs bs) (all_waits bs) (all_flows bs) → ArePools g r first n (at + 1) None (all_downs (set bs k b')) (all_waits (set bs k b')) (all_flows (set bs k b'))
  passed g r first n some ws p =
      let here : wait_in (all_waits bs) at ≢ 0 = λ q. some (sym (seat_get (λ (x : FlowBand). x.waits.items) bs at k i 0 e (waits_long bs even) s) ∙ q) in
      rw (start_downs, same_waits ws, start_flows) (pools_pass g r first n at (all_downs bs) (all_waits bs) (all_flows bs) p here)

pub starts_yes : (ws : List ℕ) (i : ℕ) (ws' : List ℕ) (r : Bool) → Starts ws i ws' r → r ≡ true → (wait_in ws i ≡ 0) × (ws' ≡ set ws i 1)
starts_yes ws i ws' r h e = elim h as (λ _. (wait_in ws i ≡ 0) × (ws' ≡ set ws i 1)) [
  | inl a ↦ (a.0, a.1)
  | inr a ↦ (let q : true ≡ false = sym e ∙ a.2 in absurd (cc))
]

pub starts_no : (ws : List ℕ) (i : ℕ) (ws' : List ℕ) (r : Bool) → Starts ws i ws' r → r ≡ false → (wait_in ws i ≢ 0) × (ws' ≡ ws)
starts_no ws i ws' r h e = elim h as (λ _. (wait_in ws i ≢ 0) × (ws' ≡ ws)) [
  | inl a ↦ (let q : true ≡ false = sym a.2 ∙ e in absurd (cc))
  | inr a ↦ (a.0, a.1)
]

pub starts_count : (ws : List ℕ) (i : ℕ) (ws' : List ℕ) (r : Bool) → Starts ws i ws' r → length ws' ≡ length ws
starts_count ws i ws' r h = elim h as (λ _. length ws' ≡ length ws) [ inl a ↦ ap length a.1 ∙ length-set ws i 1 | inr a ↦ ap length a.1 ]

pub told : (P : ℕ → Type 0) (o : Option ℕ) (d : ℕ) → o ≡ Some d → IfSome o P → P d
told P o d e h = subst (λ (x : Option ℕ). IfSome x P) e h

pub if_ok : {A E : Type 0} {P Q : A → Type 0} (r : Result A E) → ((a : A) → P a → Q a) → IfOk r P → IfOk r Q
if_ok (Ok a) h p = h a p
if_ok (Err e) h p = tt

-- one band alone
pub last_alone : (bs rest : List FlowBand) (b : FlowBand) (n : ℕ) → counts_of bs ≡ n ∷ [] → bs ≡ rest ++ b ∷ [] → bs ≡ b ∷ []
last_alone bs [] b n c e = e
last_alone bs (x ∷ rest) b n c e =
    let one : length bs ≡ 1 = sym (counts_count bs) ∙ ap length c in
    absurd (omega (arith, one, ap length e, length-append (x ∷ rest) (b ∷ [])))

pub alone : (g : Net) (r : Places) (first n end : ℕ) (bs : List FlowBand) (b : FlowBand) → bs ≡ b ∷ [] → ArePools g r first n end None (all_downs bs) (all_waits bs) (all_flows bs) → ArePools g r first n end None b.downs.items b.waits.items b.flows.items
alone g r first n end bs b e p =
    let q : ArePools g r first n end None (b.downs.items ++ []) (b.waits.items ++ []) (b.flows.items ++ []) = subst (λ (cs : List FlowBand). ArePools g r first n end None (all_downs cs) (all_waits cs) (all_flows cs)) e p in
    subst (λ (xs : List (Option ℕ)). ArePools g r first n end None xs b.waits.items b.flows.items) (append-nil b.downs.items)
    (subst (λ (ws : List ℕ). ArePools g r first n end None (b.downs.items ++ []) ws b.flows.items) (append-nil b.waits.items)
    (subst (λ (fs : List ℤ). ArePools g r first n end None (b.downs.items ++ []) (b.waits.items ++ []) fs) (append-nil b.flows.items) q))

pub in_alone : (g : Net) (r : Places) (first n end : ℕ) (bs : List FlowBand) (b : FlowBand) → bs ≡ b ∷ [] → ArePools g r first n end None b.downs.items b.waits.items b.flows.items → ArePools g r first n end None (all_downs bs) (all_waits bs) (all_flows bs)
in_alone g r first n end bs b e p = rw (e) (rw (append-nil b.downs.items, append-nil b.waits.items, append-nil b.flows.items) p)
