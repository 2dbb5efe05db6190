-- The flow within bands, and that of the map from theirs.
use Rattle.std.proofs.Common.{◌≡◌, ◌≢◌, min, ℕ, zero, suc, ◌+◌, ◌-◌, ◌*◌, ◌<◌, ◌≤◌, Bool, true, false, cond, List, [], ◌∷◌, ◌++◌, length, get_or, take, drop, Option, Some, None, refl, sym, ◌∙◌, ap, subst, arith, inl, inr, append_assoc, ℤ, pos, ◌+ℤ◌}
use Rattle.std.specs.Prelude.{◌⊎◌, slice_set, IfSome}
use Rattle.std.specs.List.{flat_map}
use Rattle.std.proofs.lemmas.Int.{ints}
use Rattle.std.proofs.lemmas.Bool.{cases_lt}
use Rattle.std.proofs.lemmas.Nat.{mul-le}
use Rattle.std.proofs.lemmas.List.{get_or_append_left, get_or-append_right, get_or_default, get_or_past, get_or-set_same, get_or-set_other, length-append, length-set, length-take, length-drop, append-nil, drop_more, drop_all}
use Rattle.std.proofs.Math.Nat.{min-eq_left, min-eq_right}
use Rattle.map_nums.specs.Grids.{Size, IsSize, Cells, cell_at, cells_in, row_of, column_of}
use Rattle.map_defs.specs.Drainage.{winner_at}
use Rattle.map_defs.specs.Flow.{downstream_of}
use Rattle.drainage_flow.specs.Nets.{Net, part, sum_to, is_to, inflow}
use Rattle.drainage_flow.specs.FlowNets.{IsSmall, number_of, brought, weight_at, net_of}
use Rattle.drainage_flow.specs.Pouring.{down_in, flow_in, wait_in, laid, Places, IsPouring, ArePools, place_in, number_to, waited, AddsWaits}
use Rattle.drainage_flow.specs.Steepest.{offset_at, IsStep}
use Rattle.drainage_flow.specs.Bands.{AreDowns}
use Rattle.drainage_flow.specs.First.{AreBrought, AreFlows}
use Rattle.drainage_flow.specs.FlowBands.{AreBegun, ArePouring, in_place, IsFlowBand, AreFlowBands, AreEven, all_downs, all_waits, all_flows}
use Rattle.drainage_flow.specs.declared.flow_band.FlowBand.{FlowBand}
use Rattle.drainage_flow.proofs.Sums.{sum_same, sum_none}
use Rattle.drainage_flow.proofs.Downs.{row_cell}
use Rattle.drainage_flow.proofs.Places.{place_lines}
use Rattle.drainage_flow.proofs.Steepest.{winner_few, downstream_none, downstream_some}
use Rattle.drainage_flow.proofs.Mending.{same_or_not}
use Rattle.drainage_flow.proofs.Entries.{other_false, same_true}
use Rattle.drainage_flow.proofs.Pours.{not_none, part_off, pour_first, pour_same}
use Rattle.drainage_flow.proofs.Pooling.{laid_below, laid_past, laid_in, laid_after, place_some, place_here, pools_agree}
use Rattle.drainage_flow.proofs.Masses.{net_falls, agreeing_is_flow}

-- ---- how many drain to a place

sum_parts : (f : ℕ → ℤ) (a b : ℕ) → sum_to f (a + b) ≡ sum_to f a +ℤ sum_to (λ d. f (a + d)) b
sum_parts f a zero = let z : a + 0 ≡ a = omega arith in omega (arith, ints, ap (sum_to f) z)
sum_parts f a (suc b) =
    let e : a + suc b ≡ suc (a + b) = omega arith in
    ap (sum_to f) e ∙ omega (arith, ints, sum_parts f a b)

pub rows_parts : (a b c w : ℕ) → c ≡ a + b → c * w ≡ a * w + b * w
rows_parts a b c w e = ap (λ n. n * w) e ∙ omega arith

sum_zero : (f : ℕ → ℤ) (n : ℕ) → ((d : ℕ) → d < n → f d ≡ pos 0) → sum_to f n ≡ pos 0
sum_zero f n h = sum_same f (λ d. pos 0) n h ∙ sum_none n

-- one more place is counted
pub waits_none : (downs : List (Option ℕ)) (first : ℕ) (waits : List ℕ) → AddsWaits downs 0 first waits waits
waits_none downs first waits = record { count = refl; each = λ k l. omega (arith, ints); few = λ k. omega arith }

is_one : (o : Option ℕ) (c : ℕ) → o ≡ Some c → part (is_to o c) (pos 1) ≡ pos 1
is_one o c e = ap (λ p. part (is_to p c) (pos 1)) e ∙ ap (λ b. part b (pos 1)) (same_true c)

is_none : (d c : ℕ) → c ≢ d → part (is_to (Some d) c) (pos 1) ≡ pos 0
is_none d c n = part_off (is_to (Some d) c) (pos 1) (other_false d c n)

module _ (first : ℕ) (waits : List ℕ) where
  waited_each : (o : Option ℕ) (k : ℕ) → k < length waits → pos (wait_in (waited (number_to first (length waits) o) waits) k) ≡ pos (wait_in waits k) +ℤ part (is_to o (first + k)) (pos 1)
  waited_each None k l = omega (arith, ints)
  waited_each (Some d) k l = by_place (place_in first (length waits) d) refl
    where
      by_place : (o : Option ℕ) → place_in first (length waits) d ≡ o → pos (wait_in (waited o waits) k) ≡ pos (wait_in waits k) +ℤ part (is_to (Some d) (first + k)) (pos 1)
      by_place None e = let n : first + k ≢ d = λ q. not_none k (sym e ∙ (ap (place_in first (length waits)) (sym q) ∙ place_here first (length waits) k l)) in omega (arith, ints, is_none d (first + k) n)
      by_place (Some j) e =
          let is = place_some first (length waits) d j e in
          elim (same_or_not k j) as (λ _. pos (wait_in (waited (Some j) waits) k) ≡ pos (wait_in waits k) +ℤ part (is_to (Some d) (first + k)) (pos 1)) [
            | inl q ↦ (let same : d ≡ first + k = omega (arith, is.0, q) in omega (arith, ints, ap (wait_in (waited (Some j) waits)) q, get_or-set_same waits j (wait_in waits j + 1) 0 is.1, ap (wait_in waits) q, is_one (Some d) (first + k) (ap Some same)))
            | inr n ↦ (let other : first + k ≢ d = λ q. n (omega (arith, is.0, q)) in omega (arith, ints, get_or-set_other waits j k (wait_in waits j + 1) 0 n, is_none d (first + k) other))
          ]

  waited_few : (o : Option ℕ) (k : ℕ) → wait_in (waited o waits) k ≤ wait_in waits k + 1
  waited_few None k = omega arith
  waited_few (Some j) k = elim (same_or_not k j) as (λ _. wait_in (waited (Some j) waits) k ≤ wait_in waits k + 1) [
    | inl q ↦ elim (cases_lt j (length waits)) as (λ _. wait_in (waited (Some j) waits) k ≤ wait_in waits k + 1) [
      | inl l ↦ omega (arith, ap (wait_in (waited (Some j) waits)) q, get_or-set_same waits j (wait_in waits j + 1) 0 l, ap (wait_in waits) q)
      | inr l ↦ omega (arith, get_or_past (slice_set waits j (wait_in waits j + 1)) k 0 (omega (arith, l, q, length-set waits j (wait_in waits j + 1))))
    ]
    | inr n ↦ omega (arith, get_or-set_other waits j k (wait_in waits j + 1) 0 n)
  ]

  waited_count : (o : Option ℕ) → length (waited o waits) ≡ length waits
  waited_count None = refl
  waited_count (Some j) = length-set waits j (wait_in waits j + 1)

pub waits_more : (downs : List (Option ℕ)) (at first : ℕ) (old waits new : List ℕ) (o : Option ℕ) → AddsWaits downs at first old waits → o ≡ down_in downs at → new ≡ waited (number_to first (length waits) o) waits → AddsWaits downs (at + 1) first old new
waits_more downs at first old waits new o a e is = rw (is) record {
  count = waited_count first waits (number_to first (length waits) o) ∙ a.count;
  each = λ k l. (
      let more : sum_to (λ d. part (is_to (down_in downs d) (first + k)) (pos 1)) (at + 1) ≡ sum_to (λ d. part (is_to (down_in downs d) (first + k)) (pos 1)) at +ℤ part (is_to (down_in downs at) (first + k)) (pos 1)
      = (let q : at + 1 ≡ suc at = omega arith in ap (sum_to (λ d. part (is_to (down_in downs d) (first + k)) (pos 1))) q) in
      omega (arith, ints, waited_each first waits o k (omega (arith, l, a.count)), a.each k l, more, ap (λ p. part (is_to p (first + k)) (pos 1)) e));
  few = λ k. omega (arith, waited_few first waits (number_to first (length waits) o) k, a.few k);
}

-- ---- what drains to some rows comes from them and from those beside them

step_at : (k : ℕ) → k < 8 → IsStep (offset_at k).0
step_at zero h = record { high = omega (arith, ints); low = omega (arith, ints) }
step_at (suc zero) h = record { high = omega (arith, ints); low = omega (arith, ints) }
step_at (suc (suc zero)) h = record { high = omega (arith, ints); low = omega (arith, ints) }
step_at (suc (suc (suc zero))) h = record { high = omega (arith, ints); low = omega (arith, ints) }
step_at (suc (suc (suc (suc zero)))) h = record { high = omega (arith, ints); low = omega (arith, ints) }
step_at (suc (suc (suc (suc (suc zero))))) h = record { high = omega (arith, ints); low = omega (arith, ints) }
step_at (suc (suc (suc (suc (suc (suc zero)))))) h = record { high = omega (arith, ints); low = omega (arith, ints) }
step_at (suc (suc (suc (suc (suc (suc (suc zero))))))) h = record { high = omega (arith, ints); low = omega (arith, ints) }
step_at (suc (suc (suc (suc (suc (suc (suc (suc k)))))))) h = absurd (omega arith)

module _ (s : Size) (surface : Cells) (some : 0 < s.columns) where
  row_step : (d c : ℕ) → downstream_of s surface d ≡ Some c → (row_of s c ≤ row_of s d + 1) × (row_of s d ≤ row_of s c + 1)
  row_step d c e = by_winner (winner_at s surface d) refl
    where
      by_winner : (o : Option ℕ) → winner_at s surface d ≡ o → (row_of s c ≤ row_of s d + 1) × (row_of s d ≤ row_of s c + 1)
      by_winner None w = not_none c (downstream_none s surface d (sym w) ∙ e)
      by_winner (Some k) w =
          let few : k < 8 = subst (λ (o : Option ℕ). IfSome o (λ k. k < 8)) w (winner_few s surface d) in
          let p = place_lines s (pos (row_of s d) +ℤ (offset_at k).0) (pos (column_of s d) +ℤ (offset_at k).1) c some (downstream_some s surface d k (sym w) few ∙ e) in
          let t = step_at k few in
          (omega (arith, ints, p.0, t.high, t.low), omega (arith, ints, p.0, t.high, t.low))

  not_before : (d c first : ℕ) → first * s.columns ≤ c → downstream_of s surface d ≡ Some c → (first - 1) * s.columns ≤ d
  not_before d c first l e = elim (cases_lt (row_of s c) first) as (λ _. (first - 1) * s.columns ≤ d) [
    | inl h ↦ (let m = mul-le (row_of s c + 1) s.columns first s.columns (omega (arith, h)) (omega arith) in absurd (omega (arith, m, l)))
    | inr h ↦ (let r = row_step d c e in let m = mul-le (first - 1) s.columns (row_of s d) s.columns (omega (arith, h, r.0)) (omega arith) in omega (arith, m))
  ]

  not_after : (d c end : ℕ) → c < end * s.columns → downstream_of s surface d ≡ Some c → d < (end + 1) * s.columns
  not_after d c end l e = elim (cases_lt (row_of s d) (end + 1)) as (λ _. d < (end + 1) * s.columns) [
    | inl h ↦ (let m = mul-le (row_of s d + 1) s.columns (end + 1) s.columns (omega (arith, h)) (omega arith) in omega (arith, m))
    | inr h ↦ (let r = row_step d c e in let m = mul-le end s.columns (row_of s c) s.columns (omega (arith, h, r.1)) (omega arith) in absurd (omega (arith, m, l)))
  ]

  module _ (first end last : ℕ) (rows : first ≤ end) (ends : end ≤ last) (within : last ≤ s.rows) (is_last : (last ≡ end + 1) ⊎ (last ≡ s.rows)) (above downs below : List (Option ℕ)) (a : AreDowns s surface ((first - 1) * s.columns) ((first - (first - 1)) * s.columns) above) (b : AreDowns s surface (first * s.columns) ((end - first) * s.columns) downs) (z : AreDowns s surface (end * s.columns) ((last - end) * s.columns) below) where
    abbrev w : ℕ
    w = s.columns

    abbrev to : ℕ → ℕ → ℤ
    to c d = part (is_to (downstream_of s surface d) c) (pos 1)

    counted : (at n : ℕ) (xs : List (Option ℕ)) (c : ℕ) → AreDowns s surface at n xs → sum_to (λ d. part (is_to (down_in xs d) c) (pos 1)) n ≡ sum_to (λ d. to c (at + d)) n
    counted at n xs c are = sum_same (λ d. part (is_to (down_in xs d) c) (pos 1)) (λ d. to c (at + d)) n (λ d l. ap (λ o. part (is_to o c) (pos 1)) (are.each d l))

    off : (c d : ℕ) → downstream_of s surface d ≢ Some c → to c d ≡ pos 0
    off c d n = by_down (downstream_of s surface d) refl
      where
        by_down : (o : Option ℕ) → downstream_of s surface d ≡ o → part (is_to o c) (pos 1) ≡ pos 0
        by_down None e = refl
        by_down (Some x) e = is_none x c (λ q. n (e ∙ ap Some (sym q)))

    abbrev before : ℕ
    before = (first - 1) * w

    pub inflow_near : (c : ℕ) → first * w ≤ c → c < end * w → inflow (net_of s surface surface) (λ d. pos 1) c ≡ sum_to (λ d. part (is_to (down_in above d) c) (pos 1)) ((first - (first - 1)) * w) +ℤ sum_to (λ d. part (is_to (down_in downs d) c) (pos 1)) ((end - first) * w) +ℤ sum_to (λ d. part (is_to (down_in below d) c) (pos 1)) ((last - end) * w)
    unfolding inflow
    inflow_near c l m =
        let p : first * w ≡ before + (first - (first - 1)) * w = rows_parts (first - 1) (first - (first - 1)) first w (omega arith) in
        let q : end * w ≡ first * w + (end - first) * w = rows_parts first (end - first) end w (omega (arith, rows)) in
        let r : last * w ≡ end * w + (last - end) * w = rows_parts end (last - end) last w (omega (arith, ends)) in
        let t : cells_in s ≡ last * w + (s.rows - last) * w = rows_parts last (s.rows - last) s.rows w (omega (arith, within)) in
        let none_before : sum_to (to c) before ≡ pos 0 = sum_zero (to c) before (λ d h. off c d (λ e. absurd (omega (arith, h, not_before d c first l e)))) in
        let none_after : sum_to (λ d. to c (last * w + d)) ((s.rows - last) * w) ≡ pos 0 = sum_zero (λ d. to c (last * w + d)) ((s.rows - last) * w) (λ d h. off c (last * w + d) (λ e. absurd (past d h (not_after (last * w + d) c end m e)))) in
        ap (sum_to (to c)) t
        ∙ omega (
          arith,
          ints,
          sum_parts (to c) (last * w) ((s.rows - last) * w),
          none_after,
          ap (sum_to (to c)) r,
          sum_parts (to c) (end * w) ((last - end) * w),
          counted (end * w) ((last - end) * w) below c z,
          ap (sum_to (to c)) q,
          sum_parts (to c) (first * w) ((end - first) * w),
          counted (first * w) ((end - first) * w) downs c b,
          ap (sum_to (to c)) p,
          sum_parts (to c) before ((first - (first - 1)) * w),
          none_before,
          counted before ((first - (first - 1)) * w) above c a,
        )
      where
        past : (d : ℕ) → d < (s.rows - last) * w → last * w + d < (end + 1) * w → ⊥
        past d h k = elim is_last as (λ _. ⊥) [
          | inl e ↦ omega (arith, ap (λ n. n * w) e, k)
          | inr e ↦ (let none : s.rows - last ≡ 0 = omega (arith, e) in omega (arith, ap (λ n. n * w) none, h))
        ]

    -- counted one list after another
    pub waits_near : (zeros one two three : List ℕ) → length zeros ≡ length downs → ((k : ℕ) → wait_in zeros k ≡ 0) → AddsWaits above (length above) (first * w) zeros one → AddsWaits downs (length downs) (first * w) one two → AddsWaits below (length below) (first * w) two three → (k : ℕ) → k < length downs → pos (wait_in three k) ≡ inflow (net_of s surface surface) (λ d. pos 1) (first * w + k)
    waits_near zeros one two three count none x y v k l =
        let c = first * w + k in
        let in_rows : c < end * w = omega (arith, l, b.count, rows_parts first (end - first) end w (omega (arith, rows))) in
        omega (
          arith,
          ints,
          x.each k (omega (arith, l, count)),
          y.each k (omega (arith, l, count, x.count)),
          v.each k (omega (arith, l, count, x.count, y.count)),
          ap pos (none k),
          inflow_near c (omega arith) in_rows,
          ap (sum_to (λ d. part (is_to (down_in above d) c) (pos 1))) a.count,
          ap (sum_to (λ d. part (is_to (down_in downs d) c) (pos 1))) b.count,
          ap (sum_to (λ d. part (is_to (down_in below d) c) (pos 1))) z.count,
        )

-- ---- lists in place of others

pub laid_same : {X : Type 0} (first : ℕ) (xs : List X) (f : ℕ → X) → ((k : ℕ) → k < length xs → get_or xs k (f (first + k)) ≡ f (first + k)) → (c : ℕ) → laid first xs f c ≡ f c
laid_same first xs f h c = elim (cases_lt c first) as (λ _. laid first xs f c ≡ f c) [
  | inl l ↦ laid_below first xs f c l
  | inr l ↦ elim (cases_lt c (first + length xs)) as (λ _. laid first xs f c ≡ f c) [
    | inl m ↦ (let e : first + (c - first) ≡ c = omega arith in ap (laid first xs f) (sym e) ∙ laid_in first xs f (c - first) (f (first + (c - first))) (omega (arith, l, m)) ∙ h (c - first) (omega (arith, l, m)) ∙ ap f e)
    | inr m ↦ laid_after first xs f c m
  ]
]

laid_append : {X : Type 0} (first n : ℕ) (xs ys : List X) (f : ℕ → X) → length xs ≡ n → (c : ℕ) → laid first (xs ++ ys) f c ≡ laid (first + n) ys (laid first xs f) c
laid_append first n xs ys f count c = elim (cases_lt c first) as (λ _. laid first (xs ++ ys) f c ≡ laid (first + n) ys (laid first xs f) c) [
  | inl l ↦ laid_below first (xs ++ ys) f c l ∙ sym (laid_below first xs f c l) ∙ sym (laid_below (first + n) ys (laid first xs f) c (omega (arith, l)))
  | inr l ↦ elim (cases_lt c (first + n)) as (λ _. laid first (xs ++ ys) f c ≡ laid (first + n) ys (laid first xs f) c) [
    | inl m ↦ laid_past first (xs ++ ys) f c l ∙ get_or_append_left xs ys (f c) (c - first) (omega (arith, l, m, count)) ∙ sym (laid_past first xs f c l) ∙ sym (laid_below (first + n) ys (laid first xs f) c m)
    | inr m ↦ (
        let e : c - first - n ≡ c - (first + n) = omega arith in
        laid_past first (xs ++ ys) f c l ∙ get_or-append_right xs ys n (c - first) (f c) count (omega (arith, l, m)) ∙ ap (λ j. get_or ys j (f c)) e ∙ ap (get_or ys (c - (first + n))) (sym (laid_after first xs f c (omega (arith, m, count)))) ∙ sym (laid_past (first + n) ys (laid first xs f) c m))
  ]
]

-- ---- one band

module _ (s : Size) (surface weights : Cells) (first n : ℕ) (downs : List (Option ℕ)) (waits : List ℕ) (flows : List ℤ) (within : first + n ≤ cells_in s) (a : AreDowns s surface first n downs) (waits_count : length waits ≡ n) (flows_count : length flows ≡ n) (each_wait : (k : ℕ) → k < n → pos (wait_in waits k) ≡ inflow (net_of s surface surface) (λ d. pos 1) (first + k)) where
  ones : (g : Net) (c : ℕ) → g.size ≡ cells_in s → g.down ≡ downstream_of s surface → inflow g (λ d. pos 1) c ≡ inflow (net_of s surface surface) (λ d. pos 1) c
  unfolding inflow
  ones g c e f = ap (λ m. sum_to (λ d. part (is_to (g.down d) c) (pos 1)) m) e ∙ ap (λ h. sum_to (λ d. part (is_to (h d) c) (pos 1)) (cells_in s)) f

  -- in place of rows that have not begun they change nothing
  pub pools_in : (g : Net) (r : Places) → g.size ≡ cells_in s → g.down ≡ downstream_of s surface → ((k : ℕ) → k < n → flow_in flows k ≡ g.weight (first + k)) → ArePouring g r → AreBegun g first (first + n) r → ArePools g r first n 0 None downs waits flows
  pools_in g r size down brings p b = record {
    within = omega (arith, within, size);
    downs_count = a.count;
    waits_count = waits_count;
    flows_count = flows_count;
    pouring = pour_same g r.down (laid first downs r.down) r.flow (laid first flows r.flow) r.wait (laid first waits r.wait) p
        (λ c l. laid_same first downs r.down (λ k m. read downs k None (r.down (first + k)) m ∙ a.each k (omega (arith, m, a.count)) ∙ ap (λ h. h (first + k)) (sym down) ∙ sym (b.downs (first + k) (omega arith) (omega (arith, m, a.count)))) c)
        (λ c l. laid_same first flows r.flow (λ k m. read flows k (pos 0) (r.flow (first + k)) m ∙ brings k (omega (arith, m, flows_count)) ∙ sym (b.flows (first + k) (omega arith) (omega (arith, m, flows_count)))) c)
        (λ c l. laid_same first waits r.wait (λ k m. read waits k 0 (r.wait (first + k)) m ∙ same_nat (each_wait k (omega (arith, m, waits_count)) ∙ sym (ones g (first + k) size down) ∙ sym (b.waits (first + k) (omega arith) (omega (arith, m, waits_count))))) c);
    started = λ z e k l. absurd (omega (arith, l));
  }
    where
      read : {X : Type 0} (xs : List X) (k : ℕ) (d e : X) → k < length xs → get_or xs k e ≡ get_or xs k d
      read xs k d e l = get_or_default xs k e d l

      same_nat : {x y : ℕ} → pos x ≡ pos y → x ≡ y
      same_nat e = omega (arith, ints, e)

abbrev pub count_to : (ℕ → Bool) → ℕ → ℕ
count_to b zero = 0
count_to b (suc n) = count_to b n + cond (b n) 1 0

counts : (b : ℕ → Bool) (n : ℕ) → pos (count_to b n) ≡ sum_to (λ d. part (b d) (pos 1)) n
counts b zero = refl
counts b (suc n) = one (b n) (counts b n)
  where
    one : (t : Bool) → pos (count_to b n) ≡ sum_to (λ d. part (b d) (pos 1)) n → pos (count_to b n + cond t 1 0) ≡ sum_to (λ d. part (b d) (pos 1)) n +ℤ part t (pos 1)
    one true e = omega (arith, ints, e)
    one false e = omega (arith, ints, e)

-- a net of which nothing has begun
abbrev pub fresh_places : Net → Places
fresh_places g = record { down = g.down; flow = g.weight; wait = λ c. count_to (λ d. is_to (g.down d) c) g.size }

pub fresh_pouring : (s : Size) (surface : Cells) (g : Net) → IsSize s → g.size ≡ cells_in s → g.down ≡ downstream_of s surface → ((c : ℕ) → c < g.size → IsSmall (g.weight c)) → ArePouring g (fresh_places g)
unfolding inflow
fresh_pouring s surface g size e f small =
    pour_first g g.down g.weight (fresh_places g).wait (omega (arith, size.most_cells, e)) (λ c l. refl)
    (λ c d l t. (let i = (net_falls s surface surface).within c d (omega (arith, l, e)) (ap (λ h. h c) (sym f) ∙ t) in omega (arith, i, e)))
    (λ c l. counts (λ d. is_to (g.down d) c) g.size) (λ c l. refl) small

pub fresh_begun : (g : Net) (first end : ℕ) → AreBegun g first end (fresh_places g)
unfolding inflow
fresh_begun g first end = record { downs = λ c l m. refl; flows = λ c l m. refl; waits = λ c l m. counts (λ d. is_to (g.down d) c) g.size }

small_zero : IsSmall (pos 0)
small_zero = record { high = omega (arith, ints); low = omega (arith, ints) }

-- what was made for some rows
module _ (s : Size) (surface weights : Cells) (first n : ℕ) (downs : List (Option ℕ)) (waits : List ℕ) (flows : List ℤ) (size : IsSize s) (within : first + n ≤ cells_in s) (a : AreDowns s surface first n downs) (waits_count : length waits ≡ n) (flows_count : length flows ≡ n)
    (each_wait : (k : ℕ) → k < n → pos (wait_in waits k) ≡ inflow (net_of s surface surface) (λ d. pos 1) (first + k)) (small : (k : ℕ) → k < n → IsSmall (flow_in flows k)) where
  -- a net that brings these, and nothing elsewhere
  abbrev their_net : Net
  their_net = record { size = cells_in s; weight = laid first flows (λ c. pos 0); down = downstream_of s surface }

  their_small : (c : ℕ) → IsSmall (laid first flows (λ c. pos 0) c)
  their_small c = elim (cases_lt c first) as (λ _. IsSmall (laid first flows (λ c. pos 0) c)) [
    | inl l ↦ subst IsSmall (sym (laid_below first flows (λ c. pos 0) c l)) small_zero
    | inr l ↦ elim (cases_lt c (first + n)) as (λ _. IsSmall (laid first flows (λ c. pos 0) c)) [
      | inl m ↦ subst IsSmall (sym (laid_past first flows (λ c. pos 0) c l)) (small (c - first) (omega (arith, l, m)))
      | inr m ↦ subst IsSmall (sym (laid_after first flows (λ c. pos 0) c (omega (arith, m, flows_count)))) small_zero
    ]
  ]

  pub pools_fresh : (g : Net) × (r : Places) × (m : ℕ) × ArePools g r first m 0 None downs waits flows
  pools_fresh = (
    their_net,
    fresh_places their_net,
    n,
    pools_in s surface weights first n downs waits flows within a waits_count flows_count each_wait their_net (fresh_places their_net) refl refl
        (λ k l. sym (laid_in first flows (λ c. pos 0) k (pos 0) (omega (arith, l, flows_count))))
        (fresh_pouring s surface their_net size refl refl (λ c l. their_small c)) (fresh_begun their_net first (first + n)),
  )

  -- and what became of it, once it was poured
  pub band_is : ((k : ℕ) → k < n → flow_in flows k ≡ weight_at surface weights (first + k)) → (downs' : List (Option ℕ)) (waits' : List ℕ) (flows' : List ℤ) → ((g : Net) (r : Places) (m : ℕ) → ArePools g r first m 0 None downs waits flows → ArePools g r first m (length downs) None downs' waits' flows')
      → (b : FlowBand) → b.downs.items ≡ downs' → b.waits.items ≡ waits' → b.flows.items ≡ flows' → IsFlowBand s surface weights first n b
  band_is brings downs' waits' flows' run b ds ws fs =
      let f = pools_fresh in
      let e : f.2 ≡ n = sym f.3.downs_count ∙ a.count in
      let q = run f.0 f.1 f.2 f.3 in
      record {
        downs_count = ap length ds ∙ q.downs_count ∙ e;
        waits_count = ap length ws ∙ q.waits_count ∙ e;
        flows_count = ap length fs ∙ q.flows_count ∙ e;
        small = λ c l m. (let k : first + (c - first) ≡ c = omega arith in subst IsSmall (brings (c - first) (omega (arith, l, m)) ∙ ap (weight_at surface weights) k) (small (c - first) (omega (arith, l, m))));
        pours = λ r p h. rw (ds, ws, fs) (run (net_of s surface weights) r n (pools_in s surface weights first n downs waits flows within a waits_count flows_count each_wait (net_of s surface weights) r refl refl brings p h)).pouring;
      }

-- the lists of some rows
pub record Made (s : Size) (surface weights : Cells) (at n : ℕ) (downs : List (Option ℕ)) (waits : List ℕ) (flows : List ℤ) : Type 0 where
  pub within : at + n ≤ cells_in s
  pub downs_are : AreDowns s surface at n downs
  pub waits_count : length waits ≡ n
  pub flows_count : length flows ≡ n
  pub each_wait : (k : ℕ) → k < n → pos (wait_in waits k) ≡ inflow (net_of s surface surface) (λ d. pos 1) (at + k)
  pub small : (k : ℕ) → k < n → IsSmall (flow_in flows k)
  pub brings : (k : ℕ) → k < n → flow_in flows k ≡ weight_at surface weights (at + k)

pub rows_made : (s : Size) (surface weights : Cells) (first end w : ℕ) (downs : List (Option ℕ)) (waits : List ℕ) (flows : List ℤ) → w ≡ s.columns → first ≤ end → end ≤ s.rows → length surface ≡ cells_in s → AreDowns s surface (first * s.columns) ((end - first) * s.columns) downs → length waits ≡ length downs → ((k : ℕ) → k < length downs → pos (wait_in waits k) ≡ inflow (net_of s surface surface) (λ d. pos 1) (first * s.columns + k))
    → AreBrought (take (end * w - first * w) (drop (first * w) surface)) (take (end * w - first * w) (drop (first * w) weights)) (length (take (end * w - first * w) (drop (first * w) surface))) flows → Made s surface weights (first * s.columns) ((end - first) * s.columns) downs waits flows
unfolding weight_at
rows_made s surface weights first end w downs waits flows e rows within count d waits_count each_wait b =
    let n = (end - first) * s.columns in
    let start : first * w ≡ first * s.columns = ap (λ m. first * m) e in
    let past : end * w ≡ end * s.columns = ap (λ m. end * m) e in
    let parts : end * s.columns ≡ first * s.columns + n = rows_parts first (end - first) end s.columns (omega (arith, rows)) in
    let most = mul-le end s.columns s.rows s.columns within (omega arith) in
    let taken : length (take (end * w - first * w) (drop (first * w) surface)) ≡ n = simp (length-take, length-drop) (omega (arith, start, past, parts, most, count)) in
    record {
      within = omega (arith, parts, most);
      downs_are = d;
      waits_count = waits_count ∙ d.count;
      flows_count = b.count ∙ taken;
      each_wait = λ k l. each_wait k (omega (arith, l, d.count));
      small = λ k l. b.small k (omega (arith, l, taken));
      brings = λ k l.
          b.each k (omega (arith, l, taken))
          ∙ ap (λ o. brought o (cell_at (take (end * w - first * w) (drop (first * w) weights)) k)) (row_cell surface (first * w) (end * w - first * w) k (omega (arith, l, start, past, parts)))
          ∙ ap (brought (cell_at surface (first * w + k))) (row_cell weights (first * w) (end * w - first * w) k (omega (arith, l, start, past, parts)))
          ∙ ap (λ a. brought (cell_at surface (a + k)) (cell_at weights (a + k))) start;
    }

-- ---- lists one after another

pub lists_next : {B X : Type 0} (f : B → List X) (xs all : List X) (bs : List B) (k : ℕ) (b : B) → k < length bs → b ≡ get_or bs k b → xs ++ flat_map f (drop k bs) ≡ all → (xs ++ f b) ++ flat_map f (drop (k + 1) bs) ≡ all
lists_next {B} f xs all bs k b l e h =
    append_assoc xs (f b) (flat_map f (drop (k + 1) bs)) ∙ ap (λ (a : B). xs ++ (f a ++ flat_map f (drop (k + 1) bs))) e ∙ ap (λ (cs : List B). xs ++ flat_map f cs) (sym (drop_more bs k b l)) ∙ h

pub lists_end : {B X : Type 0} (f : B → List X) (xs all : List X) (bs : List B) (k : ℕ) → length bs ≤ k → xs ++ flat_map f (drop k bs) ≡ all → xs ≡ all
lists_end {B} f xs all bs k l h = sym (append-nil xs) ∙ ap (λ (cs : List B). xs ++ flat_map f cs) (sym (drop_all k bs l)) ∙ h

-- ---- bands one after another

pub even_flows : (bs : List FlowBand) → AreEven bs → length (all_flows bs) ≡ length (all_downs bs)
even_flows [] h = refl
even_flows (b ∷ bs) h = omega (arith, length-append b.downs.items (all_downs bs), length-append b.flows.items (all_flows bs), h.1, even_flows bs h.2)

module _ (s : Size) (surface weights : Cells) where
  abbrev net : Net
  net = net_of s surface weights

  abbrev Bands : ℕ → ℕ → List FlowBand → Type 0
  Bands = AreFlowBands s surface weights

  pub bands_end : (bs : List FlowBand) (first end : ℕ) → Bands first end bs → first + length (all_downs bs) ≡ end
  bands_end [] first end h = omega (arith, h)
  bands_end (b ∷ bs) first end h = omega (arith, length-append b.downs.items (all_downs bs), bands_end bs (first + length b.downs.items) end h.1)

  pub bands_waits : (bs : List FlowBand) (first end : ℕ) → Bands first end bs → length (all_waits bs) ≡ length (all_downs bs)
  bands_waits [] first end h = refl
  bands_waits (b ∷ bs) first end h = omega (arith, length-append b.downs.items (all_downs bs), length-append b.waits.items (all_waits bs), h.0.waits_count, bands_waits bs (first + length b.downs.items) end h.1)

  pub bands_even : (bs : List FlowBand) (first end : ℕ) → Bands first end bs → AreEven bs
  bands_even [] first end h = tt
  bands_even (b ∷ bs) first end h = (h.0.waits_count, h.0.flows_count, bands_even bs (first + length b.downs.items) end h.1)

  pub bands_small : (bs : List FlowBand) (first end : ℕ) → Bands first end bs → (c : ℕ) → first ≤ c → c < end → IsSmall (weight_at surface weights c)
  bands_small [] first end h c l m = absurd (omega (arith, h, l, m))
  bands_small (b ∷ bs) first end h c l m = elim (cases_lt c (first + length b.downs.items)) as (λ _. IsSmall (weight_at surface weights c)) [
    | inl k ↦ h.0.small c l k
    | inr k ↦ bands_small bs (first + length b.downs.items) end h.1 c k m
  ]

  bands_pour : (bs : List FlowBand) (first end : ℕ) → Bands first end bs → (r : Places) → ArePouring net r → AreBegun net first end r → IsPouring net None (laid first (all_downs bs) r.down) (laid first (all_flows bs) r.flow) (laid first (all_waits bs) r.wait)
  bands_pour [] first end h r p b = pour_same net r.down (laid first [] r.down) r.flow (laid first [] r.flow) r.wait (laid first [] r.wait) p
      (λ c l. laid_same first [] r.down (λ k m. refl) c) (λ c l. laid_same first [] r.flow (λ k m. refl) c) (λ c l. laid_same first [] r.wait (λ k m. refl) c)
  bands_pour (x ∷ bs) first end h r p b =
      let n = length x.downs.items in
      let is = h.0 in
      let r' = in_place first x r in
      let ends : first + n ≤ end = omega (arith, bands_end bs (first + n) end h.1) in
      let p' = is.pours r p (record { downs = λ c l m. b.downs c l (omega (arith, m, ends)); flows = λ c l m. b.flows c l (omega (arith, m, ends)); waits = λ c l m. b.waits c l (omega (arith, m, ends)) }) in
      let b' : AreBegun net (first + n) end r' = record {
        downs = λ c l m. laid_after first x.downs.items r.down c l ∙ b.downs c (omega (arith, l)) m;
        flows = λ c l m. laid_after first x.flows.items r.flow c (omega (arith, l, is.flows_count)) ∙ b.flows c (omega (arith, l)) m;
        waits = λ c l m. ap pos (laid_after first x.waits.items r.wait c (omega (arith, l, is.waits_count))) ∙ b.waits c (omega (arith, l)) m;
      } in
      pour_same net (laid (first + n) (all_downs bs) r'.down) (laid first (x.downs.items ++ all_downs bs) r.down) (laid (first + n) (all_flows bs) r'.flow) (laid first (x.flows.items ++ all_flows bs) r.flow) (laid (first + n) (all_waits bs) r'.wait) (laid first (x.waits.items ++ all_waits bs) r.wait)
      (bands_pour bs (first + n) end h.1 r' p' b')
      (λ c l. laid_append first n x.downs.items (all_downs bs) r.down refl c)
      (λ c l. laid_append first n x.flows.items (all_flows bs) r.flow is.flows_count c)
      (λ c l. laid_append first n x.waits.items (all_waits bs) r.wait is.waits_count c)

  -- all of them are the places of the map
  pub bands_pools : (bs : List FlowBand) → IsSize s → Bands 0 (cells_in s) bs → ArePools net (fresh_places net) 0 (cells_in s) 0 None (all_downs bs) (all_waits bs) (all_flows bs)
  bands_pools bs size h =
      let end = bands_end bs 0 (cells_in s) h in record {
        within = omega arith;
        downs_count = omega (arith, end);
        waits_count = omega (arith, end, bands_waits bs 0 (cells_in s) h);
        flows_count = omega (arith, end, even_flows bs (bands_even bs 0 (cells_in s) h));
        pouring = bands_pour bs 0 (cells_in s) h (fresh_places net) (fresh_pouring s surface net size refl refl (λ c l. bands_small bs 0 (cells_in s) h c (omega arith) l)) (fresh_begun net 0 (cells_in s));
        started = λ z e k l. absurd (omega (arith, l));
      }

  pub flows_of : (downs : List (Option ℕ)) (waits : List ℕ) (flows : List ℤ) → ArePools net (fresh_places net) 0 (cells_in s) (cells_in s) None downs waits flows → AreFlows s surface weights flows
  flows_of downs waits flows p = record {
    count = p.flows_count;
    each = agreeing_is_flow s surface weights (flow_in flows) (pools_agree net (λ c. number_of (cell_at surface c)) (net_falls s surface weights) (fresh_places net) downs waits flows p);
  }

  -- one more band behind the others
  pub bands_more : (bs : List FlowBand) (first at n : ℕ) (b : FlowBand) → Bands first at bs → IsFlowBand s surface weights at n b → Bands first (at + n) (bs ++ b ∷ [])
  bands_more [] first at n b h is =
      let e : length b.downs.items ≡ n = is.downs_count in
      let there : IsFlowBand s surface weights first n b = subst (λ j. IsFlowBand s surface weights j n b) (sym h) is in
      (subst (λ m. IsFlowBand s surface weights first m b) (sym e) there, omega (arith, h, e))
  bands_more (x ∷ bs) first at n b h is = (h.0, bands_more bs (first + length x.downs.items) at n b h.1 is)

pub bands_one : (s : Size) (surface weights heights loads : Cells) (first n : ℕ) (b : FlowBand) → IsFlowBand s surface weights first n b → first ≡ 0 → n ≡ cells_in s → heights ≡ surface → loads ≡ weights → AreFlowBands s heights loads 0 (cells_in s) (b ∷ [])
bands_one s surface weights heights loads first n b is e m h l =
    let e' : length b.downs.items ≡ n = is.downs_count in
    (subst (λ ys. IsFlowBand s heights ys 0 (length b.downs.items) b) (sym l) (subst (λ xs. IsFlowBand s xs weights 0 (length b.downs.items) b) (sym h) (subst (λ k. IsFlowBand s surface weights 0 k b) (sym e') (subst (λ j. IsFlowBand s surface weights j n b) e is))), omega (arith, e', m))

-- so many rows have few places
pub few_rows : (s : Size) (a b : ℕ) → IsSize s → b ≤ s.rows → (b - a) * s.columns ≤ 1500000
few_rows s a b h l = let m = mul-le (b - a) s.columns s.rows s.columns (omega (arith, l)) (omega arith) in omega (arith, m, h.most_cells)

-- the last row beside some
pub last_is : (rows r end last : ℕ) → last ≡ min r (end + 1) → r ≡ rows → end ≤ rows → (end ≤ last) × (last ≤ rows) × ((last ≡ end + 1) ⊎ (last ≡ rows))
last_is rows r end last e m l = elim (cases_lt r (end + 1)) as (λ _. (end ≤ last) × (last ≤ rows) × ((last ≡ end + 1) ⊎ (last ≡ rows))) [
  | inl h ↦ (let f : last ≡ r = e ∙ min-eq_left (omega (arith, h)) in (omega (arith, f, m, l), omega (arith, f, m), inr (f ∙ m)))
  | inr h ↦ (let f : last ≡ end + 1 = e ∙ min-eq_right h in (omega (arith, f), omega (arith, f, m, h), inl f))
]

pub none_wait : (waits : List ℕ) → ((k : ℕ) → k < length waits → wait_in waits k ≡ 0) → (k : ℕ) → wait_in waits k ≡ 0
none_wait waits h k = elim (cases_lt k (length waits)) as (λ _. wait_in waits k ≡ 0) [ inl l ↦ h k l | inr l ↦ get_or_past waits k 0 l ]
