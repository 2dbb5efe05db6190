-- An edit whose statements are prepared: what is answered of it, what it reads and counts, and that it can be put in place; and one that is refused, which leaves the state.
use Rattle.std.proofs.Common.{◌≡◌, ℕ, ◌+◌, ◌-◌, ◌*◌, ◌≤◌, List, length, Ok, sym, ap, ◌∙◌, arith, zero, suc, ◌<◌, ◌^◌, count_by, Option, Some, None, [], map, get_or, slice_get, refl, subst, Err}
use Rattle.map_defs.specs.Ops.{Name}
use Rattle.layer_tiles.specs.Tallies.{TallyState, RisesBy}
use Rattle.layer_tiles.proofs.Rising.{rises_none, rises_then, rises_within}
use Rattle.map_edits.specs.WholeStates.{WholeState}
use Rattle.map_edits.specs.WholeEdits.{WholeEdit}
use Rattle.map_edits.specs.Attempts.{attempted}
use Rattle.map_edits.specs.GroupLaws.{IsLawful, IsSaid}
use Rattle.map_edits.specs.Touches.{touch_of}
use Rattle.map_edits.specs.EditCounts.{Counts, counts_of}
use Rattle.map_edits.specs.StampsAfter.{stamped}
use Rattle.map_edits.specs.Counted.{unless_fault, of_attempt, accept_counted, fault_after}
use Rattle.map_edits.specs.Allowances.{edit_reads}
use Rattle.statement_parser.specs.declared.op.Op.{Op as Given}
use Rattle.map_waves.specs.declared.plans.Shift.{Shift}
use Rattle.map_waves.specs.declared.plans.Step.{Step}
use Rattle.map_edits.specs.Touching.{ChangesOnly}
use Rattle.edit_plans.specs.Orderly.{IsOrderly}
use Rattle.edit_plans.specs.SourceCounts.{joined, counts_of_sources, counts_of_touched, counts_to_place}
use Rattle.edit_plans.proofs.CountsSummed.{counts_are_summed}
use Rattle.edit_plans.proofs.OneSource.{one_source_counts}
use Rattle.edit_plans.proofs.TouchedAlone.{others_are_kept, order_is_kept}
use Rattle.kept_map.specs.Maps.{names_in, seen}
use Rattle.kept_map.specs.Keeps.{IsKept}
use Rattle.kept_map.specs.Edits.{IsSetUp}
use Rattle.kept_map.specs.Repairs.{plan_in, counts_view, IsPreparedFor, own_damage, RisesByRest}
use Rattle.kept_map.specs.declared.maps.KeptMap.{KeptMap}
use Rattle.kept_map.specs.declared.repairing.Prepared.{Prepared}
use Rattle.kept_map.proofs.Allowed.{sources_allowed}
use Rattle.live_engine.specs.Accepts.{ReadsWithin, Refuses}
use Rattle.std.proofs.lemmas.List.Sums.{length-filter, count_by-le-length}
use Rattle.std.proofs.lemmas.List.FromFn.{length-range_with_len}
use Rattle.map_nums.specs.Grids.{Size, Cells}
use Rattle.map_nums.specs.Tiles.{tiles}
use Rattle.map_defs.specs.Differences.{differs, tile_has, changed_tiles}
use Rattle.layer_tiles.specs.Tiles.{tiles_in}
use Rattle.map_edits.specs.LayerDefs.{layers, nodes_of}
use Rattle.map_edits.specs.Limits.{is_source, is_flat, most_sources, most_flats}
use Rattle.map_waves.specs.Plans.{Plan, change_at, damage_at, reckoned, operands_at}
use Rattle.map_waves.specs.Answers.{total_of}
use Rattle.map_waves.proofs.Totals.{total_suc, total_start}
use Rattle.op_jobs.proofs.Hits.{tiles_few, damage_most}
use Rattle.kept_map.proofs.Few.{few_nodes, few_whole}
use Rattle.std.proofs.lemmas.Option.{slice_get_within, slice_get-get_or}
use Rattle.map_waves.specs.Prepared.{IsReady}
use Rattle.map_waves.proofs.Rowing.{some_at}
use Rattle.map_waves.specs.Placing.{slot_of}
use Rattle.kept_map.specs.Commits.{IsAtRest}
use Rattle.kept_map.proofs.Ready.{slot_kept, one_place, are_ready}
use Rattle.live_engine.specs.Settles.{CanSettle}
use Rattle.map_edits.specs.Faults.{Fault, too_many_viewers, overflow}
use Rattle.map_edits.specs.Refusals.{Refusal, fault}
use Rattle.kept_map.specs.Halts.{IsHaltOf}
use Rattle.kept_map.specs.declared.halts.Halt.{Halt}
use Rattle.kept_map.specs.declared.halts.Halt.TheVariants as halts
use Rattle.live_engine.specs.Halted.{refusal_of}
use Rattle.live_engine.specs.declared.edits.Refusal as refused
use Rattle.live_engine.specs.declared.edits.Refusal.TheVariants as a_refusal

-- an edit that can't even be tried
pub accept_refused : (s : WholeState) (e : WholeEdit) (r : Refusal) → attempted s e ≡ Err r → accept_counted s e ≡ Err r
unfolding accept_counted
accept_refused s e r is = ap (of_attempt s e) is

module _ (s t : WholeState) (e : WholeEdit) (tried : attempted s e ≡ Ok t) where
  pub accept_faulty : (f : Fault) → fault_after e t ≡ Some f → accept_counted s e ≡ Err (fault f)
  unfolding accept_counted
  accept_faulty f is = ap (of_attempt s e) tried ∙ ap (unless_fault (touch_of e) s t) is

  pub halted : (halt : Halt) → IsHaltOf e t halt → Refuses s s e (refusal_of halt)
  halted (halts.Viewers n count) is = (accept_faulty (too_many_viewers n count) is, refl)
  halted (halts.Overflow n row column) is = (accept_faulty (overflow n row column) is, refl)
  halted halts.NoMemory is = refl

-- whatever the edit, what is put back among them
pub refused_stays : (s t : WholeState) (e : WholeEdit) (r : refused.Refusal) → Refuses s t e r → t ≡ s
refused_stays s t e a_refusal.NoMemory is = is
refused_stays s t e r is = is.1

-- no more than for the tiles of the edit's own source
pub reads_tried : (s t : WholeState) (e : WholeEdit) → IsLawful s → IsSaid s e → attempted s e ≡ Ok t → (a : ℕ) (x y : TallyState) → a ≤ 64 * (counts_of_touched (touch_of e) s.names t.names).evaluated → RisesBy a 0 x y → ReadsWithin s e x y
reads_tried s t e lawful said tried a x y few first =
    let changes = others_are_kept s t e lawful said tried in
    let orderly = order_is_kept s t e lawful said tried in
    let one : (counts_of_sources (touch_of e) s.names t.names).evaluated ≡ (counts_of_touched (touch_of e) s.names t.names).evaluated = ap (λ (c : Counts). c.evaluated) (one_source_counts (touch_of e) s.names t.names changes lawful.none_looped orderly) in
    let all = sources_allowed s t e tried orderly in
    rises_within a 0 (edit_reads s e).looks (edit_reads s e).picks x y (omega (arith, few, one, all)) (omega arith) first

-- after looks at its own source
pub reads_more : (m : KeptMap) (e : WholeEdit) (t : WholeState) (a : ℕ) (x y z : TallyState) → a ≤ 64 * own_damage m e t → RisesBy a 0 x y → RisesByRest m e t y z → ReadsWithin (seen m) e x z
reads_more m e t a x y z few first then =
    let own = 64 * own_damage m e t in
    let all = (edit_reads (seen m) e).looks in
    let enough : own ≤ all = then.own in
    let picks = (edit_reads (seen m) e).picks in
    rises_within (a + (all - own)) (0 + picks) all picks x z (omega (arith, few, enough)) (omega arith) (rises_then a 0 (all - own) picks x y z first then.rest)

-- where nothing was looked at before
pub reads_by_rest : (m : KeptMap) (e : WholeEdit) (t : WholeState) (x y : TallyState) → RisesByRest m e t x y → ReadsWithin (seen m) e x y
reads_by_rest m e t x y rest = reads_more m e t 0 x x y (omega arith) (rises_none x) rest

module _ (m : KeptMap) (e : WholeEdit) (t : WholeState) (shift : Shift) (sources : List Name) (kept : IsKept m) (set_up : IsSetUp m e t shift sources) where
  changes : ChangesOnly (touch_of e) (names_in m) t.names
  changes = others_are_kept (seen m) t e kept.lawful set_up.said set_up.attempt

  orderly : IsOrderly t.names
  orderly = order_is_kept (seen m) t e kept.lawful set_up.said set_up.attempt

  abbrev own_counts : Counts
  own_counts = counts_of_touched (touch_of e) (names_in m) t.names

  module _ (names : List Name) (steps : List (Step Given)) (prepared : Prepared) (is : IsPreparedFor m e t shift sources names steps prepared) where
    counted : counts_of (touch_of e) (names_in m) t.names ≡ joined own_counts (counts_view prepared.counts)
    counted =
        counts_are_summed (touch_of e) (names_in m) t.names (plan_in m shift steps) sources names is.under.plan changes kept.lawful.none_looped orderly
        ∙ ap (λ c. joined c (counts_to_place (plan_in m shift steps) (length names))) (one_source_counts (touch_of e) (names_in m) t.names changes kept.lawful.none_looped orderly)
        ∙ ap (λ k. joined own_counts (counts_to_place (plan_in m shift steps) k)) (sym is.under.count)
        ∙ ap (joined own_counts) (sym is.counts)

    pub accepted_is : accept_counted (seen m) e ≡ Ok (record { state = stamped (seen m) t; counts = joined own_counts (counts_view prepared.counts) })
    unfolding accept_counted
    accepted_is = ap (of_attempt (seen m) e) set_up.attempt ∙ ap (unless_fault (touch_of e) (seen m) t) is.faultless ∙ ap (λ c. Ok (record { state = stamped (seen m) t; counts = c })) counted

-- ---- counts that are few enough for their sum with those of the edit's own source

pub tiles_long : (s : Size) → length (tiles s) ≡ tiles_in s
tiles_long s = length-range_with_len 0 (tiles_in s)

changed_most : (s : Size) (was : Option Cells) (now : Cells) → length (changed_tiles s was now) ≤ tiles_in s
unfolding changed_tiles
changed_most s None now = let all = tiles_long s in omega (arith, all)
changed_most s (Some was) now =
    let kept = length-filter (tile_has s (differs was now)) (tiles s) in let most = count_by-le-length (tile_has s (differs was now)) (tiles s) in let all = tiles_long s in
    omega (arith, kept, most, all)

total_most : (f : ℕ → ℕ) (b k : ℕ) → ((i : ℕ) → f i ≤ b) → total_of f k ≤ k * b
total_most f b zero each = let start = total_start f in omega (arith, start)
total_most f b (suc k) each = let next = total_suc f k in let rest = total_most f b k each in let one = each k in omega (arith, next, rest, one)

module _ (m : KeptMap) (keeps : IsKept m) (e : WholeEdit) (t : WholeState) (shift : Shift) (sources names : List Name) (steps : List (Step Given)) (prepared : Prepared) (ready : IsPreparedFor m e t shift sources names steps prepared)
    (sources_few : count_by is_source t.names.entries ≤ most_sources) (flats_few : count_by is_flat (layers t.names.entries) ≤ most_flats) where
  abbrev plan : Plan
  plan = plan_in m shift steps

  few_steps : length steps ≤ 96
  few_steps =
      let count = ready.under.count in
      let whole = ap length ready.under.whole in
      let listed = few_whole (nodes_of t.names.entries) in
      let nodes = few_nodes t.names.entries in
      omega (arith, count, whole, listed, nodes)

  few_in_all : (count : ℕ) (f : ℕ → ℕ) → count ≡ total_of f (length steps) → ((i : ℕ) → f i ≤ tiles_in m.extent) → count < 2 ^ 63
  few_in_all count f is each =
      let small = tiles_few m.extent keeps.size in
      let most = total_most f 16384 (length steps) (λ i. let one = each i in omega (arith, one, small)) in
      let steps_few = few_steps in
      omega (arith, is, most, steps_few)

  pub few_changed : prepared.counts.changed < 2 ^ 63
  few_changed = few_in_all prepared.counts.changed (λ i. length (change_at plan i).touched) (ap (λ (c : Counts). c.changed) ready.counts) (λ i. changed_most m.extent (plan.step i).was (change_at plan i).cells)

  pub few_evaluated : prepared.counts.evaluated < 2 ^ 63
  few_evaluated =
      few_in_all prepared.counts.evaluated (λ i. length (damage_at plan i)) (ap (λ (c : Counts). c.evaluated) ready.counts)
      (λ i. damage_most m.extent (plan.step i).op (reckoned (plan.step i)) (operands_at plan i))

-- ---- put in place

module _ (m : KeptMap) (e : WholeEdit) (t : WholeState) (shift : Shift) (prepared : Prepared) (kept : IsKept m) (set_up : IsSetUp m e t shift m.sources.names.keys)
    (is : IsPreparedFor m e t shift m.sources.names.keys m.planned.names.keys m.planned.steps.items prepared) where
  -- the step of what is kept at a place, its name and that it rests there
  rested : (k : ℕ) (x : Step Given) → slice_get m.planned.steps.items k ≡ Some x → IsAtRest k x x
  rested k x here =
      let within = slice_get_within m.planned.steps.items k x here in
      let steps_count = kept.statements.planned_are.count in
      let kept_count = kept.statements.count in
      let n = get_or m.planned.names.keys k [] in
      let named : slice_get m.planned.names.keys k ≡ Some n = slice_get-get_or m.planned.names.keys k [] (omega (arith, within, steps_count)) in
      let own = some_at m.kept.items k (omega (arith, within, kept_count)) in
      record {
        op = refl;
        depth = refl;
        kept = is.under.kept k n x named here ∙ one_place m e t shift m.sources.names.keys m.planned.names.keys m.planned.steps.items kept is.under set_up k n named;
        written = (kept.statements.each k n x own.0 named here own.1).written;
      }

  pub can_settle : CanSettle m prepared
  can_settle = record {
    rest = rested;
    kept = kept.statements.count;
    all = is.count ∙ sym kept.statements.count;
    ready = λ k own r at made.
        let within = slice_get_within m.kept.items k own at in
        let kept_count = kept.statements.count in
        let x = some_at m.planned.steps.items k (omega (arith, within, kept_count)) in
        let ready = are_ready m e t shift m.sources.names.keys m.planned.names.keys m.planned.steps.items kept is.under prepared.made.items is.made k x.0 r x.1 made in
        subst (λ o. IsReady m.extent o r) (ap (slot_of (map (λ l. Some l) m.kept.items)) (rested k x.0 x.1).kept ∙ slot_kept m.kept.items (Some k) ∙ at) ready;
  }
