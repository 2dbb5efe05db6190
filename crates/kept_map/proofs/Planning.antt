-- Steps that are planned over a map are those that are repaired, and what is made of them is prepared for the edit, whose first fault is told and whose reads are allowed; the plan stays, or is made anew.
use Rattle.std.proofs.Common.{◌≡◌, ℕ, suc, ◌+◌, ◌*◌, ◌≤◌, false, List, [], length, get_or, position, Option, Some, None, is_some, option_map, slice_get, bytes_eq, refl, sym, ap, subst, ◌∙◌, arith, Bor, ◌<◌, inl, inr}
use Rattle.std.specs.List.{All}
use Rattle.std.proofs.lemmas.Bool.{true≢false, cases_lt}
use Rattle.std.proofs.lemmas.Option.{none-some, slice_get-get_or}
use Rattle.map_nums.specs.Grids.{Grid, Size, row_of, column_of}
use Rattle.map_defs.specs.Ops.{Name, Op}
use Rattle.map_defs.specs.Depths.{depth_in, by_depth}
use Rattle.layer_tiles.specs.Layers.{LayerState, IsLayer}
use Rattle.layer_tiles.specs.Tallies.{TallyState, RisesBy}
use Rattle.layer_tiles.proofs.Rising.{rises_within}
use Rattle.statement_parser.specs.Views.{op_view}
use Rattle.statement_parser.specs.declared.op.Op.{Op as Given}
use Rattle.map_edits.specs.LayerDefs.{by_op, layers, nodes_of}
use Rattle.map_edits.specs.LayerChanges.{operands_in}
use Rattle.map_edits.specs.EngineStates.{value_of}
use Rattle.map_edits.specs.Faults.{fault_of, too_many_viewers, overflow}
use Rattle.map_edits.specs.Faults as faults
use Rattle.map_edits.specs.Allowances.{faulty_name}
use Rattle.map_edits.specs.EditCounts.{Counts}
use Rattle.map_edits.specs.WholeStates.{WholeState, cells_of}
use Rattle.map_edits.specs.WholeEdits.{WholeEdit}
use Rattle.map_edits.specs.Touches.{touch_of, is_whole}
use Rattle.map_edits.specs.Touching.{ChangesOnly}
use Rattle.map_edits.specs.Counted.{fault_after}
use Rattle.map_edits.proofs.LawfulFaults.{said_puts_back}
use Rattle.map_waves.specs.Keeping.{was_of, IsRightOver}
use Rattle.map_waves.specs.Operands.{IsOperand}
use Rattle.map_waves.specs.Bases.{new_sources, source_by, IsBase, ArePlanned, AreRight, source_in, kept_by, step_by, plan_of}
use Rattle.map_waves.specs.Plans.{Plan, operands_at, changed_to, evaluated_to, worked_to}
use Rattle.map_waves.specs.Prepared.{IsPrepared, ArePrepared}
use Rattle.map_waves.specs.Phases.{AreFaultless, EndsDepth}
use Rattle.map_waves.specs.Statements.{Fault, too_many, wide_at}
use Rattle.map_waves.specs.declared.keeping.Kept.{Kept}
use Rattle.map_waves.specs.declared.keeping.Made.{Made}
use Rattle.map_waves.specs.declared.plans.Step.{Step}
use Rattle.map_waves.specs.declared.plans.Shift.{Shift}
use Rattle.map_waves.specs.declared.plans.Base.{Base}
use Rattle.map_waves.proofs.Reading.{prepared_at}
use Rattle.map_waves.proofs.Rowing.{some_at}
use Rattle.op_jobs.specs.Beside.{suits}
use Rattle.op_jobs.specs.Ranges.{HasRanges}
use Rattle.op_jobs.specs.declared.beside.Beside.{Beside}
use Rattle.edit_plans.specs.PlansFor.{IsChangeOf, IsPlanFor}
use Rattle.edit_plans.specs.Planned.{whole_names, IsPlannedStep}
use Rattle.edit_plans.specs.PlannedLaws.{IsPlannedFrom, IsCounted, AreFormed}
use Rattle.edit_plans.specs.Orderly.{IsOrderly}
use Rattle.edit_plans.specs.ReadLaws.{AreReached}
use Rattle.edit_plans.specs.SourceCounts.{counts_of_sources, counts_to_place}
use Rattle.edit_plans.specs.Telling.{fault_told}
use Rattle.edit_plans.proofs.TouchedAlone.{others_are_kept, order_is_kept}
use Rattle.edit_plans.proofs.RightBefore.{kept_is_right}
use Rattle.edit_plans.proofs.Faulted.{first_fault_is_told, no_fault_is_none}
use Rattle.edit_plans.proofs.OneSource.{one_source_counts}
use Rattle.edit_plans.proofs.Reading.{reads_are_allowed}
use Rattle.edit_plans.proofs.There.{none_where}
use Rattle.edit_plans.proofs.Positions.{position_at}
use Rattle.edit_plans.proofs.Forming.{step_at, planned_is_plan}
use Rattle.edit_plans.proofs.Ordered.{named_step, depths_rise, planned_is_in_order}
use Rattle.kept_map.specs.Maps.{at_place, names_in, seen}
use Rattle.kept_map.specs.Keeps.{IsKept}
use Rattle.kept_map.specs.Edits.{change_in, IsSetUp}
use Rattle.kept_map.specs.Planning.{IsPlannedFor}
use Rattle.kept_map.specs.Halts.{IsHaltOf}
use Rattle.kept_map.specs.Told.{IsFirstNamed, IsTold, IsReachedAt}
use Rattle.kept_map.specs.Repairs.{step_in, plan_in, IsUnder, AreMadeOf, counts_view, IsPreparedFor, own_damage, RisesByRest}
use Rattle.kept_map.specs.declared.maps.KeptMap.{KeptMap}
use Rattle.kept_map.specs.declared.halts.Halt.{Halt}
use Rattle.kept_map.specs.declared.halts.Halt.TheVariants.{Viewers, Overflow, NoMemory}
use Rattle.kept_map.specs.declared.repairing.Prepared.{Prepared}
use Rattle.kept_map.proofs.Allowed.{sources_allowed, first_fault, none_after, fault_is_after}
use Rattle.kept_map.proofs.LayersByName.{defined_placed, step_kept, kept_step}
use Rattle.map_edits.specs.Entries.{source}
use Rattle.map_edits.specs.Laws.{HasNoCycle}
use Rattle.kept_map.proofs.Few.{few_whole, has_operands}

-- ---- what is kept

module _ (m : KeptMap) (kept : IsKept m) where
  pub kept_count : length m.kept.items ≡ length m.planned.names.keys
  kept_count = kept.statements.count ∙ kept.statements.planned_are.count

  -- the cells that are kept are those before
  cells_kept : (n : Name) → is_some (position (bytes_eq n) m.sources.names.keys) ≡ false → was_of (at_place m.kept.items (position (bytes_eq n) m.planned.names.keys)) ≡ cells_of (names_in m) n
  cells_kept n away = go (position (bytes_eq n) m.planned.names.keys) refl
    where
      go : (o : Option ℕ) → position (bytes_eq n) m.planned.names.keys ≡ o → was_of (at_place m.kept.items o) ≡ cells_of (names_in m) n
      go None e =
          let undefined : value_of (names_in m) n ≡ None = none_where (value_of (names_in m) n) (λ g is. true≢false (sym (defined_placed m kept n away g is) ∙ ap is_some e)) in
          ap (option_map (λ (g : Grid). g.cells)) (sym undefined)
      go (Some i) e =
          let named = position_at n m.planned.names.keys i e in
          let own = step_at m.planned.names.keys m.kept.items kept_count i n named in
          ap was_of own.1 ∙ sym (step_kept m kept i n own.0 named own.1).1.value

  kept_whole : All (λ (k : Kept Beside). (k.layer.size ≡ m.extent) × IsLayer k.layer) m.kept.items
  kept_whole k d below =
      let count = kept_count in
      let named = slice_get-get_or m.planned.names.keys k [] (omega arith) in
      let step = (step_kept m kept k (get_or m.planned.names.keys k []) (get_or m.kept.items k d) named (slice_get-get_or m.kept.items k d below)).1 in
      (step.size, step.whole)

-- ---- a plan over a base

told_name : (size : Size) (n : Name) (f : Fault) → faulty_name (fault_told size n f) ≡ n
told_name size n (too_many count) = refl
told_name size n (wide_at at) = refl

pub same_op : (a b : Op) → Some (by_op a) ≡ Some (by_op b) → a ≡ b
same_op a b e = cc

module _ {m : KeptMap} {e : WholeEdit} {t : WholeState} {shift : Shift} {sources : List Name} (kept : IsKept m) (set_up : IsSetUp m e t shift sources) where
  changes : ChangesOnly (touch_of e) (names_in m) t.names
  changes = others_are_kept (seen m) t e kept.lawful set_up.said set_up.attempt

  pub orderly : IsOrderly t.names
  orderly = order_is_kept (seen m) t e kept.lawful set_up.said set_up.attempt

  -- what the sources count is what the edit damages of its own
  own_sources : (counts_of_sources (touch_of e) (names_in m) t.names).evaluated ≡ own_damage m e t
  own_sources = ap (λ (c : Counts). c.evaluated) (one_source_counts (touch_of e) (names_in m) t.names changes kept.lawful.none_looped orderly)

  -- where there is no plan, nothing is read
  pub rests : (a : TallyState) → RisesByRest m e t a a
  rests a = record {
    own = omega (arith, sources_allowed (seen m) t e set_up.attempt orderly, own_sources);
    rest = record { looks_rise = omega arith; picks_rise = omega arith; parts_out_stay = refl; is_part_stays = refl };
  }

-- steps that are planned for an edit, and a base that is the map with a shift
module _ {m : KeptMap} {e : WholeEdit} {t : WholeState} {shift : Shift} {sources names : List Name} {steps : List (Step Given)} (held : IsKept m) (plan : IsPlannedFor m e t shift sources names steps)
    (ls : Bor (List LayerState)) (ks : Bor (List (Kept Beside))) (layers_are : ls.now ≡ m.sources.layers.items) (kept_are : ks.now ≡ m.kept.items) where
  abbrev base : Base Beside
  base = record { extent = m.extent; sources = ls; shift = shift; kept = ks }

  source_is : (i : ℕ) → source_in base i ≡ change_in m shift i
  source_is i = ap (λ xs. source_by m.extent shift i (slice_get xs i)) layers_are

  kept_is : (o : Option ℕ) → kept_by base o ≡ at_place m.kept.items o
  kept_is None = refl
  kept_is (Some i) = ap (λ xs. slice_get xs i) kept_are

  step_is : (o : Option (Step Given)) → step_by op_view base o ≡ step_in m o
  step_is None = refl
  step_is (Some x) = ap (λ (k : Option (Kept Beside)). record { op = op_view x.op; refs = x.refs.items; was = was_of k; written = x.written }) (kept_is x.kept)

  abbrev the_plan : Plan
  the_plan = plan_of op_view base steps

  plan_is : the_plan ≡ plan_in m shift steps
  plan_is = λ i. record { size = m.extent; source = λ k. source_is k i; step = λ k. step_is (slice_get steps k) i }

  pub few_steps : length steps ≤ 96
  few_steps =
      let named : length names ≡ length (whole_names (nodes_of t.names.entries) (by_depth (nodes_of t.names.entries))) = ap length plan.planned.names_are in
      omega (arith, named, plan.planned.count, plan.few, few_whole (nodes_of t.names.entries))

  steps_rise : (j k : ℕ) (x y : Step Given) → j ≤ k → slice_get steps j ≡ Some x → slice_get steps k ≡ Some y → x.depth ≤ y.depth
  steps_rise j k x y below at here = depths_rise (nodes_of t.names.entries) sources plan.flats m.planned.names.keys names steps j k x y plan.planned below at here

  -- the planned step at a place
  planned_at : (k : ℕ) (x : Step Given) → slice_get steps k ≡ Some x → IsPlannedStep (nodes_of t.names.entries) sources plan.flats m.planned.names.keys names k (get_or names k []) x
  planned_at k x at = plan.planned.each k (get_or names k []) x (named_step names steps plan.planned.count k x at) at

  pub is_base : IsBase base
  is_base = record {
    sources = subst (λ xs. All (λ (l : LayerState). l.size ≡ m.extent) xs) (sym layers_are) (λ k d below. (held.sources.whole k d below).0);
    kept = subst (λ xs. All (λ (k : Kept Beside). (k.layer.size ≡ m.extent) × IsLayer k.layer) xs) (sym kept_are) (kept_whole m held);
    shift = plan.set_up.shift_is;
    operands = λ i. subst (IsOperand m.extent) (sym (source_is i)) (plan.set_up.operands i);
  }

  none_looped : HasNoCycle (nodes_of t.names.entries)
  none_looped = (orderly held plan.set_up).none_looped

  planned_from : IsPlannedFrom (touch_of e) (names_in m) t.names base sources plan.flats m.planned.names.keys
  planned_from = record {
    size = (changes held plan.set_up).size;
    statements = λ n f found. (plan.each n f found).making;
    written = λ n f found. (plan.each n f found).written;
    sources_are = λ i n at. subst (IsChangeOf (names_in m) t.names n) (sym (source_is i)) (plan.set_up.changes i n at);
    kept = λ n f found. ap was_of (kept_is (position (bytes_eq n) m.planned.names.keys)) ∙ cells_kept m held n (plan.each n f found).no_source;
  }

  counted : IsCounted base sources m.planned.names.keys
  counted = record {
    sources_are = plan.set_up.count ∙ ap (λ xs. length xs + new_sources shift) (sym layers_are);
    kept = sym (kept_count m held) ∙ ap length (sym kept_are);
  }

  formed : AreFormed HasRanges plan.flats
  formed n f found = let ranges = (plan.each n f found).ranges in (ranges, (has_operands (op_view f.op) ranges).few)

  is_plan : IsPlanFor (touch_of e) (names_in m) t.names the_plan sources names
  is_plan = planned_is_plan (touch_of e) (names_in m) t.names base sources plan.flats m.planned.names.keys names steps none_looped planned_from plan.planned

  pub in_order : ArePlanned op_view (λ o. HasRanges (op_view o)) base steps
  in_order = planned_is_in_order HasRanges (touch_of e) (names_in m) t.names base sources plan.flats m.planned.names.keys names steps none_looped planned_from counted formed plan.planned

  depths_are : (k : ℕ) (n : Name) (x : Step Given) → slice_get names k ≡ Some n → slice_get steps k ≡ Some x → x.depth ≡ depth_in (nodes_of t.names.entries) n
  depths_are k n x named at = (plan.planned.each k n x named at).depth

  under : IsUnder m e t shift sources names steps
  under = record {
    plan = subst (λ p. IsPlanFor (touch_of e) (names_in m) t.names p sources names) plan_is is_plan;
    whole = plan.planned.names_are;
    count = plan.planned.count;
    ranges = λ k x at. let step = planned_at k x at in subst HasRanges (sym step.op) (plan.each (get_or names k []) step.flat step.from).ranges;
    depths = depths_are;
    kept = λ k n x named at. (plan.planned.each k n x named at).kept;
  }

  -- what is kept is right
  pub are_right : AreRight op_view suits base steps
  are_right k x own at here unwritten =
      let n = get_or names k [] in
      let step = planned_at k x at in
      let flat = plan.each n step.flat step.from in
      let untouched : is_whole t.names.entries (touch_of e) n ≡ false = sym flat.written ∙ sym step.written ∙ unwritten in
      let before = (changes held plan.set_up).statements n (op_view step.flat.op) untouched flat.making in
      let found : at_place m.kept.items (position (bytes_eq n) m.planned.names.keys) ≡ Some own = sym (kept_is (position (bytes_eq n) m.planned.names.keys)) ∙ ap (kept_by base) (sym step.kept) ∙ here in
      let kept = kept_step m held n own found in
      let keeps = kept.1 in
      let both : Some (by_op (op_view kept.0.op)) ≡ Some (by_op (op_view x.op)) = sym keeps.making ∙ before ∙ ap (λ o. Some (by_op o)) (sym step.op) in
      let is : op_view kept.0.op ≡ (step_by op_view base (slice_get steps k)).op = same_op (op_view kept.0.op) (op_view x.op) both ∙ ap (λ o. (step_by op_view base o).op) (sym at) in
      subst (λ o. IsRightOver suits m.extent (step_by op_view base o).op (operands_at the_plan k) own) at
      (kept_is_right suits (touch_of e) (names_in m) t.names the_plan sources names k n own is_plan (changes held plan.set_up) held.lawful.none_looped held.faultless
      (named_step names steps plan.planned.count k x at)
      (ap (λ o. (step_by op_view base o).written) at ∙ unwritten)
      (ap (λ o. (step_by op_view base o).was) at ∙ ap was_of here)
      keeps.size
      (subst (λ (o : Op). suits m.extent o (operands_in (names_in m) o) own.beside) is keeps.beside))

  -- ---- the fault for which the edit is refused is the first of its plan

  after : fault_after e t ≡ fault_of t.names
  after = fault_is_after (seen m) t e held.lawful held.faultless (said_puts_back (seen m) e plan.set_up.said) plan.set_up.attempt

  none_found : AreFaultless the_plan 0 (length steps) → fault_after e t ≡ None
  none_found are = none_after t e ((no_fault_is_none (touch_of e) (names_in m) t.names the_plan sources names is_plan none_looped).1 (λ k below. are k (omega arith) (omega (arith, below, plan.planned.count))))

  named_fault : (n : Name) (f : Fault) → IsFirstNamed the_plan names n f → fault_after e t ≡ Some (fault_told t.names.size n f)
  named_fault n f first =
      after ∙ first_fault_is_told (touch_of e) (names_in m) t.names the_plan sources names first.place n f is_plan none_looped first.named first.first.is (λ j less. first.first.none j (omega arith) less)

  pub halted_for : (halt : Halt) → IsTold m.extent the_plan names halt → IsHaltOf e t halt
  halted_for NoMemory told = tt
  halted_for (Viewers n count) told = named_fault n (too_many count) told
  halted_for (Overflow n row column) told =
      let at = told.0 in
      named_fault n (wide_at at) told.1
      ∙ ap (λ q. Some (overflow n (suc (row_of q at)) (suc (column_of q at)))) (sym (changes held plan.set_up).size)
      ∙ ap (λ r. Some (overflow n r (suc (column_of m.extent at)))) (sym told.2)
      ∙ ap (λ c. Some (overflow n row c)) (sym told.3)

  -- ---- what is made of the steps

  made_of : (made : List (Option (Made Beside))) → ArePrepared op_view suits base steps 0 made → AreMadeOf m shift steps made
  made_of made prepared k x r at is =
      subst (λ p. IsPrepared suits p k (at_place m.kept.items x.kept) r) plan_is
      (subst (λ o. IsPrepared suits the_plan k o r) (kept_is x.kept) (prepared_at op_view suits base steps made prepared k x r at is))

  pub prepared_for : (r : Prepared) → length r.made.items ≡ length steps → ArePrepared op_view suits base steps 0 r.made.items → AreFaultless the_plan 0 (length steps)
      → r.counts.changed ≡ changed_to the_plan (length steps) → r.counts.evaluated ≡ evaluated_to the_plan (length steps) → r.counts.worked ≡ worked_to the_plan (length steps) → IsPreparedFor m e t shift sources names steps r
  prepared_for r count made none changed evaluated worked =
      let counts : counts_view r.counts ≡ counts_to_place the_plan (length steps) = λ i. record { changed = changed i; evaluated = evaluated i; worked = worked i } in
      record { faultless = none_found none; under = under; count = count; made = made_of r.made.items made; counts = counts ∙ ap (λ p. counts_to_place p (length steps)) plan_is }

  -- ---- what is looked at before a fault is no deeper, and may be read

  -- those before the end of a depth are no deeper than one of that depth, or one after it
  shallow : (k end i : ℕ) (n : Name) → EndsDepth steps k end → k ≤ i → slice_get names i ≡ Some n → (j : ℕ) (q : Name) → j < end → slice_get names j ≡ Some q
      → depth_in (nodes_of t.names.entries) q ≤ depth_in (nodes_of t.names.entries) n
  shallow k end i n ends from here j q below at =
      let x = step_at names steps plan.planned.count j q at in
      let y = some_at steps k (omega (arith, ends.0, ends.1)) in
      let z = step_at names steps plan.planned.count i n here in
      let low = depths_are j q x.0 at x.1 in
      let deep = depths_are i n z.0 here z.1 in
      elim (cases_lt j k) [
        | inl less ↦ omega (arith, low, deep, steps_rise j i x.0 z.0 (omega (arith, less, from)) x.1 z.1)
        | inr more ↦ omega (arith, low, deep, ends.2 j x.0 y.0 more below y.1 x.1, steps_rise k i y.0 z.0 from y.1 z.1)
      ]

  -- the name of a fault
  by_fault : (k end i : ℕ) (n : Name) (f g : faults.Fault) → EndsDepth steps k end → k ≤ i → slice_get names i ≡ Some n → fault_after e t ≡ Some g → faulty_name g ≡ n → fault_after e t ≡ Some f
      → (j : ℕ) (q : Name) → j < end → slice_get names j ≡ Some q → depth_in (nodes_of t.names.entries) q ≤ depth_in (nodes_of t.names.entries) (faulty_name f)
  by_fault k end i n f g ends from here is named e j q below at =
      let same : g ≡ f = cc in
      subst (λ r. depth_in (nodes_of t.names.entries) q ≤ depth_in (nodes_of t.names.entries) r) (sym named ∙ ap faulty_name same) (shallow k end i n ends from here j q below at)

  no_memory : (k end : ℕ) → AreFaultless the_plan 0 k → EndsDepth steps k end → AreReached t e names end
  no_memory k end before ends f is j q below at = elim (first_fault the_plan (length names)) [
    | inl are ↦ absurd (none-some f (sym (none_found (λ k from below. are k from (omega (arith, below, plan.planned.count)))) ∙ is))
    | inr r ↦ (let n = some_at names r.0 r.2.below in
        let told = named_fault n.0 r.1 (record { place = r.0; named = n.1; first = r.2 }) in
        let later : k ≤ r.0 = elim (cases_lt r.0 k) [ inl less ↦ absurd (none-some r.1 (sym (before r.0 (omega arith) less) ∙ r.2.is)) | inr from ↦ from ] in
        by_fault k end r.0 n.0 f (fault_told t.names.size n.0 r.1) ends later n.1 told (told_name t.names.size n.0 r.1) is j q below at)
  ]

  reached_at : (end : ℕ) (halt : Halt) → IsHaltOf e t halt → IsReachedAt the_plan names steps halt end → AreReached t e names end
  reached_at end (Viewers n viewers) told at f is j q below here = by_fault at.0 end at.0 n f (too_many_viewers n viewers) at.3 (omega arith) at.1 told refl is j q below here
  reached_at end (Overflow n row column) told at f is j q below here = by_fault at.0 end at.0 n f (overflow n row column) at.4 (omega arith) at.2 told refl is j q below here
  reached_at end NoMemory told at f is j q below here = no_memory at.0 end at.1 at.2 f is j q below here

  within_at : (end : ℕ) (halt : Halt) → IsReachedAt the_plan names steps halt end → end ≤ length steps
  within_at end (Viewers n viewers) at = at.3.1
  within_at end (Overflow n row column) at = at.4.1
  within_at end NoMemory at = at.2.1

  rises_to : (end : ℕ) → end ≤ length steps → AreReached t e names end → (a b : TallyState) → RisesBy (62 * evaluated_to the_plan end) (1000 * worked_to the_plan end) a b → RisesByRest m e t a b
  rises_to end within reached a b rise =
      let below : end ≤ length names = omega (arith, within, plan.planned.count) in
      let allowed = reads_are_allowed (seen m) t e the_plan sources names end plan.set_up.attempt is_plan (changes held plan.set_up) held.lawful.none_looped (orderly held plan.set_up) below reached in
      let own = own_sources held plan.set_up in
      record { own = omega (arith, allowed.looks, own); rest = rises_within _ _ _ _ a b (omega (arith, allowed.looks, own)) (omega (arith, allowed.picks)) rise }

  pub rises_whole : AreFaultless the_plan 0 (length steps) → (end : ℕ) → end ≡ length steps → (a b : TallyState) → RisesBy (62 * evaluated_to the_plan end) (1000 * worked_to the_plan end) a b → RisesByRest m e t a b
  rises_whole none end all a b rise = rises_to end (omega arith) (λ f is j n below at. absurd (none-some f (sym (none_found none) ∙ is))) a b rise

  pub rises_halted : (halt : Halt) (end : ℕ) → IsTold m.extent the_plan names halt → IsReachedAt the_plan names steps halt end → (a b : TallyState) → RisesBy (62 * evaluated_to the_plan end) (1000 * worked_to the_plan end) a b → RisesByRest m e t a b
  rises_halted halt end told reached a b rise = rises_to end (within_at end halt reached) (reached_at end halt (halted_for halt told) reached) a b rise
