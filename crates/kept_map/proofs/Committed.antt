-- A map whose edit is put in place is kept again, and is seen as the state that the edit makes.
use Rattle.std.proofs.Common.{◌≡◌, ℕ, true, List, length, Option, Some, None, is_some, option_map, slice_get, refl, sym, ap, subst, ◌∙◌, ◌≤◌, Bool, inl, inr, [], ◌∷◌, map, filter, count_by, position, unwrap_or, bytes_eq, Ok}
use Rattle.std.proofs.lemmas.List.{length-replicate}
use Rattle.std.specs.List.{list_any}
use Rattle.std.proofs.lemmas.Bool.{cases_Bool}
use Rattle.map_nums.specs.Counts.{raised}
use Rattle.map_nums.specs.Grids.{Size, IsSize, Cells, Grid, cells_in}
use Rattle.map_defs.specs.Ops.{Name, Op}
use Rattle.layer_tiles.specs.Cells.{AreCells}
use Rattle.layer_tiles.specs.Tiles.{tiles_in}
use Rattle.layer_tiles.specs.Changes.{ChangeState}
use Rattle.layer_tiles.specs.Operands.{cells_after}
use Rattle.layer_tiles.specs.Layers.{LayerState, IsLayer, IsStamped, layer_of}
use Rattle.statement_parser.specs.Views.{op_view}
use Rattle.statement_parser.specs.declared.op.Op.{Op as Given}
use Rattle.map_edits.specs.LayerDefs.{by_op, layers, find_making, nodes_of, Making, given_grid, LayerDef}
use Rattle.map_edits.specs.LayerChanges.{operands_in}
use Rattle.map_edits.specs.EngineStates.{value_of, term_cells, EngineState}
use Rattle.map_edits.specs.WholeStates.{WholeState, cells_of, stamps_of, Stamps}
use Rattle.map_edits.specs.WholeEdits.{WholeEdit}
use Rattle.map_edits.specs.Touches.{touch_of}
use Rattle.map_edits.specs.StampsAfter.{stamps_at, stamped}
use Rattle.map_edits.specs.Faults.{fault_of}
use Rattle.map_edits.specs.Limits.{most_sources, most_flats, is_source, is_flat}
use Rattle.map_edits.specs.GroupLaws.{IsLawful}
use Rattle.map_edits.specs.Counted.{fault_after, done, accept_counted}
use Rattle.map_edits.proofs.GroupsOnce.{groups_once}
use Rattle.map_edits.proofs.LawfulEdits.{lawful_stays}
use Rattle.map_edits.proofs.LawfulFaults.{said_puts_back, no_fault_stays}
use Rattle.map_waves.specs.Keeping.{was_of}
use Rattle.map_waves.specs.Plans.{StepDef, Plan, operands_at}
use Rattle.map_waves.specs.Prepared.{IsPrepared, shown}
use Rattle.map_waves.specs.Placing.{IsRightFor, IsPlaced, IsPlacedLayer}
use Rattle.map_waves.specs.declared.keeping.Kept.{Kept}
use Rattle.map_waves.specs.declared.keeping.Made.{Made}
use Rattle.map_waves.specs.declared.plans.Step.{Step}
use Rattle.map_waves.specs.declared.plans.Shift.{Shift}
use Rattle.map_waves.proofs.Righted.{right_after}
use Rattle.op_jobs.specs.Beside.{suits}
use Rattle.op_jobs.specs.Ranges.{HasRanges}
use Rattle.op_jobs.specs.declared.beside.Beside.{Beside}
use Rattle.edit_plans.specs.Orderly.{IsOrderly}
use Rattle.edit_plans.specs.Planned.{IsPlanned}
use Rattle.edit_plans.proofs.There.{some_map}
use Rattle.edit_plans.proofs.Valued.{value_is_made, operands_made}
use Rattle.edit_plans.proofs.Counting.{all_each}
use Rattle.edit_plans.proofs.Restamped.{old_is_stamped, new_is_stamped}
use Rattle.edit_plans.proofs.Forming.{step_at}
use Rattle.edit_plans.proofs.LayersMade.{EachLayer, IsFoundBy, layers_found}
use Rattle.edit_plans.proofs.Positions.{some_position, position_at}
use Rattle.kept_map.specs.Maps.{at_place, kept_in, layer_in, names_in, seen, stamps_seen}
use Rattle.kept_map.specs.Keeps.{IsKeptStep, IsKept, AreKeptSources, AreKeptSteps}
use Rattle.kept_map.specs.Repairs.{step_in, plan_in, IsUnder, AreMadeOf, IsPreparedFor}
use Rattle.kept_map.specs.declared.maps.KeptMap.{KeptMap}
use Rattle.kept_map.specs.Groups.{groups_of}
use Rattle.kept_map.specs.Flats.{flats_of_steps}
use Rattle.kept_map.specs.Edits.{IsSetUp}
use Rattle.kept_map.specs.Commits.{IsAtRest, IsCommitted}
use Rattle.kept_map.specs.declared.repairing.Prepared.{Prepared}
use Rattle.kept_map.proofs.LayersByName.{no_source, kept_step, layer_kept, stamps_found, source_there, layer_source, statement_listed}
use Rattle.map_edits.proofs.LawfulEdits.{attempt_counts}
use Rattle.kept_map.proofs.SourceLayers.{some_there}
use Rattle.kept_map.proofs.Ready.{slot_kept, rest_planned}
use Rattle.kept_map.proofs.Allowed.{accepted, faultless_cells}

-- what is the same of each layer that is left by a test
same_layers : (f g : LayerDef → Stamps) (q : LayerDef → Bool) (P : LayerDef → Type 0) → ((l : LayerDef) → P l → q l ≡ true → f l ≡ g l) → (ls : List LayerDef) → EachLayer P ls → map f (filter q ls) ≡ map g (filter q ls)
same_layers f g q P same [] each = refl
same_layers f g q P same (l ∷ ls) each = elim (cases_Bool (q l)) [
  | inl h ↦ rw h (ap (λ x. x ∷ map f (filter q ls)) (same l each.0 h) ∙ ap (λ xs. g l ∷ xs) (same_layers f g q P same ls each.1))
  | inr h ↦ rw h (same_layers f g q P same ls each.1)
]

module _ (m m' : KeptMap) (e : WholeEdit) (t : WholeState) (shift : Shift) (sources names : List Name) (steps : List (Step Given)) (made : List (Option (Made Beside))) (kept : IsKept m) (set_up : IsSetUp m e t shift sources)
    (under : IsUnder m e t shift sources names steps) (faultless : fault_after e t ≡ None) (count : length made ≡ length steps) (are_made : AreMadeOf m shift steps made) (new : IsCommitted m m' t names steps made) where
  abbrev s : EngineState
  s = t.names

  is_accepted : accept_counted (seen m) e ≡ Ok (done (touch_of e) (seen m) t)
  is_accepted = accepted (seen m) t e set_up.attempt faultless

  lawful : IsLawful (stamped (seen m) t)
  lawful = lawful_stays (seen m) e (done (touch_of e) (seen m) t) kept.lawful set_up.said is_accepted

  orderly : IsOrderly s
  orderly = record { groups = lawful.groups; apart = lawful.apart; none_looped = lawful.none_looped }

  number : s.number ≡ raised m.number 1
  number = ap (λ (q : EngineState). q.number) (attempt_counts (seen m) t e set_up.attempt)

  -- ---- what is put in place of a statement

  module _ (k : ℕ) (n : Name) (x : Step Given) (at : slice_get names k ≡ Some n) (here : slice_get steps k ≡ Some x) where
    abbrev p : Plan
    p = plan_in m shift steps

    abbrev own : Option (Kept Beside)
    own = at_place m.kept.items x.kept

    step_is : p.step k ≡ step_in m (Some x)
    step_is = ap (step_in m) here

    -- ---- what was kept

    -- it is what is kept under the name
    own_named : own ≡ kept_in m n
    own_named = ap (at_place m.kept.items) (under.kept k n x at here)

    module _ (old : Kept Beside) (is : own ≡ Some old) where
      was_kept : (y : Step Given) × IsKeptStep (names_in m) n y old
      was_kept = kept_step m kept n old (sym own_named ∙ is)

      old_stamps : stamps_of (seen m).stamps n ≡ Some old.layer.stamps
      old_stamps = stamps_found (layer_in m) (names_in m) n old.layer
          (layer_kept m n old (no_source (names_in m) m.sources kept.sources n (op_view was_kept.0.op) was_kept.1.making) (sym own_named ∙ is))
          (sym (some_map (λ (g : Grid). g.cells) (value_of (names_in m) n)) ∙ ap is_some was_kept.1.value)

    -- ---- what is put in place

    module _ (r : Option (Made Beside)) (prepared : IsPrepared suits p k own r) (now : Kept Beside) (placed : IsPlaced m.extent own r (raised m.number 1) now) where
      right : IsRightFor suits m.extent (p.step k).op (cells_after (operands_at p k)) now
      right = right_after suits p k (raised m.number 1) own r now prepared placed

      value_is : cells_of t.names n ≡ Some now.layer.cells
      value_is = ap (option_map (λ (g : Grid). g.cells)) (value_is_made (touch_of e) (names_in m) t.names p sources names under.plan orderly.none_looped k n at) ∙ ap (λ cells. Some cells) (sym right.right)

      beside_is : suits t.names.size (op_view x.op) (operands_in t.names (op_view x.op)) now.beside
      beside_is = subst (λ (o : Op). suits t.names.size o (operands_in t.names o) now.beside) (ap (λ (d : StepDef). d.op) step_is)
          (subst (λ (os : List Cells). suits t.names.size (p.step k).op os now.beside) (sym (all_each (term_cells t.names.size (value_of t.names)) (p.step k).op.terms (cells_after (operands_at p k))
          (operands_made (touch_of e) (names_in m) t.names p sources names under.plan orderly.none_looped k n at)))
          (subst (λ (s : Size). suits s (p.step k).op (cells_after (operands_at p k)) now.beside) under.plan.size right.beside))

      -- as many stamps as tiles, which are those after the edit
      stamps_are : (length now.layer.stamps ≡ tiles_in now.layer.size) × (now.layer.stamps ≡ stamps_at (seen m) t n)
      stamps_are = go own refl placed.layer
        where
          go : (o : Option (Kept Beside)) → own ≡ o → IsPlacedLayer o (shown m.extent own r) (raised m.number 1) now.layer
              → (length now.layer.stamps ≡ tiles_in now.layer.size) × (now.layer.stamps ≡ stamps_at (seen m) t n)
          -- a statement that was undefined
          go None is layer = (
            ap (λ (l : LayerState). length l.stamps) layer ∙ length-replicate (tiles_in (shown m.extent own r).size) (raised m.number 1) ∙ ap (λ (l : LayerState). tiles_in l.size) (sym layer),
            ap (λ (l : LayerState). l.stamps) layer
                ∙ ap (λ s. (layer_of s now.layer.cells (raised m.number 1)).stamps) (ap (λ (c : ChangeState). c.size) prepared.change ∙ under.plan.size)
                ∙ ap (λ j. (layer_of t.names.size now.layer.cells j).stamps) (sym number)
                ∙ new_is_stamped (seen m) t n now.layer.cells (sym (ap (λ (d : StepDef). d.was) (sym step_is) ∙ (under.plan.steps k n at).was) ∙ ap (λ (o : Option (Kept Beside)). was_of o) is),
          )
          -- one that was kept
          go (Some old) is layer =
              let was = (was_kept old is).1 in
              let size : old.layer.size ≡ t.names.size = was.size ∙ under.plan.size in (
                layer.2.count ∙ ap tiles_in (sym layer.0),
                old_is_stamped (seen m) t n old.layer.cells now.layer.cells old.layer.stamps now.layer.stamps (subst (λ s. IsSize s) size was.whole.size) was.value value_is (old_stamps old is)
                    (subst (λ s. IsStamped s old.layer.cells now.layer.cells t.names.number old.layer.stamps now.layer.stamps) size
                    (subst (λ j. IsStamped old.layer.size old.layer.cells now.layer.cells j old.layer.stamps now.layer.stamps) (sym number) layer.2)),
              )

      layer_is : IsLayer now.layer
      layer_is = record {
        size = subst (λ s. IsSize s) (sym right.size) kept.size;
        cells = ap length right.right ∙ prepared.count ∙ ap cells_in (sym right.size);
        are_cells = subst (λ cells. AreCells cells) (sym right.right) (faultless_cells m.extent (p.step k).op (cells_after (operands_at p k)) right.faultless);
        stamps = stamps_are.0;
      }

      -- what is in place of the statement when it rests
      placed_for : (y : Step Given) → IsAtRest k x y → IsKeptStep s n y now × (now.layer.stamps ≡ stamps_at (seen m) t n)
      placed_for y rest = (
        record {
          making = (under.plan.steps k n at).making ∙ ap (λ (d : StepDef). Some (by_op d.op)) step_is ∙ ap (λ o. Some (by_op (op_view o))) (sym rest.op);
          ranges = subst (λ o. HasRanges (op_view o)) (sym rest.op) (under.ranges k x here);
          written = rest.written;
          value = value_is;
          size = right.size ∙ under.plan.size;
          whole = layer_is;
          beside = subst (λ o. suits s.size (op_view o) (operands_in s (op_view o)) now.beside) (sym rest.op) beside_is;
        },
        stamps_are.1,
      )

  -- ---- a statement at its place

  is_put : (k : ℕ) (n : Name) (y : Step Given) (own : Kept Beside) → slice_get names k ≡ Some n → slice_get m'.planned.steps.items k ≡ Some y → slice_get m'.kept.items k ≡ Some own
      → IsKeptStep s n y own × (own.layer.stamps ≡ stamps_at (seen m) t n)
  is_put k n y own at rested now =
      let x = step_at names steps under.count k n at in
      let r = step_at names made (count ∙ under.count) k n at in
      let placed : IsPlaced m.extent (at_place m.kept.items x.0.kept) r.0 (raised m.number 1) own = subst (λ o. IsPlaced m.extent o r.0 (raised m.number 1) own) (slot_kept m.kept.items x.0.kept) (new.placed k own x.0 r.0 now x.1 r.1) in
      placed_for k n x.0 at x.1 r.0 (are_made k x.0 r.0 x.1 r.1) own placed y (new.rest k x.0 y x.1 rested).0

  -- ---- all statements

  kept_steps : AreKeptSteps s m'.sources.names.keys m'.planned m'.kept.items
  kept_steps = record {
    planned_are = subst (λ ns. IsPlanned (nodes_of s.entries) m'.sources.names.keys (flats_of_steps ns m'.planned.steps.items) ns ns m'.planned.steps.items) (sym new.plan_names)
        (rest_planned (nodes_of s.entries) (groups_once s.entries orderly.groups orderly.apart) m'.sources.names.keys names steps m'.planned.steps.items under.whole under.count new.plan_count under.depths new.rest);
    count = new.kept_count ∙ sym new.plan_count;
    each = λ k n y own at rested now. (is_put k n y own (ap (λ ns. slice_get ns k) (sym new.plan_names) ∙ at) rested now).0;
  }

  -- ---- stamps

  layer_stamps : (n : Name) (making : Making) → find_making (layers s.entries) n ≡ Some making → is_some (value_of s n) ≡ true → unwrap_or (option_map (λ (l : LayerState). l.stamps) (layer_in m' n)) [] ≡ stamps_at (seen m) t n
  layer_stamps n (given_grid grid) found defined =
      let r = source_there s m'.sources new.sources n grid found in
      ap (λ (o : Option LayerState). unwrap_or (option_map (λ (l : LayerState). l.stamps) o) []) (layer_source m' n r.0 r.1) ∙ new.stamped n r.0 r.1
  layer_stamps n (by_op op) found defined =
      let at = some_there (position (bytes_eq n) m'.planned.names.keys)
      (some_position (bytes_eq n) m'.planned.names.keys ∙ ap (list_any (bytes_eq n)) (new.plan_names ∙ under.whole) ∙ statement_listed s orderly.none_looped n op found defined) in
      let named : slice_get names at.0 ≡ Some n = ap (λ ns. slice_get ns at.0) (sym new.plan_names) ∙ position_at n m'.planned.names.keys at.0 at.1 in
      let y = step_at names m'.planned.steps.items (new.plan_count ∙ under.count) at.0 n named in
      let own = step_at names m'.kept.items (new.kept_count ∙ under.count) at.0 n named in
      let layer : layer_in m' n ≡ Some own.0.layer = layer_kept m' n own.0 (no_source s m'.sources new.sources n op found) (ap (at_place m'.kept.items) at.1 ∙ own.1) in
      ap (λ (o : Option LayerState). unwrap_or (option_map (λ (l : LayerState). l.stamps) o) []) layer ∙ (is_put at.0 n y.0 own.0 named y.1 own.1).1

  stamps_are_seen : stamps_seen (layer_in m') (names_in m') ≡ (stamped (seen m) t).stamps
  stamps_are_seen =
      ap (stamps_seen (layer_in m')) new.names_are
      ∙ same_layers (λ l. record { name = l.name; stamps = unwrap_or (option_map (λ (k : LayerState). k.stamps) (layer_in m' l.name)) [] }) (λ l. record { name = l.name; stamps = stamps_at (seen m) t l.name })
      (λ l. is_some (value_of s l.name)) (IsFoundBy (layers s.entries)) (λ l found defined. ap (λ (ks : List ℕ). record { name = l.name; stamps = ks }) (layer_stamps l.name l.making found defined))
      (layers s.entries) (layers_found s orderly)

  -- ---- the map

  seen_after : seen m' ≡ stamped (seen m) t
  seen_after = λ j. record { names = new.names_are j; procedures = new.procedures j; labels = new.labels j; symbols = new.symbols j; stamps = stamps_are_seen j }

  kept_after : IsKept m'
  kept_after = record {
    size = subst (λ q. IsSize q) (sym (ap (λ (q : EngineState). q.size) (new.names_are ∙ attempt_counts (seen m) t e set_up.attempt))) kept.size;
    named = new.named;
    formed = new.formed;
    lawful = subst IsLawful (sym seen_after) lawful;
    sources_few = subst (λ (q : EngineState). count_by is_source q.entries ≤ most_sources) (sym new.names_are) new.sources_few;
    flats_few = subst (λ (q : EngineState). count_by is_flat (layers q.entries) ≤ most_flats) (sym new.names_are) new.flats_few;
    graph_is = new.graph_is ∙ ap (λ (q : EngineState). groups_of q.entries) (sym new.names_are);
    faultless = subst (λ (q : EngineState). fault_of q ≡ None) (sym new.names_are) (no_fault_stays (seen m) e (done (touch_of e) (seen m) t) kept.lawful kept.faultless (said_puts_back (seen m) e set_up.said) is_accepted);
    sources = subst (λ (q : EngineState). AreKeptSources q m'.sources) (sym new.names_are) new.sources;
    statements = subst (λ (q : EngineState). AreKeptSteps q m'.sources.names.keys m'.planned m'.kept.items) (sym new.names_are) kept_steps;
  }

pub committed_prepared : (m m' : KeptMap) (e : WholeEdit) (t : WholeState) (shift : Shift) (sources names : List Name) (steps : List (Step Given)) (prepared : Prepared)
    → IsKept m → IsSetUp m e t shift sources → IsPreparedFor m e t shift sources names steps prepared → IsCommitted m m' t names steps prepared.made.items → IsKept m' × (seen m' ≡ stamped (seen m) t)
committed_prepared m m' e t shift sources names steps prepared kept set_up is new = (
  kept_after m m' e t shift sources names steps prepared.made.items kept set_up is.under is.faultless is.count is.made new,
  seen_after m m' e t shift sources names steps prepared.made.items kept set_up is.under is.faultless is.count is.made new,
)
