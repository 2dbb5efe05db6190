-- What is planned for an edit: the plan of before, where that stays, or another.
use Rattle.std.proofs.Common.{◌≡◌, ℕ, ◌+◌, ◌≤◌, false, List, [], ◌∷◌, length, position, Option, Some, None, is_some, option_map, bytes_eq, ◌||◌, refl, sym, ap, subst, ◌∙◌, arith, Bor, ◌^◌, ◌<◌, ◌++◌, map, unwrap_or, true, inl, inr}
use Rattle.std.specs.List.{list_any}
use Rattle.std.proofs.lemmas.Bool.{true≢false, or_left, or_right, or_parts}
use Rattle.std.proofs.lemmas.Option.{none-some}
use Rattle.map_defs.specs.Ops.{Name, Op, needs_of}
use Rattle.statement_parser.specs.Views.{op_view}
use Rattle.statement_parser.specs.declared.op.Op.{Op as Given}
use Rattle.map_edits.specs.LayerDefs.{by_op, layers, find_making, nodes_of, Making, given_grid}
use Rattle.map_edits.specs.WholeStates.{WholeState}
use Rattle.map_edits.specs.WholeEdits.{WholeEdit}
use Rattle.map_waves.specs.declared.plans.Step.{Step}
use Rattle.map_waves.specs.declared.plans.Shift.{Shift}
use Rattle.edit_plans.specs.Planned.{FlatDef, IsFlatOf, AreFlats, AreSources, AreNamedApart, is_source_node, added_names, IsPlanned}
use Rattle.edit_plans.proofs.Positions.{position_at, some_position}
use Rattle.edit_plans.proofs.Forming.{step_at}
use Rattle.kept_map.specs.Maps.{names_in, entries_in, names_with}
use Rattle.kept_map.specs.Keeps.{IsKept}
use Rattle.kept_map.specs.Edits.{IsSetUp, IsReplanned, IsSamePlan}
use Rattle.kept_map.specs.Planning.{IsPlannedFor, IsFlatAfter}
use Rattle.kept_map.specs.declared.maps.KeptMap.{KeptMap}
use Rattle.kept_map.proofs.LayersByName.{node_made}
use Rattle.std.specs.Map.{lookup}
use Rattle.std.proofs.lemmas.List.Folds.{list_any-append}
use Rattle.map_defs.specs.Nodes.{Node, find_node}
use Rattle.map_defs.specs.FlatNames.{IsIn}
use Rattle.statement_graph.specs.Groups.{Group, nodes_in}
use Rattle.map_edits.specs.Laws.{HasNoCycle, is_named_in}
use Rattle.map_edits.specs.Limits.{most_sources, most_flats}
use Rattle.map_edits.proofs.Among.{bytes_eq-self}
use Rattle.map_edits.proofs.Looks.{find_node-making, made_node}
use Rattle.map_edits.proofs.Once.{IsOnce}
use Rattle.map_edits.proofs.GroupsOnce.{groups_once}
use Rattle.procedure_expand.specs.declared.flat.Flat.{Flat}
use Rattle.kept_map.specs.Flats.{flats_kept, flats_after}
use Rattle.kept_map.proofs.EditedFlats.{flat_at}
use Rattle.kept_map.proofs.Given.{nodes_in_groups}
use Rattle.kept_map.proofs.Few.{few_within, has_operands}
use Rattle.kept_map.proofs.Planning.{kept_count, same_op, orderly}

-- ---- names apart

named_in : (n : Name) (xs : List Node) → IsIn n (map (λ (x : Node). x.name) xs) → is_named_in n xs ≡ true
named_in n [] at = absurd at
named_in n (x ∷ xs) (inl same) = or_left (bytes_eq x.name n) (is_named_in n xs) (ap (λ q. bytes_eq q n) (sym same) ∙ bytes_eq-self n)
named_in n (x ∷ xs) (inr at) = or_right (bytes_eq x.name n) (is_named_in n xs) (named_in n xs at)

apart_once : (xs : List Node) → IsOnce xs → AreNamedApart xs
apart_once [] once = tt
apart_once (x ∷ xs) once = (λ at. true≢false (sym (named_in x.name xs at) ∙ once.0), apart_once xs once.1)

-- ---- the plan stays

pub same_planned : {m : KeptMap} {e : WholeEdit} {t : WholeState} {shift : Shift} → IsKept m → IsSetUp m e t shift m.sources.names.keys → IsSamePlan m e t
    → IsPlannedFor m e t shift m.sources.names.keys m.planned.names.keys m.planned.steps.items
same_planned {m} {e} {t} {shift} kept set_up same = record {
  set_up = set_up;
  few = subst (λ nodes. length nodes ≤ most_sources + most_flats) (sym same.nodes) (few_within (entries_in m) kept.sources_few kept.flats_few);
  flats = flats_kept m.planned;
  each = each;
  planned = subst (λ nodes. IsPlanned nodes m.sources.names.keys (flats_kept m.planned) m.planned.names.keys m.planned.names.keys m.planned.steps.items) (sym same.nodes) kept.statements.planned_are;
}
  where
    each : (n : Name) (f : FlatDef) → lookup (bytes_eq n) (flats_kept m.planned) ≡ Some f → IsFlatAfter m e t n f
    each n f found =
        let r = flat_at m.planned.names.keys m.planned.steps.items kept.statements.planned_are.count n f found in
        let named = position_at n m.planned.names.keys r.0 r.2 in
        let own = step_at m.planned.names.keys m.kept.items (kept_count m kept) r.0 n named in
        let keeps = kept.statements.each r.0 n r.1 own.0 named r.3 own.1 in
        let untouched = same.untouched n (op_view r.1.op) keeps.making in
        subst (IsFlatAfter m e t n) r.4 (record {
          making = same.makings n (op_view r.1.op) keeps.making;
          written = keeps.written ∙ sym untouched;
          ranges = keeps.ranges;
          no_source = kept.sources.stand n ∙ ap is_source_node (node_made (names_in m) n (by_op (op_view r.1.op)) keeps.making);
        })

-- ---- another plan

module _ {m : KeptMap} {e : WholeEdit} {t : WholeState} {shift : Shift} {graph : List Group} {edited : Name} {written : List Flat} (added : Option (Bor (List ℕ)))
    (kept : IsKept m) (set_up : IsSetUp m e t shift (names_with m.sources added)) (new : IsReplanned m e t (names_with m.sources added) graph edited written) where
  nodes_are : nodes_in graph ≡ nodes_of t.names.entries
  nodes_are = ap nodes_in new.graph_is ∙ nodes_in_groups t.names.entries

  few : length (nodes_of t.names.entries) ≤ most_sources + most_flats
  few = few_within t.names.entries new.sources_few new.flats_few

  flats_are : AreFlats (nodes_of t.names.entries) (flats_after m.names.entries edited written)
  flats_are n ns found = go n ns found (find_making (layers t.names.entries) n) refl
    where
      go : (n : Name) (ns : List Name) → find_node (nodes_of t.names.entries) n ≡ Some (record { name = n; needs = Some ns }) → (o : Option Making) → find_making (layers t.names.entries) n ≡ o
          → IsFlatOf (flats_after m.names.entries edited written) n ns
      go n ns found None making = absurd (none-some _ (sym (find_node-making (layers t.names.entries) n ∙ ap (option_map (made_node n)) making) ∙ found))
      go n ns found (Some (given_grid grid)) making = absurd (true≢false (ap is_source_node (sym (node_made t.names n (given_grid grid) making) ∙ found)))
      go n ns found (Some (by_op op)) making =
          let needs : needs_of op ≡ ns = ap (λ (o : Option Node). unwrap_or (unwrap_or (option_map (λ (x : Node). x.needs) o) None) []) (sym (node_made t.names n (by_op op) making) ∙ found) in
          let flat = new.found n op making in
          let same = same_op (op_view flat.0.op) op (sym (new.makings n flat.0 flat.1) ∙ making) in
          record { flat = flat.0; found = flat.1; needs = ap needs_of same ∙ needs; operands = has_operands (op_view flat.0.op) (new.ranges n flat.0 flat.1) }

  -- what is asked of a graph for a plan
  pub for_plan : HasNoCycle (nodes_in graph) × AreNamedApart (nodes_in graph) × (length (nodes_in graph) + 1 < 2 ^ 31) × AreSources (nodes_in graph) (names_with m.sources added)
      × AreFlats (nodes_in graph) (flats_after m.names.entries edited written)
  for_plan =
      let order = orderly kept set_up in
      rw nodes_are (order.none_looped, apart_once (nodes_of t.names.entries) (groups_once t.names.entries order.groups order.apart), omega (arith, few), new.stand, flats_are)

  -- no flat statement has the name of a source that was there
  no_source : (n : Name) (op : Op) → find_making (layers t.names.entries) n ≡ Some (by_op op) → is_some (position (bytes_eq n) m.sources.names.keys) ≡ false
  no_source n op making =
      let keys = m.sources.names.keys in
      let more = added_names (option_map (λ b. b.now) added) in
      let none : is_some (position (bytes_eq n) (keys ++ more)) ≡ false = new.stand n (record { name = n; needs = Some (needs_of op) }) (node_made t.names n (by_op op) making) in
      let any : (list_any (bytes_eq n) keys || list_any (bytes_eq n) more) ≡ false = sym (some_position (bytes_eq n) (keys ++ more) ∙ list_any-append (bytes_eq n) keys more) ∙ none in
      some_position (bytes_eq n) keys ∙ (or_parts (list_any (bytes_eq n) keys) (list_any (bytes_eq n) more) any).0

  pub replanned : {names : List Name} {steps : List (Step Given)} → IsPlanned (nodes_in graph) (names_with m.sources added) (flats_after m.names.entries edited written) m.planned.names.keys names steps
      → IsPlannedFor m e t shift (names_with m.sources added) names steps
  replanned {names} {steps} planned = record {
    set_up = set_up;
    few = few;
    flats = flats_after m.names.entries edited written;
    each = λ n f found. record { making = new.makings n f found; written = new.touched n f found; ranges = new.ranges n f found; no_source = no_source n (op_view f.op) (new.makings n f found) };
    planned = subst (λ nodes. IsPlanned nodes (names_with m.sources added) (flats_after m.names.entries edited written) m.planned.names.keys names steps) nodes_are planned;
  }
