-- What is kept of a statement that the edit didn't write is right for its operands before.
use Rattle.std.proofs.Common.{◌≡◌, List, Some, None, option_map, refl, sym, ap, subst, ◌∙◌}
use Rattle.map_nums.specs.Grids.{Size, Cells}
use Rattle.map_defs.specs.Ops.{Name, Op, needs_of}
use Rattle.map_defs.specs.Nodes.{find_node, Node}
use Rattle.map_defs.specs.Depths.{by_depth}
use Rattle.map_edits.specs.LayerDefs.{by_op, layers, find_making, nodes_of}
use Rattle.map_edits.specs.EngineStates.{EngineState, term_cells, value_of}
use Rattle.map_edits.specs.Faults.{fault_of_layer, fault_of}
use Rattle.map_edits.specs.LayerChanges.{operands_in}
use Rattle.map_edits.specs.Laws.{HasNoCycle}
use Rattle.map_edits.proofs.Looks.{made_node, find_node-making}
use Rattle.map_edits.proofs.Order.{all_flats_listed}
use Rattle.map_waves.specs.Statements.{made, cells_were, fault_in}
use Rattle.map_waves.specs.Plans.{operands_at}
use Rattle.edit_plans.specs.KeptLaws.{KeptIsRight}
use Rattle.edit_plans.specs.Telling.{fault_told}
use Rattle.edit_plans.proofs.Before.{stood_on}
use Rattle.edit_plans.proofs.Counting.{all_each}
use Rattle.edit_plans.proofs.Faulted.{layer_fault}
use Rattle.map_waves.specs.declared.keeping.Aside.{Aside}
use Rattle.map_edits.proofs.Among.{none_of_named}
use Rattle.edit_plans.proofs.There.{map_none}

-- in a state without a fault no statement has one
statement_faultless : (s : EngineState) (n : Name) (op : Op) → HasNoCycle (nodes_of s.entries) → fault_of s ≡ None → find_making (layers s.entries) n ≡ Some (by_op op) → fault_of_layer s n ≡ None
unfolding fault_of
statement_faultless s n op none fault making =
    let found : find_node (nodes_of s.entries) n ≡ Some (record { name = n; needs = Some (needs_of op) }) = find_node-making (layers s.entries) n ∙ ap (option_map (made_node n)) making in
    none_of_named (λ (x : Node). x.name) (fault_of_layer s) n (by_depth (nodes_of s.entries)) fault (all_flats_listed (nodes_of s.entries) none n (record { name = n; needs = Some (needs_of op) }) (needs_of op) found refl)

module _ {B : Type 0} (suits : Size → Op → List Cells → Aside B → Type 0) where
  pub kept_is_right : KeptIsRight suits
  kept_is_right touch s t p sources names k n own plan changes old fault at unwritten was size suit =
      let op = (p.step k).op in
      let stood = stood_on touch s t p sources names plan changes old k n own.layer.cells at unwritten was in
      let step = plan.steps k n at in
      let making = changes.statements n op (sym step.written ∙ unwritten) step.making in
      let same : s.size ≡ p.size = changes.size ∙ sym plan.size in
      let none : option_map (fault_told s.size n) (fault_in s.size op stood.cells) ≡ None = sym (layer_fault s old n op stood.cells making stood.all) ∙ statement_faultless s n op old fault making in
      let before : operands_in s op ≡ cells_were (operands_at p k) = all_each (term_cells s.size (value_of s)) op.terms stood.cells stood.all ∙ sym stood.there.before in
      record {
        size = size ∙ same;
        there = stood.there.there;
        right = stood.made_is ∙ ap (made p.size op) (sym stood.there.before);
        faultless = ap (fault_in p.size op) stood.there.before ∙ ap (λ q. fault_in q op stood.cells) (sym same) ∙ map_none (fault_told s.size n) (fault_in s.size op stood.cells) none;
        beside = subst (λ (os : List Cells). suits p.size op os own.beside) before (subst (λ (q : Size). suits q op (operands_in s op) own.beside) same suit);
      }
