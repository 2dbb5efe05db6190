use Rattle.std.proofs.Common.{◌≡◌, ◌++◌, List, length, take, drop, sym, ◌∙◌, ap, subst}
use Rattle.std.proofs.lemmas.List.{take_at}
use Rattle.map_nums.specs.Grids.{Cells, cells_in}
use Rattle.map_defs.specs.Flow.{flow_grid}
use Rattle.map_defs.specs.Work.{first_work}
use Rattle.drainage_flow.specs.FlowBands.{all_flows, AreEven}
use Rattle.drainage_flow.specs.Whole.{flow_cells}
use Rattle.drainage_flow.specs.declared.flow_band.FlowBand.{FlowBand}
use Rattle.drainage_flow.proofs.Seats.{counts_count}
use Rattle.op_jobs.proofs.Bands.{flows_kind, flows_are}
use Rattle.op_jobs.proofs.flow_bands.flow_by.Goals as goal
use Rattle.op_jobs.proofs.flow_bands.flow_by.Goals.{After-pour}

pub all_of-requires : goal.all_of-requires
all_of-requires c = λ k p e. flows_kind _ k _ _ _ p (c.requires.each k p e)

pub pour-requires : goal.pour-requires
pour-requires c = record {
  bands = flows_are c.args.extent _ _ _ _ c.in_ok-bands.bands.items _ c.args.parts.items c.deref.ensures.value c.deref-2.ensures.value c.deref_mut.ensures.value c.requires.some c.in_ok-bands.ensures.count c.in_ok-bands.ensures.each c.requires.each;
}

-- the list has the bands that were poured
poured : (c : After-pour) → take c.in_ok-bands.bands.len (c.pour.new.bands ++ drop (length c.pour.new.bands) c.in_ok-bands.bands.items) ≡ c.pour.new.bands
poured c =
    let new = c.pour.new.bands in
    take_at new _ c.in_ok-bands.bands.len (sym (counts_count new) ∙ ap length c.pour.ensures.counts ∙ counts_count c.deref_mut.result.now ∙ c.deref_mut.ensures.len)

pub returns-clause-list : goal.returns-clause-list
returns-clause-list c =
    let P : List FlowBand → Type 0 = λ bs. AreEven bs × (length (all_flows bs) ≡ cells_in c.args.extent) in
    let both = subst P (sym (poured (goal.at.returns-clause-list c).After-pour)) (c.pour.ensures.even, c.pour.ensures.flows.count) in
    (c.requires.cells.surface, both.0, both.1)

pub returns-clause-cells : goal.returns-clause-cells
returns-clause-cells c =
    let s = c.args.extent in
    let a = c.args.ground.surface.items in
    let P : Cells → Cells → Type 0 = λ xs ys. flow_cells s xs c.pour.new.bands ≡ (flow_grid s xs ys).cells in
    let flow : P a c.args.ground.weights.items = subst (P a) c.deref-2.ensures.value (subst (λ (xs : Cells). P xs c.deref-2.result.now) c.deref.ensures.value c.pour.ensures.cells) in
    ap (flow_cells s a) (poured (goal.at.returns-clause-cells c).After-pour) ∙ flow

pub returns-clause-work : goal.returns-clause-work
returns-clause-work c =
    let P : Cells → Type 0 = λ xs. c.first_flow_work-worked.result ≡ first_work c.args.extent (flow_grid c.args.extent xs c.args.ground.weights.items).cells in
    subst P c.deref-3.ensures.value (c.first_flow_work-worked.ensures c.args.ground.weights.items)
