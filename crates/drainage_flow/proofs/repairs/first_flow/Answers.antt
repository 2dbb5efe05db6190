use Rattle.std.proofs.Common.{◌≡◌, ◌-◌, ◌*◌, sym, ◌∙◌, ap, subst, arith}
use Rattle.map_nums.specs.Grids.{Cells}
use Rattle.drainage_flow.specs.First.{AreFlows}
use Rattle.drainage_flow.specs.FlowBands.{IsFlowBand, all_flows}
use Rattle.drainage_flow.proofs.FlowBands.{bands_one}
use Rattle.drainage_flow.proofs.repairs.first_flow.Goals as goal

pub pour-requires : goal.pour-requires
pour-requires g c =
    let s = c.extent-extent.result in
    let is : IsFlowBand s c.deref.result.now c.deref-2.result.now (0 * s.columns) ((c.rows.result - 0) * s.columns) c.in-Ok-flow_of_band.band = c.in-Ok-flow_of_band.ensures in
    let rows : c.rows.result - 0 ≡ s.rows = omega (arith, c.rows.ensures.rows) in
    record { bands = bands_one s c.deref.result.now c.deref-2.result.now c.deref-3.result.now c.deref-4.result.now (0 * s.columns) ((c.rows.result - 0) * s.columns) c.in-Ok-flow_of_band.band is (omega arith) (ap (λ r. r * s.columns) rows) (c.deref-3.ensures.value ∙ sym c.deref.ensures.value) (c.deref-4.ensures.value ∙ sym c.deref-2.ensures.value) }

pub whole_flow-requires-clause-flows : goal.whole_flow-requires-clause-flows
whole_flow-requires-clause-flows g c =
    let s = c.extent-extent.result in
    let flows = all_flows c.pour.new.bands in
    subst (λ (xs : Cells). AreFlows s xs c.deref-6.result.now flows) (c.deref-3.ensures.value ∙ sym c.deref-5.ensures.value)
    (subst (λ (ys : Cells). AreFlows s c.deref-3.result.now ys flows) (c.deref-4.ensures.value ∙ sym c.deref-6.ensures.value) c.pour.ensures.flows)

pub returns-clause-refusal : goal.returns-clause-refusal
returns-clause-refusal g c =
    c.whole_flow.ensures.refusal c.args.surface.now c.args.weights.now
    (record { size = sym c.extent-extent.ensures.extent; cells = sym (c.deref-5.ensures.value ∙ c.in-Ok.ensures.cells) })
    (record { size = c.requires ∙ sym c.extent-extent.ensures.extent; cells = sym (c.deref-6.ensures.value ∙ c.in-Ok-cells_of.ensures.cells) })
