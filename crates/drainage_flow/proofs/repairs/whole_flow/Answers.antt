use Rattle.drainage_flow.specs.FlowBands.{all_flows}
use Rattle.drainage_flow.proofs.Begun.{begun_wide, begun_all}
use Rattle.drainage_flow.proofs.repairs.whole_flow.Goals as goal

pub whole_patch-requires-clause-flows : goal.whole_patch-requires-clause-flows
whole_patch-requires-clause-flows c = c.requires.flows.count

pub returns-in-Some-clause-refusal : goal.returns-in-Some-clause-refusal
returns-in-Some-clause-refusal c = λ s w hs hw.
    begun_wide c.args.extent c.args.surface.now c.args._weights.now (all_flows c.args.bands.now) c.requires.flows s w hs hw c.in-Some.at c.in-Some.ensures.some

pub returns-in-Ok-clause-repair : goal.returns-in-Ok-clause-repair
returns-in-Ok-clause-repair c = λ s w hs hw.
    begun_all c.args.extent c.args.surface.now c.args._weights.now (all_flows c.args.bands.now) c.requires.flows s w hs hw c.in-Ok.patch c.first_flow_work.result
    c.in_default.ensures.none c.in-Ok.ensures.size c.in-Ok.ensures.patch c.first_flow_work.ensures
