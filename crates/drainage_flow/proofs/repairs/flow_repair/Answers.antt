use Rattle.std.proofs.Common.{◌*◌, length, Option, sym, ap, subst}
use Rattle.std.specs.Prelude.{IfOk}
use Rattle.std.specs.Option.{option_copied}
use Rattle.layer_tiles.specs.Layers.{LayerState}
use Rattle.layer_tiles.specs.Tallies.{RisesBy}
use Rattle.tile_work.specs.Working.{before_of}
use Rattle.drainage_flow.specs.Repairs.{flow_damage, flow_work, IsFlowBefore, IsFlowRepair}
use Rattle.drainage_flow.proofs.Begun.{first_rises}
use Rattle.drainage_flow.proofs.repairs.flow_repair.Goals as goal

pub flow_from-requires-clause-size : goal.flow_from-requires-clause-size
flow_from-requires-clause-size g c = c.requires.size

pub flow_from-requires-clause-before : goal.flow_from-requires-clause-before
flow_from-requires-clause-before g c = subst (IsFlowBefore c.args.surface.now c.args.weights.now) (ap option_copied c.in-Some.is) c.requires.before

pub first_flow-requires : goal.first_flow-requires
first_flow-requires g c = c.requires.size

pub returns-in-Some-clause-repair : goal.returns-in-Some-clause-repair
returns-in-Some-clause-repair g c = subst (λ (o : Option LayerState). IfOk c.flow_from.result (λ r. IsFlowRepair c.args.surface.now c.args.weights.now (before_of o) r.patch r.worked)) (sym (ap option_copied c.in-Some.is)) c.flow_from.ensures.repair

pub returns-in-Some-clause-refusal : goal.returns-in-Some-clause-refusal
returns-in-Some-clause-refusal g c = c.flow_from.ensures.refusal

pub returns-in-Some-clause-tally : goal.returns-in-Some-clause-tally
returns-in-Some-clause-tally g c = λ t u a b.
    let surface = c.args.surface.now in
    let weights = c.args.weights.now in
    subst (λ (o : Option LayerState). RisesBy (32 * length (flow_damage t u surface weights (before_of o))) (1000 * flow_work t u surface weights (before_of o)) (g.M.Tally.counts c.args.tally.now) (g.M.Tally.counts c.flow_from.new.tally)) (sym (ap option_copied c.in-Some.is)) (c.flow_from.ensures.tally t u a b)

pub returns-in-None-clause-repair : goal.returns-in-None-clause-repair
returns-in-None-clause-repair g c = subst (λ (o : Option LayerState). IfOk c.first_flow.result (λ r. IsFlowRepair c.args.surface.now c.args.weights.now (before_of o) r.patch r.worked)) (sym (ap option_copied c.in-None.is)) c.first_flow.ensures.repair

pub returns-in-None-clause-refusal : goal.returns-in-None-clause-refusal
returns-in-None-clause-refusal g c = c.first_flow.ensures.refusal

pub returns-in-None-clause-tally : goal.returns-in-None-clause-tally
returns-in-None-clause-tally g c = λ t u a b.
    let surface = c.args.surface.now in
    let weights = c.args.weights.now in
    subst (λ (o : Option LayerState). RisesBy (32 * length (flow_damage t u surface weights (before_of o))) (1000 * flow_work t u surface weights (before_of o)) (g.M.Tally.counts c.args.tally.now) (g.M.Tally.counts c.first_flow.new.tally)) (sym (ap option_copied c.in-None.is)) (first_rises t u surface weights _ _ c.first_flow.ensures.tally)
