use Rattle.std.proofs.Common.{arith}
use Rattle.kept_map.specs.Lowering.{IsLowered}
use Rattle.kept_map.proofs.Ready.{none_changed, one_changed, all_changed}
use Rattle.kept_map.proofs.sources.lower_sources.Goals as goal

pub loop-at-init : goal.loop-at-init
loop-at-init c = none_changed (λ k. IsLowered c.args.place) c.args.steps.now

pub loop-at-preserved : goal.loop-at-preserved
loop-at-preserved c =
    let count = c.loop-at.auto.steps in
    one_changed (λ k. IsLowered c.args.place) c.loop-at.at c.args.steps.now c.loop-at.steps c.index-steps-at.result c.lower_step.new.step c.loop-at.invariant
    (omega (arith, c.loop-at-test.true, count)) c.lower_step.ensures

pub returns : goal.returns
returns c = all_changed (λ k. IsLowered c.args.place) c.loop-at.at c.args.steps.now c.loop-at.steps c.loop-at.invariant (omega (arith, c.loop-at-test.false))
