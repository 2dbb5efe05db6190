use Rattle.std.proofs.Common.{arith}
use Rattle.kept_map.proofs.Ready.{ComesToRest, none_changed, one_changed, all_changed}
use Rattle.kept_map.proofs.placing.rest.Goals as goal

pub loop-place-init : goal.loop-place-init
loop-place-init c = none_changed ComesToRest c.args.steps.now

pub loop-place-preserved : goal.loop-place-preserved
loop-place-preserved c =
    let count = c.loop-place.auto.steps in
    one_changed ComesToRest c.loop-place.place c.args.steps.now c.loop-place.steps c.index-steps-place.result c.settle.new.step c.loop-place.invariant
    (omega (arith, c.loop-place-test.true, count)) (c.settle.ensures.rest, c.settle.ensures.refs)

pub returns : goal.returns
returns c =
    let all = all_changed ComesToRest c.loop-place.place c.args.steps.now c.loop-place.steps c.loop-place.invariant (omega (arith, c.loop-place-test.false)) in
    (all.0, λ k x at. let r = all.1 k x at in (r.0, r.1, r.2.0, r.2.1))
