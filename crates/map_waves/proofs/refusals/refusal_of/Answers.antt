use Rattle.std.proofs.Common.{◌+◌, Some, Err, is_ok, take, sym, ap, subst, ◌∙◌}
use Rattle.map_waves.specs.Refusals.{IsSoFar}
use Rattle.map_waves.proofs.Rowing.{so_far_ok, so_far_overflow}
use Rattle.map_waves.proofs.refusals.refusal_of.Goals as goal

pub loop-one-preserved-in_default : goal.loop-one-preserved-in_default
loop-one-preserved-in_default g c =
    so_far_ok c.args.row.now c.loop-one.one-index c.one-item.result c.loop-one-test.true c.one-item.is (ap is_ok c.in_default.is) c.loop-one.least c.loop-one.invariant

pub loop-one-preserved : goal.loop-one-preserved
loop-one-preserved g c =
    subst (λ a. IsSoFar (take (c.loop-one.one-index + 1) c.args.row.now) (Some a)) (sym c.lesser.ensures)
    (so_far_overflow c.args.row.now c.loop-one.one-index c.one-item.result c.loop-one-test.true c.one-item.is c.in-Overflow.at (c.in-Err.is ∙ ap (λ e. Err e) c.in-Overflow.is) c.loop-one.least c.loop-one.invariant)
