use Rattle.std.proofs.Common.{refl}
use Rattle.drainage_flow.proofs.FlowBands.{waits_none, waits_more}
use Rattle.drainage_flow.proofs.pouring.add_waits.Goals as goal

pub loop-at-init : goal.loop-at-init
loop-at-init c = waits_none c.args.downs.now c.args.first c.args.waits.now

pub loop-at-preserved : goal.loop-at-preserved
loop-at-preserved c = waits_more c.args.downs.now c.loop-at.at c.args.first c.args.waits.now c.loop-at.waits c.add_wait.new.waits _ c.loop-at.invariant refl c.add_wait.ensures
