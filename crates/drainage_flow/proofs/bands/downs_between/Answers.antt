use Rattle.std.proofs.Common.{[], arith}
use Rattle.drainage_flow.proofs.Downs.{rows_joined}
use Rattle.drainage_flow.proofs.bands.downs_between.Goals as goal

pub loop-row-preserved : goal.loop-row-preserved
loop-row-preserved c = rows_joined c.args.extent c.args.surface.now c.args.first c.loop-row.row [] c.loop-row.downs.items c.add_row.new.downs.items (omega arith) c.loop-row.invariant c.in_ok-add_row.ensures
