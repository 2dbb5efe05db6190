use Rattle.friction_neighbor.proofs.Gathering.{gathered_then, row_brought_next}
use Rattle.friction_neighbor.proofs.list_gathers.by_row.Goals as goal

pub loop-c-preserved : goal.loop-c-preserved
loop-c-preserved c =
    let f = c.args.field.now in
    let values = c.args.values.now in
    let at = c.args.to.now.spot.at in
    let i = c.loop-c.invariant in
    let e = c.by_place-least.ensures in
    record {
      gathered = gathered_then f values at c.args.best c.loop-c.least c.by_place-least.result i.gathered e.gathered;
      brought = row_brought_next f values at c.loop-c.least c.by_place-least.result c.args.row c.loop-c.c c.spot_at-from.result e.gathered c.spot_at-from.ensures.spot c.spot_at-from.ensures.row c.spot_at-from.ensures.column e.brought i.brought;
    }
