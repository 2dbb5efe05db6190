use Rattle.std.proofs.Common.{◌+◌, ◌-◌, ◌*◌, arith}
use Rattle.layer_tiles.proofs.Rising.{rises_then, rises_within}
use Rattle.friction_neighbor.proofs.Gathering.{gathered_then, row_brought_next}
use Rattle.friction_neighbor.proofs.gathers.by_row.Goals as goal

pub loop-c-preserved : goal.loop-c-preserved
loop-c-preserved g c =
    let f = c.args.field.now.field in
    let values = c.args.values.now.cells in
    let at = c.args.to.now.spot.at in
    let i = c.loop-c.invariant in
    let e = c.by_place-least.ensures in
    record {
      gathered = gathered_then f values at c.args.best c.loop-c.least c.by_place-least.result i.gathered e.gathered;
      brought = row_brought_next f values at c.loop-c.least c.by_place-least.result c.args.row c.loop-c.c c.spot_at-from.result e.gathered c.spot_at-from.ensures.spot c.spot_at-from.ensures.row c.spot_at-from.ensures.column e.brought i.brought;
      picks = rises_within (0 + 0) (3 * (c.loop-c.c - c.saturating_sub-low.result) + 3) 0 (3 * (c.loop-c.c + 1 - c.saturating_sub-low.result)) _ _ (omega arith) (omega (arith, c.loop-c.auto.c)) (rises_then 0 (3 * (c.loop-c.c - c.saturating_sub-low.result)) 0 3 _ _ _ i.picks e.picks);
    }
