use Rattle.std.proofs.Common.{arith}
use Rattle.live_engine.specs.Painting.{rectangle_of}
use Rattle.live_engine.proofs.PaintedTiles.{painted_more}
use Rattle.live_engine.proofs.painting.paint_row.Goals as goal

pub loop-c-preserved : goal.loop-c-preserved
loop-c-preserved c =
    let place = c.place-place.ensures in
    painted_more c.args.extent c.args.tile c.args.r c.loop-c.c (rectangle_of c.args.rectangle) c.args.cell c.args.old.now c.loop-c.made c.set.new.self c.place-place.result c.row-row.result.now c.index-row-c.result c.painted_cell.result place.size c.requires.within c.requires.size place.place c.requires.row (omega (arith, place.place.width)) c.loop-c.invariant c.row-row.ensures.row c.index-row-c.is c.row-row.ensures.width c.painted_cell.ensures c.set.ensures
