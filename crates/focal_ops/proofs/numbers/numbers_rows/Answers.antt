use Rattle.std.proofs.Common.{◌≡◌, ◌*◌, ap, arith}
use Rattle.std.proofs.lemmas.Result.{err_from_is_err_and}
use Rattle.layer_tiles.specs.Tiles.{tile_height, tile_width}
use Rattle.layer_tiles.proofs.Making.{made_all}
use Rattle.tile_frame.specs.Frames.{by_row}
use Rattle.tile_frame.proofs.Framing.{rows_then, rows_refused}
use Rattle.focal_ops.specs.Masks.{statistic_round}
use Rattle.focal_ops.proofs.numbers.numbers_rows.Goals as goal

pub loop-r-preserved : goal.loop-r-preserved
loop-r-preserved c =
    rows_then (statistic_round c.args.maker.now.stat c.args.maker.now.mask.now.reach c.args.maker.now.mask.now.halves c.args.maker.now.near.now.cells c.args.maker.now.near.now.width) (tile_height c.args.extent c.args.tile) (tile_width c.args.extent c.args.tile) c.loop-r.r c.loop-r.made c.numbers_row.new.made c.loop-r.invariant c.in_ok-numbers_row.ensures

pub returns-in_err-numbers_row : goal.returns-in_err-numbers_row
returns-in_err-numbers_row c =
    let p = err_from_is_err_and c.from_residual.result c.from_residual.ensures.1 in
    rw (p.1, p.2) (rows_refused (statistic_round c.args.maker.now.stat c.args.maker.now.mask.now.reach c.args.maker.now.mask.now.halves c.args.maker.now.near.now.cells c.args.maker.now.near.now.width) c.args.extent c.args.tile c.loop-r.r c.loop-r.made c.in_err-numbers_row.field-0.0 c.loop-r.invariant (omega (arith, c.place-r-end.ensures.place.height)) c.in_err-numbers_row.ensures)

pub returns : goal.returns
returns c =
    let rows : c.loop-r.r ≡ tile_height c.args.extent c.args.tile = omega (arith, c.place-r-end.ensures.place.height) in
    made_all (by_row (tile_width c.args.extent c.args.tile) (statistic_round c.args.maker.now.stat c.args.maker.now.mask.now.reach c.args.maker.now.mask.now.halves c.args.maker.now.near.now.cells c.args.maker.now.near.now.width)) c.args.extent c.args.tile (c.loop-r.r * tile_width c.args.extent c.args.tile) c.loop-r.made c.loop-r.invariant
    (ap (λ n. n * tile_width c.args.extent c.args.tile) rows)
