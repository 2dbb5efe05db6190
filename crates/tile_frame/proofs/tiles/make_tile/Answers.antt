use Rattle.std.proofs.Common.{◌≡◌, ◌*◌, ap, arith}
use Rattle.std.proofs.lemmas.Result.{err_from_is_err_and}
use Rattle.layer_tiles.specs.Tiles.{tile_height, tile_width}
use Rattle.layer_tiles.proofs.Making.{made_all}
use Rattle.tile_frame.specs.Frames.{by_row}
use Rattle.tile_frame.proofs.Framing.{rows_then, rows_refused}
use Rattle.tile_frame.proofs.tiles.make_tile.Goals as goal

pub loop-r-preserved : goal.loop-r-preserved
loop-r-preserved g c = rows_then (g.K.TileMaker.value c.args.maker.now) (tile_height c.args.extent c.args.tile) (tile_width c.args.extent c.args.tile) c.loop-r.r c.loop-r.made c.row.new.made c.loop-r.invariant c.in_ok-row.ensures

pub returns-in_err-row : goal.returns-in_err-row
returns-in_err-row g c =
    let p = err_from_is_err_and c.from_residual.result c.from_residual.ensures.1 in
    rw (p.1, p.2) (rows_refused (g.K.TileMaker.value c.args.maker.now) c.args.extent c.args.tile c.loop-r.r c.loop-r.made c.in_err-row.field-0.0 c.loop-r.invariant (omega (arith, c.place-r-end.ensures.place.height)) c.in_err-row.ensures)

pub returns : goal.returns
returns g c =
    let rows : c.loop-r.r ≡ tile_height c.args.extent c.args.tile = omega (arith, c.place-r-end.ensures.place.height) in
    made_all (by_row (tile_width c.args.extent c.args.tile) (g.K.TileMaker.value c.args.maker.now)) c.args.extent c.args.tile (c.loop-r.r * tile_width c.args.extent c.args.tile) c.loop-r.made c.loop-r.invariant
    (ap (λ n. n * tile_width c.args.extent c.args.tile) rows)
