use Rattle.std.proofs.Common.{◌<◌, ◌+◌, ◌*◌, arith, refl, sym, subst, Option, ℤ}
use Rattle.std.proofs.lemmas.Result.{err_from_is_err_and}
use Rattle.map_nums.specs.Exact.{IsExact}
use Rattle.layer_tiles.specs.Tiles.{tile_height, tile_width}
use Rattle.sight_lines.specs.Puts.{sighting_of}
use Rattle.sight_lines.specs.SightTiles.{sums_of}
use Rattle.sight_lines.proofs.Rows.{row_put, row_refused}
use Rattle.sight_lines.proofs.Summing.{seen_there}
use Rattle.sight_lines.proofs.tiles.SightTile.make_row.Goals as goal
use Rattle.sight_lines.proofs.tiles.SightTile.make_row.Goals.{After-seen_value-answer}

within : (c : After-seen_value-answer) → c.loop-c.c < tile_width c.args.self.now.surface.now.size c.args.self.now.tile
within c = omega (arith, c.requires.tile.place.width, c.loop-c-test.true)

answers : (c : After-seen_value-answer) → IsExact (sums_of c.args.self.now (c.args.r * tile_width c.args.self.now.surface.now.size c.args.self.now.tile + c.loop-c.c)) c.seen_value-answer.result
answers c = subst (λ (o : Option ℤ). IsExact o c.seen_value-answer.result) (sym (seen_there (sighting_of c.args.self.now.sight) c.args.self.now.surface.now.size c.args.self.now.surface.now.cells c.args.self.now.viewers.now c.args.self.now.tile c.args.r c.loop-c.c (within c))) c.seen_value-answer.ensures

pub returns-in_err-put : goal.returns-in_err-put
returns-in_err-put c =
    let p = err_from_is_err_and c.from_residual.result c.from_residual.ensures.1 in
    let d = (goal.at.returns-in_err-put c).After-seen_value-answer in
    let place = c.requires.tile.place in
    rw (p.1, p.2)
    (row_refused (sums_of c.args.self.now) c.args.self.now.surface.now.size c.args.self.now.tile c.args.r c.loop-c.c _ c.loop-c.made c.seen_value-answer.result c.in_err-put.field-0.0 c.loop-c.invariant c.requires.row (within d)
    (rw (place.top, place.left, c.columns.ensures.columns, c.requires.tile.extent) refl) (answers d) (sym c.in_err-put.ensures.result))

pub loop-c-preserved : goal.loop-c-preserved
loop-c-preserved c =
    let d = (goal.at.loop-c-preserved c).After-seen_value-answer in
    row_put (sums_of c.args.self.now) (tile_height c.args.self.now.surface.now.size c.args.self.now.tile) (tile_width c.args.self.now.surface.now.size c.args.self.now.tile) c.args.r c.loop-c.c _ c.loop-c.made c.put.new.made c.seen_value-answer.result c.loop-c.invariant c.requires.row (within d)
    (answers d) c.put.ensures.placed (sym c.in_ok-put.ensures.result)
