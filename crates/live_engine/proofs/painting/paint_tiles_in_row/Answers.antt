use Rattle.std.proofs.Common.{◌≡◌, ◌+◌, ◌*◌, ◌<◌, refl, subst, sym, arith}
use Rattle.map_nums.specs.Grids.{Size}
use Rattle.layer_tiles.specs.Tiles.{tiles_across, tiles_in, tile_height, tile_width}
use Rattle.layer_tiles.proofs.Rising.{rises_none}
use Rattle.layer_tiles.proofs.Whole.{tile_block_is}
use Rattle.kept_map.specs.Maps.{grid_of}
use Rattle.live_engine.specs.Painting.{rectangle_of, first_column, last_column, IsPainted, ArePainted}
use Rattle.live_engine.proofs.MetTiles.{met_fewer, column_within, columns_rise, base_is, row_few, is_met, unmet_before, unmet_behind}
use Rattle.live_engine.proofs.PaintedTiles.{painted_whole, are_painted_skip, are_painted_push, are_painted_above}
use Rattle.live_engine.proofs.painting.paint_tiles_in_row.Goals as goal

pub overflow_mul-first : goal.overflow_mul-first
overflow_mul-first g c =
    omega (arith, row_few _ _ c.extent-extent.ensures.layer.size c.requires.counted c.requires.within _ c.requires.row _ c.extent-extent.ensures.extent _ c.tiles_across.ensures.across)

pub loop-column-init : goal.loop-column-init
loop-column-init g c =
    let s = c.args.layer.now.size in
    let r = rectangle_of c.args.rectangle in
    let size = c.extent-extent.ensures.layer.size in
    let base = c.args.row * tiles_across s in
    record {
      painted = are_painted_skip (grid_of c.args.layer.now) r c.args.cell base (base + first_column r) c.args.patch.now (omega arith) c.requires.above (unmet_before s r size c.requires.counted c.requires.within c.args.row);
      tally = met_fewer s r base 0 (first_column r) (omega arith) _ _ (rises_none _);
    }

pub overflow_add-tile : goal.overflow_add-tile
overflow_add-tile g c =
    let met = is_met _ _ c.extent-extent.ensures.layer.size c.requires.counted c.requires.within _ c.requires.row _ c.extent-extent.ensures.extent _ c.tiles_across.ensures.across in
    omega (arith, (met _ c.loop-column.auto.column c.loop-column-test.true).few)

pub view-old-requires : goal.view-old-requires
view-old-requires g c =
    let met = is_met _ _ c.extent-extent.ensures.layer.size c.requires.counted c.requires.within _ c.requires.row _ c.extent-extent.ensures.extent _ c.tiles_across.ensures.across in
    (met _ c.loop-column.auto.column c.loop-column-test.true).inside

pub painted_tile-requires-clause-within : goal.painted_tile-requires-clause-within
painted_tile-requires-clause-within g c =
    let met = is_met _ _ c.extent-extent.ensures.layer.size c.requires.counted c.requires.within _ c.requires.row _ c.extent-extent.ensures.extent _ c.tiles_across.ensures.across in
    (met _ c.loop-column.auto.column c.loop-column-test.true).on_extent

pub painted_tile-requires-clause-size : goal.painted_tile-requires-clause-size
painted_tile-requires-clause-size g c =
    rw (c.extent-extent.ensures.extent, c.view-old.ensures.tile) (tile_block_is c.args.layer.now.size c.args.layer.now.cells (c.args.row * c.tiles_across.result + c.loop-column.column))

pub returns-in_err-made-clause-tally : goal.returns-in_err-made-clause-tally
returns-in_err-made-clause-tally g c =
    let met = is_met _ _ c.extent-extent.ensures.layer.size c.requires.counted c.requires.within _ c.requires.row _ c.extent-extent.ensures.extent _ c.tiles_across.ensures.across in
    (met _ c.loop-column.auto.column c.loop-column-test.true).row_looks _ _ _ c.loop-column.invariant.tally c.view-old.ensures.look

pub push-requires-clause-ascending : goal.push-requires-clause-ascending
push-requires-clause-ascending g c = λ some.
    let base = base_is _ _ c.extent-extent.ensures.layer.size c.requires.counted c.requires.within _ c.requires.row _ c.extent-extent.ensures.extent _ c.tiles_across.ensures.across in
    omega (arith, base, are_painted_above (grid_of c.args.layer.now) (rectangle_of c.args.rectangle) c.args.cell _ c.loop-column.patch c.loop-column.invariant.painted some)

pub push-requires-clause-within : goal.push-requires-clause-within
push-requires-clause-within g c =
    let met = is_met _ _ c.extent-extent.ensures.layer.size c.requires.counted c.requires.within _ c.requires.row _ c.extent-extent.ensures.extent _ c.tiles_across.ensures.across in
    subst (λ (z : Size). c.args.row * c.tiles_across.result + c.loop-column.column < tiles_in z) (sym c.loop-column.invariant.painted.size) (met _ c.loop-column.auto.column c.loop-column-test.true).inside

pub returns-in_err-push-clause-tally : goal.returns-in_err-push-clause-tally
returns-in_err-push-clause-tally g c =
    let met = is_met _ _ c.extent-extent.ensures.layer.size c.requires.counted c.requires.within _ c.requires.row _ c.extent-extent.ensures.extent _ c.tiles_across.ensures.across in
    (met _ c.loop-column.auto.column c.loop-column-test.true).row_looks _ _ _ c.loop-column.invariant.tally c.view-old.ensures.look

pub loop-column-preserved : goal.loop-column-preserved
loop-column-preserved g c =
    let layer = grid_of c.args.layer.now in
    let s = c.args.layer.now.size in
    let r = rectangle_of c.args.rectangle in
    let size = c.extent-extent.ensures.layer.size in
    let tile = c.args.row * c.tiles_across.result + c.loop-column.column in
    let met = is_met s r size c.requires.counted c.requires.within c.args.row c.requires.row _ c.extent-extent.ensures.extent _ c.tiles_across.ensures.across _ c.loop-column.auto.column c.loop-column-test.true in
    let view = c.view-old.result in
    let made = c.in_ok-made.made in
    let painted = subst (λ (z : Size). IsPainted z tile r c.args.cell view (tile_height z tile * tile_width z tile) made) c.extent-extent.ensures.extent c.in_ok-made.ensures in
    let next : tile + 1 ≡ c.args.row * tiles_across s + (c.loop-column.column + 1) = omega (arith, met.tile) in
    record {
      painted = subst (λ k. ArePainted layer r c.args.cell k c.push.new.self) next
          (are_painted_push layer r c.args.cell tile c.loop-column.patch c.push.new.self made
          (subst (λ k. ArePainted layer r c.args.cell k c.loop-column.patch) met.tile c.loop-column.invariant.painted)
          met.met
          (painted_whole layer tile r c.args.cell view made (tile_height s tile * tile_width s tile) size met.inside c.view-old.ensures.tile refl painted)
          c.in_ok-push.ensures.ok);
      tally = met.looks _ _ _ c.loop-column.invariant.tally c.view-old.ensures.look;
    }

pub returns : goal.returns
returns g c =
    let s = c.args.layer.now.size in
    let r = rectangle_of c.args.rectangle in
    let size = c.extent-extent.ensures.layer.size in
    let base = c.args.row * tiles_across s in
    let column = c.loop-column.column in
    let last = column_within s r size c.requires.counted c.requires.within (last_column r) (omega arith) in
    let end : column ≡ last_column r + 1 = omega (arith, c.loop-column-test.false, c.loop-column.auto.column-end (omega (arith, columns_rise s r size c.requires.counted c.requires.within))) in
    record {
      painted = are_painted_skip (grid_of c.args.layer.now) r c.args.cell (base + column) ((c.args.row + 1) * tiles_across s) c.loop-column.patch (omega (arith, end, last)) c.loop-column.invariant.painted
          (λ t from. unmet_behind s r size c.requires.counted c.requires.within c.args.row t (omega (arith, end, from)));
      tally = met_fewer s r base column (tiles_across s) (omega (arith, end, last)) _ _ c.loop-column.invariant.tally;
    }
