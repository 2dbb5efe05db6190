use Rattle.std.proofs.Common.{◌≡◌, ap, subst, ◌∙◌, arith}
use Rattle.map_nums.specs.Grids.{Size, IsSize}
use Rattle.layer_tiles.specs.Tiles.{tiles_down, tiles_across}
use Rattle.damage_sets.proofs.Bands.{square_widened, row_part, column_part}
use Rattle.damage_sets.proofs.sets.TileSet.add_square.Goals as goal

pub add_rows-requires-clause-rows : goal.add_rows-requires-clause-rows
add_rows-requires-clause-rows c =
    let s = c.args.self.now.size in
    let down : c.tiles_down.result ≡ tiles_down s = c.tiles_down.ensures.down ∙ ap tiles_down c.extent-extent.ensures.extent in
    rw (c.saturating_sub.ensures, c.min-high.ensures) (omega (arith, row_part s c.args.row c.requires.row, down))

pub add_rows-requires-clause-columns : goal.add_rows-requires-clause-columns
add_rows-requires-clause-columns c =
    let s = c.args.self.now.size in
    let across : c.tiles_across.result ≡ tiles_across s = c.tiles_across.ensures.across ∙ ap tiles_across c.extent-extent.ensures.extent in
    rw (c.saturating_sub-2.ensures, c.min-right.ensures) (omega (arith, column_part s c.args.column c.requires.column, across))

pub returns-clause-marks : goal.returns-clause-marks
returns-clause-marks c =
    let s = c.args.self.now.size in
    let down : c.tiles_down.result ≡ tiles_down s = c.tiles_down.ensures.down ∙ ap tiles_down c.extent-extent.ensures.extent in
    let across : c.tiles_across.result ≡ tiles_across s = c.tiles_across.ensures.across ∙ ap tiles_across c.extent-extent.ensures.extent in
    let size : IsSize s = subst (λ (z : Size). IsSize z) c.extent-extent.ensures.extent c.rows-rows.ensures.size in
    square_widened s c.args.reach c.args.row c.args.column c.args.self.now.marks c.add_rows.new.self.marks size c.requires.row c.requires.column c.extent-extent.ensures.set.count
    (rw (c.saturating_sub.ensures, c.min-high.ensures, down, c.saturating_sub-2.ensures, c.min-right.ensures, across) at c.add_rows.ensures.rows)
