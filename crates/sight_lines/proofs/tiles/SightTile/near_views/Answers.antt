use Rattle.std.proofs.Common.{◌≡◌, ◌⊎◌, inl, inr, ◌+◌, ◌/◌, ◌%◌, ◌<◌, ap, ◌∙◌, arith, FitsSigned}
use Rattle.std.proofs.lemmas.Int.{to_z-of_z}
use Rattle.map_nums.specs.Widths.{value_width}
use Rattle.map_nums.specs.Grids.{Size}
use Rattle.layer_tiles.specs.Tiles.{tile_top, tile_left}
use Rattle.layer_tiles.specs.PlaceByPlace.{cell_in}
use Rattle.layer_tiles.proofs.Places.{placed}
use Rattle.sight_lines.specs.Puts.{sighting_of}
use Rattle.sight_lines.proofs.Heights.{fits}
use Rattle.sight_lines.proofs.Seeing.{views_here, views_not, apart_is, far_test}
use Rattle.sight_lines.proofs.tiles.SightTile.near_views.Goals as goal
use Rattle.sight_lines.proofs.tiles.SightTile.near_views.Goals.{then-row-reach-via-then-row-reach, then-row-reach-via-else-row-reach+then-place-r, then-row-reach-via-else-row-reach+else-place-r+then-column-reach, then-row-reach-via-else-row-reach+else-place-r+else-column-reach+then-place-c}

pub overflow_add-place : goal.overflow_add-place
overflow_add-place c =
    let s = c.args.self.now.surface.now.size in
    let size = c.requires.tile.size in
    let a = placed s c.args.self.now.tile size c.requires.tile.within in
    omega (arith, a.last_row, size.most_rows, c.requires.tile.place.top, c.requires.row)

pub overflow_add-place-else-place-r : goal.overflow_add-place-else-place-r
overflow_add-place-else-place-r c =
    let s = c.args.self.now.surface.now.size in
    let size = c.requires.tile.size in
    let a = placed s c.args.self.now.tile size c.requires.tile.within in
    omega (arith, a.last_column, size.most_columns, c.requires.tile.place.left, c.requires.column)

pub near_sees-requires-clause-few_rows : goal.near_sees-requires-clause-few_rows
near_sees-requires-clause-few_rows c =
    let s = c.args.self.now.surface.now.size in
    let size = c.requires.tile.size in
    omega (arith, c.requires.tile.near.height, (placed s c.args.self.now.tile size c.requires.tile.within).most_rows, c.requires.tile.reach)

pub near_sees-requires-clause-few_columns : goal.near_sees-requires-clause-few_columns
near_sees-requires-clause-few_columns c =
    let s = c.args.self.now.surface.now.size in
    let size = c.requires.tile.size in
    omega (arith, c.requires.tile.near.width, (placed s c.args.self.now.tile size c.requires.tile.within).most_columns, c.requires.tile.reach)

pub returns-then-row-reach : goal.returns-then-row-reach
returns-then-row-reach c =
    let s = c.args.self.now.surface.now.size in
    let t = c.args.self.now.tile in
    let v = c.args.viewer in
    let size = c.requires.tile.size in
    let row : c.row_of-row.result ≡ v / s.columns = c.row_of-row.ensures.row ∙ ap (λ (z : Size). v / z.columns) c.requires.tile.extent in
    let column : c.column_of-column.result ≡ v % s.columns = c.column_of-column.ensures.column ∙ ap (λ (z : Size). v % z.columns) c.requires.tile.extent in
    let top = c.requires.tile.place.top in
    let left = c.requires.tile.place.left in
    let far : (v / s.columns + c.args.self.now.sight.reach < tile_top s t + c.args.r) ⊎ ((tile_top s t + c.args.r + c.args.self.now.sight.reach < v / s.columns) ⊎ ((v % s.columns + c.args.self.now.sight.reach < tile_left s t + c.args.c) ⊎ (tile_left s t + c.args.c + c.args.self.now.sight.reach < v % s.columns))) = elim c.then-row-reach.branch [
      | then-row-reach-via-then-row-reach w ↦ inl (omega (arith, w.if-row-reach.true, row, top))
      | then-row-reach-via-else-row-reach+then-place-r w ↦ inr (inl (omega (arith, w.if-place-r.true, row, top)))
      | then-row-reach-via-else-row-reach+else-place-r+then-column-reach w ↦ inr (inr (inl (omega (arith, w.if-column-reach.true, column, left))))
      | then-row-reach-via-else-row-reach+else-place-r+else-column-reach+then-place-c w ↦ inr (inr (inr (omega (arith, w.if-place-c.true, column, left))))
    ] in
    views_not (sighting_of c.args.self.now.sight) s c.args.self.now.surface.now.cells (cell_in s t c.args.r c.args.c) v _ (apart_is s t c.args.r c.args.c v size c.requires.tile.within c.requires.row c.requires.column)
    (far_test (v / s.columns) (v % s.columns) (tile_top s t + c.args.r) (tile_left s t + c.args.c) c.args.self.now.sight.reach far)

pub returns : goal.returns
returns c =
    let s = c.args.self.now.surface.now.size in
    let t = c.args.self.now.tile in
    let v = c.args.viewer in
    let size = c.requires.tile.size in
    let row : c.row_of-row.result ≡ v / s.columns = c.row_of-row.ensures.row ∙ ap (λ (z : Size). v / z.columns) c.requires.tile.extent in
    let column : c.column_of-column.result ≡ v % s.columns = c.column_of-column.ensures.column ∙ ap (λ (z : Size). v % z.columns) c.requires.tile.extent in
    let top = c.requires.tile.place.top in
    let left = c.requires.tile.place.left in
    let f : FitsSigned value_width c.args.self.now.sight.from = fits _ c.requires.tile.heights.from_in_range in
    let g : FitsSigned value_width c.args.self.now.sight.to = fits _ c.requires.tile.heights.to_in_range in
    rw (to_z-of_z value_width c.args.self.now.sight.from f, to_z-of_z value_width c.args.self.now.sight.to g) at c.near_sees.ensures
    ∙ views_here (sighting_of c.args.self.now.sight) s c.args.self.now.surface.now.cells t c.args.r c.args.c v _ _ c.args.self.now.near.now size c.requires.tile.within c.requires.row c.requires.column c.requires.on_map c.requires.tile.near
    (record { stands = omega (arith, row, top, c.if-row-reach.false); after = omega (arith, row, top, c.if-row-reach.false); before = omega (arith, row, top, c.if-place-r.false) })
    (record { stands = omega (arith, column, left, c.if-column-reach.false); after = omega (arith, column, left, c.if-column-reach.false); before = omega (arith, column, left, c.if-place-c.false) })
