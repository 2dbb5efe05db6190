use Rattle.std.proofs.Common.{◌≡◌, ◌<◌, ◌+◌, ◌*◌, ◌%◌, refl, ◌∙◌, ap, None, length, get_or, drop}
use Rattle.std.proofs.lemmas.List.{get_or-take, get_or-drop, get_or_default}
use Rattle.layer_tiles.specs.Tiles.{place_in}
use Rattle.layer_tiles.proofs.Rounds.{back, IsAt}
use Rattle.tile_work.proofs.working.cell_in.Goals as goal
use Rattle.tile_work.proofs.working.cell_in.Goals.{After-column_of-column, After-row-cells}

at_is : (c : After-column_of-column) → IsAt c.args.extent c.args.at
at_is c = back c.args.extent c.args.at c.row_of-row.ensures.size c.requires.within

pub row-cells-requires : goal.row-cells-requires
row-cells-requires c = rw (c.row_of-row.ensures.row, c.requires.size.height) (at_is (goal.at.row-cells-requires c).After-column_of-column).row

pub bounds-cells-column : goal.bounds-cells-column
bounds-cells-column c = rw (c.column_of-column.ensures.column, c.row-cells.ensures.width, c.requires.size.width) (at_is (goal.at.bounds-cells-column c).After-column_of-column).column

c_lt : (c : After-row-cells) → c.column_of-column.result % 32 < length c.row-cells.result.now
c_lt c = rw (c.column_of-column.ensures.column, c.row-cells.ensures.width, c.requires.size.width) (at_is (goal.at.After-row-cells c).After-column_of-column).column

place_is : (c : After-row-cells) → (c.row_of-row.result % 32) * c.args.tile.now.width + c.column_of-column.result % 32 ≡ place_in c.args.extent c.args.at
unfolding place_in
place_is c = rw (c.row_of-row.ensures.row, c.column_of-column.ensures.column, c.requires.size.width) refl

pub returns : goal.returns
returns c =
    let t = c.args.tile.now in
    c.index-cells-column.is
    ∙ get_or_default c.row-cells.result.now (c.column_of-column.result % 32) c.index-cells-column.result None (c_lt (goal.at.returns c).After-row-cells)
    ∙ ap (λ xs. get_or xs (c.column_of-column.result % 32) None) c.row-cells.ensures.row
    ∙ get_or-take t.width (drop ((c.row_of-row.result % 32) * t.width) t.cells) (c.column_of-column.result % 32) None (rw (← c.row-cells.ensures.width) (c_lt (goal.at.returns c).After-row-cells))
    ∙ get_or-drop ((c.row_of-row.result % 32) * t.width) t.cells (c.column_of-column.result % 32) None
    ∙ ap (λ k. get_or t.cells k None) (place_is (goal.at.returns c).After-row-cells)
