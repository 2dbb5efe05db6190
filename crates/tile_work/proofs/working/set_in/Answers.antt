use Rattle.std.proofs.Common.{◌≡◌, ◌+◌, ◌*◌, ◌%◌, refl, ◌∙◌, ap}
use Rattle.std.specs.Prelude.{slice_set}
use Rattle.layer_tiles.specs.Tiles.{place_in}
use Rattle.layer_tiles.proofs.Rounds.{back, IsAt}
use Rattle.tile_work.proofs.working.set_in.Goals as goal
use Rattle.tile_work.proofs.working.set_in.Goals.{After-column_of-column}

at_is : (c : After-column_of-column) → IsAt c.args.extent c.args.at
at_is c = back c.args.extent c.args.at c.row_of-row.ensures.size c.requires.within

pub set-requires-clause-row : goal.set-requires-clause-row
set-requires-clause-row c = rw (c.row_of-row.ensures.row, c.requires.size.height) (at_is (goal.at.set-requires-clause-row c).After-column_of-column).row

pub set-requires-clause-column : goal.set-requires-clause-column
set-requires-clause-column c = rw (c.column_of-column.ensures.column, c.requires.size.width) (at_is (goal.at.set-requires-clause-column c).After-column_of-column).column

place_is : (c : After-column_of-column) → (c.row_of-row.result % 32) * c.args.tile.now.width + c.column_of-column.result % 32 ≡ place_in c.args.extent c.args.at
unfolding place_in
place_is c = rw (c.row_of-row.ensures.row, c.column_of-column.ensures.column, c.requires.size.width) refl

pub returns : goal.returns
returns c = c.set.ensures ∙ ap (λ k. record c.args.tile.now { cells = slice_set c.args.tile.now.cells k c.args.cell }) (place_is (goal.at.returns c).After-column_of-column)
