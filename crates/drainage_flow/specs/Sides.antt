-- The state before an edit, and the one after it.
use Rattle.std.specs.Prelude.{IsSome}
use Rattle.map_nums.specs.Grids.{Cells}
use Rattle.layer_tiles.specs.Changes.{ChangeState, cells_before}
use Rattle.drainage_flow.specs.declared.courses.Side.{Side}
use Rattle.drainage_flow.specs.declared.courses.Side.TheVariants.{Before, After}

abbrev pub cells_on : ChangeState → Side → Cells
cells_on c Before = cells_before c
cells_on c After = c.cells

-- the side is there
abbrev pub HasSide : ChangeState → Side → Type 0
HasSide c Before = IsSome c.before
HasSide c After = Unit {0}
