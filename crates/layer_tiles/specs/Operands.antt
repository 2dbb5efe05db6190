-- The operands of an operation.
use Rattle.std.specs.Prelude.{List, [], ◌∷◌, map}
use Rattle.map_nums.specs.Grids.{Size, Cells}
use Rattle.layer_tiles.specs.Changes.{ChangeState}

-- the size of the first
abbrev pub size_of : List ChangeState → Size
size_of [] = record { rows = 0; columns = 0 }
size_of (c ∷ rest) = c.size

-- their cells after the edit
abbrev pub cells_after : List ChangeState → List Cells
cells_after operands = map (λ c. c.cells) operands
