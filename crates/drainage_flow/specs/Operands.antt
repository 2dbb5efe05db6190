-- The cells of an operand in one list.
use Rattle.std.specs.Prelude.{◌≡◌}
use Rattle.map_nums.specs.Grids.{Size, Cells}
use Rattle.layer_tiles.specs.Changes.{ChangeState}

-- the operand has this size, and these cells after the edit
pub record HasCells (s : Size) (list : Cells) (c : ChangeState) : Type 0 where
  pub size : c.size ≡ s
  pub cells : c.cells ≡ list
