-- What holds of every change.
use Rattle.std.specs.Prelude.{◌≡◌, ℕ, ◌<◌, ◌≤◌, List, length, IsSome, IsNone, Contains}
use Rattle.std.specs.List.Sorted.{IsStrictlyIncreasing}
use Rattle.map_nums.specs.Grids.{IsSize, cells_in}
use Rattle.layer_tiles.specs.Cells.{AreCells}
use Rattle.layer_tiles.specs.Tiles.{tiles_in, tile_cells}
use Rattle.layer_tiles.specs.Layers.{IsChangedTile}
use Rattle.layer_tiles.specs.Changes.{ChangeState, cells_before}

-- the cells are a grid's, before and after; the touched tiles ascend; each tile that is not touched was there, and stays
pub record IsChange (c : ChangeState) : Type 0 where
  pub size : IsSize c.size
  pub cells : length c.cells ≡ cells_in c.size
  pub are_cells : AreCells c.cells
  pub before : IsSome c.before → length (cells_before c) ≡ cells_in c.size
  pub are_cells_before : AreCells (cells_before c)
  pub ascends : IsStrictlyIncreasing c.touched
  pub within : (t : ℕ) → Contains c.touched t → t < tiles_in c.size
  pub all_new : IsNone c.before → (t : ℕ) → t < tiles_in c.size → Contains c.touched t
  pub kept : (t : ℕ) → t < tiles_in c.size → (¬ Contains c.touched t) → tile_cells c.size (cells_before c) t ≡ tile_cells c.size c.cells t

-- where the operand was there, each tile that the patch holds is a changed one
abbrev pub HoldsNoUnchanged : ChangeState → Type 0
HoldsNoUnchanged c = IsSome c.before → (t : ℕ) → Contains c.touched t → IsChangedTile c.size (cells_before c) c.cells t

-- t is the least number of a list that is not below `from`
pub record IsNext (numbers : List ℕ) (from t : ℕ) : Type 0 where
  pub held : Contains numbers t
  pub not_below : from ≤ t
  pub least : (u : ℕ) → Contains numbers u → from ≤ u → t ≤ u
