-- Tiles of a grid that are in range, and its least cell that isn't.
use Rattle.std.specs.Prelude.{ℕ, ◌<◌, IsTrue, IsFalse}
use Rattle.map_nums.specs.Answers.{is_wide}
use Rattle.map_nums.specs.Grids.{Size, Cells, cells_in, cell_at}
use Rattle.layer_tiles.specs.Tiles.{tile_of}

-- the first n tiles are in range
abbrev pub AreNarrow : Size → Cells → ℕ → Type 0
AreNarrow s cells n = (i : ℕ) → i < cells_in s → tile_of s i < n → IsFalse (is_wide (cell_at cells i))

-- cell `at` is out of range, and none before it in the first n tiles
pub record IsLeastUpTo (s : Size) (cells : Cells) (n at : ℕ) : Type 0 where
  pub within : at < cells_in s
  pub wide : IsTrue (is_wide (cell_at cells at))
  pub least : (i : ℕ) → i < at → tile_of s i < n → IsFalse (is_wide (cell_at cells i))
