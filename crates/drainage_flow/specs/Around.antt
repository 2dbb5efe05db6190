-- Where the cells round one are found.
use Rattle.std.specs.Prelude.{◌≡◌, ℕ, ◌+◌, ◌<◌, pos, negsuc, ◌-ℤ◌, length, Some, IsTrue}
use Rattle.std.specs.List.{Contains}
use Rattle.map_nums.specs.Grids.{Size, Cells, Offset, cell_at, near, moved, compass}
use Rattle.layer_tiles.specs.Windows.{WindowState, lends}

-- a window lends a cell and its neighbours on the map
pub record IsLentAround (w : WindowState) (at : ℕ) : Type 0 where
  pub here : IsTrue (lends w.span w.size at)
  pub around : (o : Offset) (j : ℕ) → Contains compass o → moved w.size at o ≡ Some j → IsTrue (lends w.span w.size j)

-- three rows hold the cells round place i, those of the column left of it at c
pub record AreRowsRound (s : Size) (surface : Cells) (i : ℕ) (above here below : Cells) (c : ℕ) : Type 0 where
  pub above_within : c + 2 < length above
  pub here_within : c + 2 < length here
  pub below_within : c + 2 < length below
  pub own : cell_at here (c + 1) ≡ cell_at surface i
  pub above_is : (j : ℕ) → j < 3 → cell_at above (c + j) ≡ near s surface i (negsuc 0, pos j -ℤ pos 1)
  pub here_is : (j : ℕ) → j < 3 → cell_at here (c + j) ≡ near s surface i (pos 0, pos j -ℤ pos 1)
  pub below_is : (j : ℕ) → j < 3 → cell_at below (c + j) ≡ near s surface i (pos 1, pos j -ℤ pos 1)
