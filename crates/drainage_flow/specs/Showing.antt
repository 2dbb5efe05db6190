-- A flow that is written into a working layer over the flow before.
use Rattle.std.specs.Prelude.{◌≡◌, ◌≢◌, ◌⊎◌, ℕ, ◌<◌, ℤ, true, List, length, filter, slice_index_or, Option, Some, None}
use Rattle.std.specs.List.{Contains}
use Rattle.map_nums.specs.Grids.{Size, Cells, cell_at, cells_in, places, grid_by}
use Rattle.map_nums.specs.Tiles.{tiles}
use Rattle.map_defs.specs.Differences.{differs, tile_has}
use Rattle.layer_tiles.specs.Tiles.{tile_of}
use Rattle.tile_work.specs.Working.{WorkState, is_copied}
use Rattle.drainage_flow.specs.Settling.{number_at}

-- the cell of a flow: null where the surface is null
abbrev pub shown : Option ℤ → ℤ → Option ℤ
shown None z = None
shown (Some height) z = Some z

abbrev pub shown_at : Cells → (ℕ → ℤ) → ℕ → Option ℤ
shown_at surface flow c = shown (cell_at surface c) (flow c)

-- how many places have other cells
abbrev pub changes : Size → Cells → Cells → ℕ
changes s was now = length (filter (differs was now) (places s))

-- a layer that is worked on over old cells, of which n differ
pub record IsWorked (s : Size) (old : Cells) (w : WorkState) (n : ℕ) : Type 0 where
  pub size : w.size ≡ s
  pub before : w.before ≡ Some old
  pub count : length w.cells ≡ cells_in s
  pub worked : n ≡ changes s old w.cells

-- each copied tile has a place where the flow's cell is another than the old one
pub record AreCopiedFor (s : Size) (surface old : Cells) (flow : ℕ → ℤ) (w : WorkState) : Type 0 where
  pub each : (t : ℕ) → is_copied w t ≡ true → (c : ℕ) × (c < cells_in s) × (tile_of s c ≡ t) × (cell_at old c ≢ shown_at surface flow c)

-- a number for a place is written where that place is to differ, and what differed before still does
pub record IsForward (surface old : Cells) (flow : ℕ → ℤ) (w : WorkState) (at : ℕ) (z : ℤ) : Type 0 where
  pub changes : cell_at w.cells at ≢ shown (cell_at surface at) z → cell_at old at ≢ shown_at surface flow at
  pub progress : cell_at w.cells at ≢ cell_at old at → shown (cell_at surface at) z ≢ cell_at old at

-- of the first k places of a list each has its old number over the new surface, and no place has anything but that or its old cell
pub record AreGrounded (s : Size) (surface old : Cells) (changed : List ℕ) (k : ℕ) (cells : Cells) : Type 0 where
  pub each : (c : ℕ) → c < cells_in s → (cell_at cells c ≡ shown_at surface (number_at old) c) ⊎ (cell_at cells c ≡ cell_at old c)
  pub done : (j : ℕ) → j < k → cell_at cells (slice_index_or changed j 0) ≡ shown_at surface (number_at old) (slice_index_or changed j 0)

-- each number that is put is the flow's, and another than the old one
pub record ArePlaced (s : Size) (old : Cells) (puts : List (ℕ × ℤ)) (flow : ℕ → ℤ) : Type 0 where
  pub each : (p : ℕ × ℤ) → Contains puts p → (p.0 < cells_in s) × (p.1 ≡ flow p.0) × (number_at old p.0 ≢ flow p.0)

-- how many tiles have a place at which the flow's cell is another than the old one
abbrev pub changed_count : Size → Cells → Cells → (ℕ → ℤ) → ℕ
changed_count s surface old flow = length (filter (tile_has s (differs old (grid_by s (shown_at surface flow)).cells)) (tiles s))
