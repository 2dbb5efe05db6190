-- The places at which cells changed, tile by tile.
use Rattle.std.specs.Prelude.{ℤ, Option, ◌≡◌, ◌≢◌, ℕ, ◌+◌, ◌*◌, ◌/◌, ◌%◌, ◌<◌, ◌⊎◌, List, [], ◌∷◌, ◌++◌, length, slice_index_or}
use Rattle.map_nums.specs.Grids.{Size, Cells, cell_at, cells_in}
use Rattle.layer_tiles.specs.Tiles.{tile_of, tile_block, block_row}

-- the list has the place
abbrev pub HoldsPlace : List ℕ → ℕ → Type 0
HoldsPlace found i = (k : ℕ) × (k < length found) × (slice_index_or found k 0 ≡ i)

-- places in the order of tiles, and of rows within a tile: 32 columns to a row, and 32 rows to a tile
unfoldable pub order_of : Size → ℕ → ℕ
order_of s i = tile_of s i * 1024 + (i / s.columns % 32 * 32 + i % s.columns % 32)

-- a place before number n in that order, whose cell changed
pub record IsChangedAt (s : Size) (before after : Cells) (n i : ℕ) : Type 0 where
  pub within : i < cells_in s
  pub differs : cell_at before i ≢ cell_at after i
  pub below : order_of s i < n

-- all of these, each once
pub record AreChangedTo (s : Size) (before after : Cells) (n : ℕ) (found : List ℕ) : Type 0 where
  pub each : (k : ℕ) → k < length found → IsChangedAt s before after n (slice_index_or found k 0)
  pub all : (i : ℕ) → IsChangedAt s before after n i → HoldsPlace found i
  pub apart : (j k : ℕ) → j < k → k < length found → slice_index_or found j 0 ≢ slice_index_or found k 0

-- the places whose cells changed, each once
pub record AreChanged (s : Size) (before after : Cells) (found : List ℕ) : Type 0 where
  pub within : (k : ℕ) → k < length found → slice_index_or found k 0 < cells_in s
  pub differ : (k : ℕ) → k < length found → cell_at before (slice_index_or found k 0) ≢ cell_at after (slice_index_or found k 0)
  pub all : (i : ℕ) → i < cells_in s → cell_at before i ≢ cell_at after i → HoldsPlace found i
  pub apart : (j k : ℕ) → j < k → k < length found → slice_index_or found j 0 ≢ slice_index_or found k 0

-- a place was added where its cells differ
abbrev pub IsAddedIf : Option ℤ → Option ℤ → ℕ → List ℕ → List ℕ → Type 0
IsAddedIf one other at old new = ((one ≡ other) × (new ≡ old)) ⊎ ((one ≢ other) × (new ≡ old ++ at ∷ []))

-- the places of row r of tile t were added, up to column c
abbrev pub AddsRowTo : Size → ℕ → ℕ → ℕ → Cells → Cells → List ℕ → List ℕ → Type 0
AddsRowTo s t r c one other old new = (before after : Cells) → one ≡ block_row (tile_block s before t) r → other ≡ block_row (tile_block s after t) r → AreChangedTo s before after (t * 1024 + r * 32) old → AreChangedTo s before after (t * 1024 + (r * 32 + c)) new
