-- The changed places that have had their turn.
use Rattle.std.specs.Prelude.{◌≡◌, ◌≢◌, ℕ, ◌+◌, ◌%◌, ◌<◌, nat_lt, List, Some, slice_get}
use Rattle.std.specs.List.{count_by}
use Rattle.map_nums.specs.Grids.{Size, Cells, cell_at, row_of, column_of}
use Rattle.map_nums.specs.Tiles.{tile_of}
use Rattle.layer_tiles.specs.Changes.{ChangeState, cells_before}

-- the operand has another cell at place i than before
abbrev pub IsChangedCell : ChangeState → ℕ → Type 0
IsChangedCell c i = cell_at (cells_before c) i ≢ cell_at c.cells i

-- one of the first n cells of a row that begins at column `left`
abbrev pub IsChangedIn : Size → ℕ → ℕ → Cells → Cells → ℕ → ℕ → Type 0
IsChangedIn s row left before after n i = (row_of s i ≡ row) × ((k : ℕ) × (k < n) × (column_of s i ≡ left + k) × (cell_at before k ≢ cell_at after k))

-- in tile t
abbrev pub IsChangedOf : ChangeState → ℕ → ℕ → Type 0
IsChangedOf c t i = (tile_of c.size i ≡ t) × IsChangedCell c i

-- in the first r rows of tile t
abbrev pub IsChangedAbove : ChangeState → ℕ → ℕ → ℕ → Type 0
IsChangedAbove c t r i = IsChangedOf c t i × (row_of c.size i % 32 < r)

-- in a tile below tile t
abbrev pub IsChangedBelow : ChangeState → ℕ → ℕ → Type 0
IsChangedBelow c t i = (tile_of c.size i < t) × IsChangedCell c i

-- of one of the first n operands
abbrev pub IsChangedOne : List ChangeState → ℕ → ℕ → Type 0
IsChangedOne operands n i = (k : ℕ) × (c : ChangeState) × (k < n) × (slice_get operands k ≡ Some c) × IsChangedCell c i

-- how many touched tiles are below tile t
abbrev pub touched_below : ChangeState → ℕ → ℕ
touched_below c t = count_by (λ u. nat_lt u t) c.touched
