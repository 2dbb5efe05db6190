-- The tiles of an operation's operands.
use Rattle.std.specs.Prelude.{◌≡◌, ℕ, List, map, ℤ, Option}
use Rattle.std.specs.List.{All}
use Rattle.map_nums.specs.Grids.{Size, Cells, cell_at}
use Rattle.map_defs.specs.Local.{LocalOp, local_cell}
use Rattle.layer_tiles.specs.Tiles.{Block, block_row, tile_block}
use Rattle.layer_tiles.specs.Changes.{ChangeState}
pub use Rattle.layer_tiles.specs.Operands.{size_of, cells_after}

-- tile t of each
abbrev pub blocks_of : Size → ℕ → List ChangeState → List Block
blocks_of s t operands = map (λ c. tile_block s c.cells t) operands

-- the cells in row r and column c of rectangles
abbrev pub row_cells : List Block → ℕ → ℕ → Cells
row_cells blocks r c = map (λ b. cell_at (block_row b r) c) blocks

-- the operation of these cells
unfoldable pub cell_by : LocalOp → List Block → ℕ → ℕ → Option ℤ
cell_by op blocks r c = local_cell op (row_cells blocks r c)

-- rectangles of one size
abbrev pub HaveSize : ℕ → ℕ → List Block → Type 0
HaveSize height width blocks = All (λ b. (b.height ≡ height) × (b.width ≡ width)) blocks
