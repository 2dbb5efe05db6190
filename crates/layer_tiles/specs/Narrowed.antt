-- The tiles of a patch that differ from a grid's.
use Rattle.std.specs.Prelude.{ℕ, Bool, not, List}
use Rattle.std.specs.List.{filter}
use Rattle.std.specs.Option.{option_eq}
use Rattle.std.specs.Ordering.{int_eq}
use Rattle.std.specs.Cmp.Lexicographic.{pointwise}
use Rattle.map_nums.specs.Grids.{Size, Cells}
use Rattle.layer_tiles.specs.Tiles.{Block, tile_cells}

-- a numbered tile has the cells of the grid's tile of its number
unfoldable pub is_same_tile : Size → Cells → ℕ × Block → Bool
is_same_tile s cells e = pointwise (option_eq int_eq) e.1.cells (tile_cells s cells e.0)

abbrev pub is_other_tile : Size → Cells → ℕ × Block → Bool
is_other_tile s cells e = not (is_same_tile s cells e)

-- those that have other cells, in order
abbrev pub narrowed : Size → Cells → List (ℕ × Block) → List (ℕ × Block)
narrowed s cells tiles = filter (is_other_tile s cells) tiles
