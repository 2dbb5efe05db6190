-- What the sample's grids hold.
use Rattle.std.specs.Prelude.{ℕ, suc, ◌*◌, ℤ, List, Option, map, codes}
use Rattle.std.specs.List.{range_with_len}
use Rattle.map_nums.specs.Grids.{Size, Cells, grid_by, row_of, column_of}
use Rattle.layer_tiles.specs.Tiles.{Block, tiles_across, tile_block}
use Rattle.map_machine.specs.SampleGrids.{NamedGrid, by_place, height, friction, start, zone}
use Rattle.map_sample.specs.declared.grids.SampleGrid.{SampleGrid}
use Rattle.map_sample.specs.declared.grids.SampleGrid.TheVariants.{Height, Friction, Start, Zone}

abbrev pub cell_in : SampleGrid → ℕ → ℕ → Option ℤ
cell_in Height = height
cell_in Friction = friction
cell_in Start = start
cell_in Zone = zone

-- the cells of a grid of this size, whose rows and columns count from 1
abbrev pub cells_of : Size → SampleGrid → Cells
cells_of s grid = (grid_by s (λ i. cell_in grid (suc (row_of s i)) (suc (column_of s i)))).cells

-- the tiles of a row of tiles, from the left on
abbrev pub tiles_of_row : Size → SampleGrid → ℕ → List Block
tiles_of_row s grid down = map (tile_block s (cells_of s grid)) (range_with_len (down * tiles_across s) (tiles_across s))

abbrev pub name_of : SampleGrid → List ℕ
name_of Height = codes "H"
name_of Friction = codes "F"
name_of Start = codes "S"
name_of Zone = codes "Z"

abbrev pub named_grid : ℕ → SampleGrid → NamedGrid
named_grid side grid = record { name = name_of grid; grid = by_place side (cell_in grid) }
