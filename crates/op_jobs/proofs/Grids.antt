-- An operation gives a cell for each place.
use Rattle.std.proofs.Common.{◌≡◌, ℕ, ℤ, Option, List, length}
use Rattle.std.proofs.lemmas.List.FromFn.{length-map-range_with_len}
use Rattle.map_nums.specs.Grids.{Size, Cells, cells_in, grid_by}
use Rattle.map_defs.specs.Ops.{Head, spread_head, region_head, Op}
use Rattle.map_defs.specs.Local.{local_grid}
use Rattle.map_defs.specs.Focal.{focal_grid}
use Rattle.map_defs.specs.Zonal.{zonal_grid}
use Rattle.map_defs.specs.Incremental.{form_grid}
use Rattle.map_defs.specs.Drainage.{direction_grid}
use Rattle.map_defs.specs.Flow.{flow_grid}
use Rattle.map_defs.specs.Nearest.{nearest_grid}
use Rattle.map_defs.specs.Sight.{sight_grid}
use Rattle.map_defs.proofs.SpreadCells.{spread_is}
use Rattle.map_defs.proofs.RegionCells.{regions_are}
use Rattle.map_defs.specs.Operate.{operate, operand, by_head}
use Rattle.map_waves.specs.Statements.{made}

by_count : (s : Size) (f : ℕ → Option ℤ) → length (grid_by s f).cells ≡ cells_in s
by_count s f = length-map-range_with_len f 0 (cells_in s)

count_in : (s : Size) (head : Head) (cells : List Cells) → length (by_head s head cells).cells ≡ cells_in s
unfolding local_grid focal_grid zonal_grid form_grid direction_grid flow_grid nearest_grid sight_grid
count_in s (spread_head limit) cells = (spread_is s (operand cells 0) (operand cells 1) limit).full
count_in s region_head cells = (regions_are s (operand cells 0)).full
count_in s head cells = by_count s _

pub made_count : (s : Size) (op : Op) (cells : List Cells) → length (made s op cells) ≡ cells_in s
unfolding operate
made_count s op cells = count_in s op.head cells
