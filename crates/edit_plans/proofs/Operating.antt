-- Every operation makes a grid of the given size.
use Rattle.std.proofs.Common.{◌≡◌, List, refl}
use Rattle.map_nums.specs.Grids.{Size, Cells}
use Rattle.map_defs.specs.Local.{local_grid}
use Rattle.map_defs.specs.Focal.{focal_grid}
use Rattle.map_defs.specs.Zonal.{zonal_grid}
use Rattle.map_defs.specs.Incremental.{form_grid}
use Rattle.map_defs.specs.Drainage.{direction_grid}
use Rattle.map_defs.specs.Flow.{flow_grid}
use Rattle.map_defs.specs.Sight.{sight_grid}
use Rattle.map_defs.specs.Rounds.{spread_grid, region_grid}
use Rattle.map_defs.specs.Nearest.{nearest_grid}
use Rattle.map_defs.specs.Ops.{Head, local_head, difference_head, ratio_head, rating_head, focal_head, zonal_head, form_head, direction_head, flow_head, spread_head, nearest_head, sight_head, region_head, Op}
use Rattle.map_defs.specs.Operate.{by_head, operate}

size_of : (s : Size) (head : Head) (operands : List Cells) → by_head s head operands ≡ record { size = s; cells = (by_head s head operands).cells }
unfolding local_grid focal_grid zonal_grid form_grid direction_grid flow_grid sight_grid spread_grid nearest_grid region_grid
size_of s (local_head stat ignoring) operands = refl
size_of s difference_head operands = refl
size_of s ratio_head operands = refl
size_of s (rating_head rates) operands = refl
size_of s (focal_head stat r) operands = refl
size_of s (zonal_head stat) operands = refl
size_of s (form_head f) operands = refl
size_of s direction_head operands = refl
size_of s flow_head operands = refl
size_of s (spread_head limit) operands = refl
size_of s (nearest_head limit) operands = refl
size_of s (sight_head sight) operands = refl
size_of s region_head operands = refl

pub operate_size : (s : Size) (op : Op) (operands : List Cells) → operate s op operands ≡ record { size = s; cells = (operate s op operands).cells }
unfolding operate
operate_size s op operands = size_of s op.head operands
