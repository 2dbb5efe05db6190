-- The least costs of a map, place by place.
use Rattle.std.specs.Prelude.{◌≡◌, ◌≤◌, length}
use Rattle.map_nums.specs.Grids.{Size, Cells, cells_in}
use Rattle.map_nums.specs.Numbers.{greatest_value}
use Rattle.map_defs.specs.Spread.{IsSpread}
use Rattle.map_defs.specs.Work.{first_work}
use Rattle.friction_spread.specs.Costs.{GroundState}
use Rattle.friction_spread.specs.Shown.{shown_cells}
use Rattle.friction_spread.specs.declared.lists.CostList.{CostList}

-- the cells that show them
abbrev pub list_cells : Size → CostList → Cells
list_cells s list = shown_cells s list.limit list.costs.items

-- all costs of a ground, and the work that they are where there were none
pub record IsCostList (g : GroundState) (list : CostList) : Type 0 where
  pub limit : list.limit ≤ greatest_value
  pub same_limit : list.limit ≡ g.limit
  pub count : length list.costs.items ≡ cells_in g.size
  pub spread : IsSpread g.size g.sources g.friction g.limit (list_cells g.size list)
  pub worked : list.worked ≡ first_work g.size (list_cells g.size list)
