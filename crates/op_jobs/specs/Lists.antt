-- Layers that were not there, place by place.
use Rattle.std.specs.Prelude.{◌≡◌, ◌^◌, ◌<◌, ◌≤◌, ℕ, List, length, None, IsTrue}
use Rattle.map_nums.specs.Grids.{Size, Cells, cells_in}
use Rattle.map_nums.specs.Numbers.{greatest_value}
use Rattle.map_defs.specs.Damage.{has_work}
use Rattle.map_defs.specs.Ops.{Op}
use Rattle.layer_tiles.specs.Changes.{ChangeState}
use Rattle.layer_tiles.specs.Operands.{cells_after}
use Rattle.friction_spread.specs.Lists.{list_cells as cost_cells}
use Rattle.friction_neighbor.specs.Bands.{list_cells as value_cells}
use Rattle.drainage_flow.specs.FlowBands.{all_flows, AreEven}
use Rattle.drainage_flow.specs.Whole.{flow_cells}
use Rattle.region_labels.specs.Roots.{AreBack, resolved_cells}
use Rattle.map_waves.specs.Statements.{made, work_by}
use Rattle.op_jobs.specs.Beside.{suits}
use Rattle.op_jobs.specs.declared.lists.FreshLayer.{FreshLayer}
use Rattle.op_jobs.specs.declared.lists.LayerList.{LayerList}
use Rattle.op_jobs.specs.declared.lists.LayerList.TheVariants.{Costs, Nearest, Flow, Labels}

-- it has all places of a map
abbrev pub IsList : Size → LayerList → Type 0
IsList s (Costs list) = (list.limit ≤ greatest_value) × (length list.costs.items ≡ cells_in s)
IsList s (Nearest list) = length list.values.items ≡ cells_in s
IsList s (Flow list) = (length list.surface.items ≡ cells_in s) × AreEven list.bands.items × (length (all_flows list.bands.items) ≡ cells_in s)
IsList s (Labels list) = AreBack list.labels.items × (length list.labels.items ≡ cells_in s)

-- the cells of the layer
abbrev pub list_cells : Size → LayerList → Cells
list_cells s (Costs list) = cost_cells s list
list_cells s (Nearest list) = value_cells s list
list_cells s (Flow list) = flow_cells s list.surface.items list.bands.items
list_cells s (Labels list) = resolved_cells s list.labels.items

-- the layer of an operation that had none, and the work
pub record IsListMade (s : Size) (op : Op) (operands : List ChangeState) (list : LayerList) (work : ℕ) : Type 0 where
  pub class : IsTrue (has_work op)
  pub list_is : IsList s list
  pub cells : list_cells s list ≡ made s op (cells_after operands)
  pub work_is : work ≡ work_by s op None operands
  pub little : work < 2 ^ 32

-- and what is to stand beside it
pub record IsFreshMade (s : Size) (op : Op) (operands : List ChangeState) (fresh : FreshLayer) : Type 0 where
  pub made_is : IsListMade s op operands fresh.list fresh.worked
  pub beside_is : suits s op (cells_after operands) fresh.beside
