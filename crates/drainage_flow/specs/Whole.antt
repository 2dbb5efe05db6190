-- The cells of a flow that bands have, and which flows of a list a cell may hold.
use Rattle.std.specs.Prelude.{ℕ, ◌<◌, ℤ, List, length, IsTrue, IsFalse}
use Rattle.map_nums.specs.Grids.{Size, Cells, grid_by}
use Rattle.map_nums.specs.Numbers.{is_value}
use Rattle.drainage_flow.specs.FlowBands.{all_flows}
use Rattle.drainage_flow.specs.Pouring.{flow_in}
use Rattle.drainage_flow.specs.Showing.{shown_at}
use Rattle.drainage_flow.specs.declared.flow_band.FlowBand.{FlowBand}

-- the cells of the flow over a surface
abbrev pub flow_cells : Size → Cells → List FlowBand → Cells
flow_cells s surface bands = (grid_by s (shown_at surface (flow_in (all_flows bands)))).cells

-- each of them
pub record AreInRange (flows : List ℤ) : Type 0 where
  pub each : (c : ℕ) → c < length flows → IsTrue (is_value (flow_in flows c))

-- that at place `at` is the first that it may not
pub record IsFirstWide (flows : List ℤ) (at : ℕ) : Type 0 where
  pub within : at < length flows
  pub wide : IsFalse (is_value (flow_in flows at))
  pub first : (c : ℕ) → c < at → IsTrue (is_value (flow_in flows c))
