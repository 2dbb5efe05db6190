-- The tables of a first flow.
use Rattle.std.specs.Prelude.{◌≡◌, ℕ, ◌<◌, ℤ, List, length}
use Rattle.map_nums.specs.Grids.{Size, Cells, cell_at, cells_in}
use Rattle.drainage_flow.specs.FlowNets.{IsSmall, brought, flow_number}
use Rattle.drainage_flow.specs.Pouring.{flow_in}

-- what each of the first n places brings
pub record AreBrought (surface weights : Cells) (n : ℕ) (amounts : List ℤ) : Type 0 where
  pub count : length amounts ≡ n
  pub each : (c : ℕ) → c < n → flow_in amounts c ≡ brought (cell_at surface c) (cell_at weights c)
  pub small : (c : ℕ) → c < n → IsSmall (flow_in amounts c)

-- the flow at each place
pub record AreFlows (s : Size) (surface weights : Cells) (flows : List ℤ) : Type 0 where
  pub count : length flows ≡ cells_in s
  pub each : (c : ℕ) → c < cells_in s → flow_in flows c ≡ flow_number s surface weights c
