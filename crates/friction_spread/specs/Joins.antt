-- Costs of bands that come one below the other.
use Rattle.std.specs.Prelude.{◌≡◌, ◌⊎◌, ℕ, ◌+◌, ◌*◌, ◌<◌, ◌≤◌, List, length}
use Rattle.map_nums.specs.Grids.{Size, row_of}
use Rattle.least_costs.specs.Filling.{IsFilling}
use Rattle.friction_spread.specs.Costs.{GroundState, base_of, net_of}
use Rattle.friction_spread.specs.Flat.{costs_of}

-- place c lies in a row of a band that has another band beside it
abbrev pub IsAtSeam : Size → ℕ → ℕ → ℕ → Type 0
IsAtSeam s first end c = ((0 < first) × (row_of s c ≡ first)) ⊎ ((end < s.rows) × (row_of s c + 1 ≡ end))

-- costs of the rows before `end`: each is what a path costs, and none is above its base; its place stands in the queue, or its steps were tried
pub record AreCostsTo (g : GroundState) (end : ℕ) (costs : List ℕ) (entries : List (ℕ × ℕ)) : Type 0 where
  pub count : length costs ≡ end * g.size.columns
  pub filling : IsFilling (net_of g) (costs_of g costs) entries
  pub begun : (i : ℕ) → i < end * g.size.columns → costs_of g costs i ≤ base_of g i
