-- The number of the nearest source: among the paths of least cost to a place, the least number at which one begins.
use Rattle.std.specs.Prelude.{◌≡◌, ◌⊎◌, ℕ, ◌+◌, ◌<◌, ◌≤◌, ℤ, ◌≤ℤ◌, Bool, ◌&&◌, List, [], ◌∷◌, length, map, filter, Option, Some, None, is_some, if◌then◌else◌}
use Rattle.map_nums.specs.Stats.{minimum_of}
use Rattle.map_nums.specs.Grids.{Size, Cells, Grid, cell_at, cells_in, numbers_in, grid_by}
use Rattle.map_defs.specs.Cells.{has_number, same_cell}
use Rattle.map_defs.specs.Nets.{Net}
use Rattle.map_defs.specs.Spread.{IsPath, path_cost, IsLeastCost}
use Rattle.map_defs.specs.Rounds.{spread_grid}

-- ---- as a relation

-- where the path begins that goes through the places js, the last one first, to i
abbrev pub begins_at : ℕ → List ℕ → ℕ
begins_at i [] = i
begins_at i (j ∷ js) = begins_at j js

-- a path to place i that costs v begins at a source of number z, and none at a source of a lesser number
pub record IsNearest (s : Size) (sources friction : Cells) (i v : ℕ) (z : ℤ) : Type 0 where
  pub some : (js : List ℕ) × IsPath s sources friction i js × (path_cost s friction i js ≡ v) × (cell_at sources (begins_at i js) ≡ Some z)
  pub least : (js : List ℕ) (w : ℤ) → IsPath s sources friction i js → path_cost s friction i js ≡ v → cell_at sources (begins_at i js) ≡ Some w → z ≤ℤ w

-- the number by the paths of least cost, where that is within the limit; null where each path costs more
abbrev pub IsNearestCell : Size → Cells → Cells → ℕ → ℕ → Option ℤ → Type 0
IsNearestCell s sources friction limit i None = (js : List ℕ) → IsPath s sources friction i js → limit < path_cost s friction i js
IsNearestCell s sources friction limit i (Some z) = (v : ℕ) × IsLeastCost s sources friction i v × (v ≤ limit) × IsNearest s sources friction i v z

pub record AreNearest (s : Size) (sources friction : Cells) (limit : ℕ) (cells : Cells) : Type 0 where
  pub full : length cells ≡ cells_in s
  pub each : (i : ℕ) → i < cells_in s → IsNearestCell s sources friction limit i (cell_at cells i)

-- ---- as a program: the least number whose own sources alone cost there what all cost

-- the sources of number z
abbrev pub only : ℤ → Cells → Cells
only z sources = map (λ c. if has_number z c then c else None) sources

-- both are the same number
abbrev pub same_number : Option ℤ → Option ℤ → Bool
same_number c d = is_some c && same_cell c d

abbrev pub nearest_at : ℕ → Size → Cells → Cells → ℕ → Option ℤ
nearest_at limit s sources friction i =
    minimum_of (filter (λ z. same_number (cell_at (spread_grid limit s sources friction).cells i) (cell_at (spread_grid limit s (only z sources) friction).cells i)) (numbers_in sources))

unfoldable pub nearest_grid : ℕ → Size → Cells → Cells → Grid
nearest_grid limit s sources friction = grid_by s (nearest_at limit s sources friction)

-- ---- along the steps that least costs use

-- a number that is no greater than z
abbrev pub IsNoGreater : Option ℤ → ℤ → Type 0
IsNoGreater None z = ⊥
IsNoGreater (Some w) z = w ≤ℤ z

-- place i costs d i by a path that begins there, or by a step from j
abbrev pub BeginsAt : Net → (ℕ → ℕ) → ℕ → Type 0
BeginsAt g d i = (d i < g.top) × (d i ≡ g.base i)

abbrev pub StepsTo : Net → (ℕ → ℕ) → ℕ → ℕ → Type 0
StepsTo g d j i = (d i < g.top) × (d j + g.step j i ≡ d i)

-- for the least costs d, place i has the least of its own number, where a path begins there, and of the values from where a step leads to it
pub record IsLeastValue (g : Net) (d : ℕ → ℕ) (own value : ℕ → Option ℤ) (i : ℕ) : Type 0 where
  pub attained : (z : ℤ) → value i ≡ Some z → (BeginsAt g d i × (own i ≡ Some z)) ⊎ ((j : ℕ) × StepsTo g d j i × (value j ≡ Some z))
  pub begun : (z : ℤ) → BeginsAt g d i → own i ≡ Some z → IsNoGreater (value i) z
  pub stepped : (j : ℕ) (z : ℤ) → StepsTo g d j i → value j ≡ Some z → IsNoGreater (value i) z
