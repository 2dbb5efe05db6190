-- Laws of nearest sources.
use Rattle.std.specs.Prelude.{◌≡◌, ℕ, suc, ℤ, Option}
use Rattle.map_nums.specs.Grids.{Size, Cells, cell_at}
use Rattle.map_defs.specs.Nets.{IsLeastIn}
use Rattle.map_defs.specs.Rounds.{spread_net}
use Rattle.map_defs.specs.Nearest.{IsNearestCell, AreNearest, nearest_grid, IsLeastValue}

-- the plain program gives the numbers of the nearest sources
abbrev pub NearestIs : Type 0
NearestIs = (s : Size) (sources friction : Cells) (limit : ℕ) → AreNearest s sources friction limit (nearest_grid limit s sources friction).cells

-- and no other cells are they
abbrev pub NearestOnly : Type 0
NearestOnly = (s : Size) (sources friction : Cells) (limit : ℕ) (c d : Cells) → AreNearest s sources friction limit c → AreNearest s sources friction limit d → c ≡ d

-- values that agree along the steps that least costs use are they
abbrev pub NearestFromSteps : Type 0
NearestFromSteps =
    (s : Size) (sources friction : Cells) (limit : ℕ) (d : ℕ → ℕ) (value : ℕ → Option ℤ) →
    ((i : ℕ) → IsLeastIn (spread_net s sources friction (suc limit)) i (d i)) →
    ((i : ℕ) → IsLeastValue (spread_net s sources friction (suc limit)) d (cell_at sources) value i) → (i : ℕ) → IsNearestCell s sources friction limit i (value i)

-- so the values of two that agree are the same
abbrev pub OneOfSteps : Type 0
OneOfSteps =
    (s : Size) (sources friction : Cells) (limit : ℕ) (d : ℕ → ℕ) (value other : ℕ → Option ℤ) →
    ((i : ℕ) → IsLeastIn (spread_net s sources friction (suc limit)) i (d i)) →
    ((i : ℕ) → IsLeastValue (spread_net s sources friction (suc limit)) d (cell_at sources) value i) →
    ((i : ℕ) → IsLeastValue (spread_net s sources friction (suc limit)) d (cell_at sources) other i) → (i : ℕ) → value i ≡ other i
