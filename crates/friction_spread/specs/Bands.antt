-- Bands of rows of a map: grounds of their own, and the least costs in them.
use Rattle.std.specs.Prelude.{◌≡◌, ℕ, ◌+◌, ◌-◌, ◌*◌, ◌<◌, ◌≤◌, List, [], ◌∷◌, length, take, drop, ℤ, Option}
use Rattle.map_nums.specs.Grids.{Size, Cells, cells_in}
use Rattle.map_defs.specs.Nets.{IsLeastIn}
use Rattle.friction_spread.specs.declared.bands.CostBand.{CostBand}
use Rattle.friction_spread.specs.Costs.{GroundState, net_of}
use Rattle.friction_spread.specs.Flat.{costs_of}

-- the ground of a whole map
abbrev pub ground_of : Size → List (Option ℤ) → List (Option ℤ) → ℕ → GroundState
ground_of s sources friction limit = record { size = s; sources = sources; friction = friction; limit = limit }

-- the cells of the rows `first` to before `end`
abbrev pub rows_of : Size → ℕ → ℕ → Cells → Cells
rows_of s first end cells = take ((end - first) * s.columns) (drop (first * s.columns) cells)

-- these rows as a ground of their own
abbrev pub band_of : GroundState → ℕ → ℕ → GroundState
band_of g first end = record {
  size = record { rows = end - first; columns = g.size.columns };
  sources = rows_of g.size first end g.sources;
  friction = rows_of g.size first end g.friction;
  limit = g.limit;
}

-- the band has these rows; its costs are the least by paths that stay in them and in rows that were taken in beside them, `from` to before `until`
pub record IsCostBand (g : GroundState) (first end : ℕ) (band : CostBand) : Type 0 where
  pub some : first < end
  pub rows : first + band.rows ≡ end
  pub from : ℕ
  pub until : ℕ
  pub above : from + band.above ≡ first
  pub below : end ≤ until
  pub within : until ≤ g.size.rows
  pub count : length band.costs.items ≡ cells_in (band_of g from until).size
  pub least : (i : ℕ) → IsLeastIn (net_of (band_of g from until)) i (costs_of (band_of g from until) band.costs.items i)

-- bands one below the other, from a row to the last one
abbrev pub AreCostBands : GroundState → ℕ → List CostBand → Type 0
AreCostBands g row [] = row ≡ g.size.rows
AreCostBands g row (band ∷ bands) = (end : ℕ) × IsCostBand g row end band × AreCostBands g end bands
