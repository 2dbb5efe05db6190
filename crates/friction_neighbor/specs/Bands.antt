-- Bands of rows of a map: the least costs in them, and the numbers of the nearest sources within them.
use Rattle.std.specs.Prelude.{◌≡◌, ℕ, ℤ, List, [], ◌∷◌, length, Option, Vec}
use Rattle.std.specs.declared.alloc.Global.{Global}
use Rattle.map_nums.specs.Grids.{Size, Cells, cells_in}
use Rattle.map_defs.specs.Nearest.{AreNearest}
use Rattle.layer_tiles.specs.Cells.{AreCells}
use Rattle.friction_spread.specs.Costs.{GroundState}
use Rattle.friction_spread.specs.Bands.{band_of, IsCostBand}
use Rattle.friction_spread.specs.Lists.{IsCostList}
use Rattle.friction_spread.specs.declared.bands.CostBand.{CostBand}
use Rattle.friction_neighbor.specs.Fields.{list_field, AreLeastValues}
use Rattle.friction_neighbor.specs.Shown.{shown_cells}
use Rattle.friction_neighbor.specs.declared.bands.NearestBand.{NearestBand}
use Rattle.friction_neighbor.specs.declared.lists.NearestList.{NearestList}

-- the values of the rows `from` to before `until`, by paths that stay in them
abbrev pub AreBandValues : GroundState → ℕ → ℕ → CostBand → Cells → Type 0
AreBandValues g from until costs values = AreLeastValues (list_field (band_of g from until) costs.costs.items) values

-- the costs of a band, and its values, also those of the rows that were taken in
pub record IsOwnBand (g : GroundState) (first end : ℕ) (costs : CostBand) (values : Cells) : Type 0 where
  pub are_costs : IsCostBand g first end costs
  pub are_values : AreBandValues g are_costs.from are_costs.until costs values

abbrev pub IsNearestBand : GroundState → ℕ → ℕ → NearestBand → Type 0
IsNearestBand g first end band = IsOwnBand g first end band.costs band.values.items

-- bands one below the other, from a row to the last one
abbrev pub AreNearestBands : GroundState → ℕ → List NearestBand → Type 0
AreNearestBands g row [] = row ≡ g.size.rows
AreNearestBands g row (band ∷ bands) = (end : ℕ) × IsNearestBand g row end band × AreNearestBands g end bands

-- the same, of costs and values in two lists
abbrev pub AreBandsOf : GroundState → ℕ → List CostBand → List (Vec (Option ℤ) Global) → Type 0
AreBandsOf g row [] [] = row ≡ g.size.rows
AreBandsOf g row (band ∷ bands) (part ∷ parts) = (end : ℕ) × IsOwnBand g row end band part.items × AreBandsOf g end bands parts
AreBandsOf g row bands parts = ⊥

-- the cells that show the values of a list
abbrev pub list_cells : Size → NearestList → Cells
list_cells s list = shown_cells s list.values.items

-- all costs of a ground, and the numbers of the nearest sources
pub record IsNearestList (g : GroundState) (list : NearestList) : Type 0 where
  pub costs : IsCostList g list.costs
  pub count : length list.values.items ≡ cells_in g.size
  pub cells : AreCells list.values.items
  pub nearest : AreNearest g.size g.sources g.friction g.limit (list_cells g.size list)
