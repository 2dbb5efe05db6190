-- Values of bands of rows that come one below the other, put right where bands meet.
use Rattle.std.specs.Prelude.{◌≡◌, ◌≢◌, ◌⊎◌, ℕ, suc, ◌+◌, ◌*◌, ◌<◌, true, ℤ, List, length, Option}
use Rattle.map_nums.specs.Grids.{Cells, cell_at, cells_in}
use Rattle.layer_tiles.specs.Cells.{IsCell, AreCells}
use Rattle.tile_work.specs.PlaceSets.{PlaceSetState}
use Rattle.map_defs.specs.Nearest.{StepsTo}
use Rattle.friction_spread.specs.Costs.{net_of}
use Rattle.friction_spread.specs.Flat.{costs_of}
use Rattle.friction_spread.specs.Joins.{IsAtSeam}
use Rattle.friction_spread.specs.declared.bands.CostBand.{CostBand}
use Rattle.friction_neighbor.specs.Fields.{FieldState, cost_at, own_at}
use Rattle.friction_neighbor.specs.Gathers.{IsLeastHere}
use Rattle.friction_neighbor.specs.Mending.{IsMending, Waits}
use Rattle.friction_neighbor.specs.Puts.{is_marked, AreWaiting, ArePut, RoundMarked}
use Rattle.friction_neighbor.specs.Repairs.{wanted_at}

-- ---- values in a list

-- the values are on their way from old ones
pub record IsListRepair (f : FieldState) (old values : Cells) (seen : PlaceSetState) (entries : List (ℕ × ℕ)) : Type 0 where
  pub size : seen.size ≡ f.ground.size
  pub count : length values ≡ cells_in f.ground.size
  pub cells : AreCells values
  pub waiting : AreWaiting f entries
  pub mending : IsMending (net_of f.ground) (cost_at f) (own_at f) (wanted_at f) (cell_at old) (cell_at values) (is_marked seen) entries

-- a place has its least value now; if that is another one, the dearer places near are marked
pub record IsListDealt (f : FieldState) (at : ℕ) (old new : Cells) (entries : List (ℕ × ℕ)) (seen : PlaceSetState) (entries' : List (ℕ × ℕ)) (seen' : PlaceSetState) : Type 0 where
  pub value : Option ℤ
  pub least : IsLeastHere f old at value
  pub cell : IsCell value
  pub here : cell_at new at ≡ value
  pub other : (j : ℕ) → j ≢ at → cell_at new j ≡ cell_at old j
  pub put : ArePut f entries seen entries' seen'
  pub behind : (cell_at old at ≡ value) ⊎ RoundMarked f (suc (cost_at f at)) seen' at

-- ---- bands

-- places of a band that have another cost in the map: all near them are marked
abbrev pub AreMovedMarked : FieldState → ℕ → CostBand → PlaceSetState → Type 0
AreMovedMarked f first band seen = (k : ℕ) → k < band.rows * f.ground.size.columns → cost_at f (first * f.ground.size.columns + k) ≢ costs_of f.ground band.costs.items (band.above * f.ground.size.columns + k) → RoundMarked f 0 seen (first * f.ground.size.columns + k)

-- and so are the rows beside another band
pub record AreBandMarked (f : FieldState) (first end : ℕ) (band : CostBand) (seen : PlaceSetState) : Type 0 where
  pub seams : (i : ℕ) → i < cells_in f.ground.size → IsAtSeam f.ground.size first end i → is_marked seen i ≡ true
  pub moved : AreMovedMarked f first band seen

-- the values of the rows before `row`, where each place waits or has its least value, by steps from those rows
pub record AreReadyTo (f : FieldState) (row : ℕ) (values : Cells) (entries : List (ℕ × ℕ)) (seen : PlaceSetState) : Type 0 where
  pub size : seen.size ≡ f.ground.size
  pub count : length values ≡ row * f.ground.size.columns
  pub cells : AreCells values
  pub waiting : AreWaiting f entries
  pub waits : (i : ℕ) → is_marked seen i ≡ true → Waits (cost_at f) entries i
  pub each : (i : ℕ) → i < row * f.ground.size.columns → (is_marked seen i ≡ true) ⊎ (IsLeastHere f values i (cell_at values i) × ((j : ℕ) → StepsTo (net_of f.ground) (cost_at f) j i → j < row * f.ground.size.columns))
