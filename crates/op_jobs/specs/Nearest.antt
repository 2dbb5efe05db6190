-- Nearest-source statements: what is kept of them, and what is made.
use Rattle.std.specs.Prelude.{◌≡◌, ℕ, ◌≤◌, [], ◌∷◌, Option, Some, None, IsSome}
use Rattle.map_nums.specs.Numbers.{greatest_value}
use Rattle.layer_tiles.specs.Changes.{ChangeState}
use Rattle.layer_tiles.specs.Layers.{LayerState, layer_of}
use Rattle.layer_tiles.specs.Patches.{PatchState, HoldsAll, patched}
use Rattle.tile_work.specs.Working.{before_of}
use Rattle.damage_sets.specs.Sets.{TileSetState}
use Rattle.friction_spread.specs.Costs.{GroundState}
use Rattle.friction_spread.specs.Lists.{list_cells as cost_cells}
use Rattle.friction_neighbor.specs.Bands.{IsNearestList}
use Rattle.friction_neighbor.specs.Results.{values_of, AreOldFor}
use Rattle.friction_neighbor.specs.declared.lists.NearestList.{NearestList}
use Rattle.friction_neighbor.specs.declared.repair.Nearest.{Nearest}
use Rattle.friction_neighbor.specs.declared.repair.NearestRepair.{NearestRepair}
use Rattle.map_waves.specs.Operands.{IsOperand}
use Rattle.map_waves.specs.declared.keeping.Aside.TheVariants.{Layer}
use Rattle.map_waves.specs.declared.keeping.Renewal.{Renewal}
use Rattle.map_waves.specs.declared.keeping.Renewal.TheVariants.{Anew, Patched}
use Rattle.map_waves.specs.declared.keeping.Kept.{Kept}
use Rattle.map_waves.specs.declared.keeping.Made.{Made}
use Rattle.op_jobs.specs.Beside.{AreCosts, costs_at}
use Rattle.op_jobs.specs.Owning.{reached}
use Rattle.damage_sets.specs.Counted.{count_any}
use Rattle.op_jobs.specs.declared.beside.Beside.{Beside}
use Rattle.op_jobs.specs.declared.lists.FreshLayer.{FreshLayer}
use Rattle.op_jobs.specs.declared.lists.LayerList.TheVariants.{Nearest as NearestOf}

-- costs stand beside what is kept
abbrev pub HasCosts : Option (Kept Beside) → Type 0
HasCosts None = Unit {0}
HasCosts (Some k) = IsSome (costs_at k.beside)

-- the operands of a statement, the layers that were right for them before, and the tiles in which an operand changed, all of them where there were no layers
pub record AreHanded (sources friction : ChangeState) (limit : ℕ) (old : Option Nearest) (touched : TileSetState) : Type 0 where
  pub first : IsOperand sources.size sources
  pub second : IsOperand sources.size friction
  pub low : limit ≤ greatest_value
  pub right : AreOldFor sources friction limit old
  pub tiles : touched ≡ reached 0 sources.size (before_of (values_of old)) (sources ∷ friction ∷ [])

-- a patch of the layer's size; of all tiles where there is none
abbrev pub CanTake : Option LayerState → PatchState → Type 0
CanTake None patch = HoldsAll patch
CanTake (Some l) patch = patch.size ≡ l.size

-- the tiles of a patch are to be put into the layer that is there; where there is none, they are one
abbrev pub costs_made : Option LayerState → PatchState → Renewal Beside
costs_made None patch = Anew (Layer (layer_of patch.size (patched patch.size [] patch.tiles) 0))
costs_made (Some l) patch = Patched patch

-- the numbers of nearest sources that changed, the costs that did, and the tiles that an operand, a number or a cost changed in
pub record IsNearestMade (touched : TileSetState) (old : Option LayerState) (repair : NearestRepair) (m : Made Beside) : Type 0 where
  pub patch : m.patch ≡ repair.value
  pub beside : m.beside ≡ costs_made old repair.cost
  pub evaluated : m.evaluated ≡ count_any touched repair.value (Some repair.cost)
  pub worked : m.worked ≡ repair.worked

-- the numbers of a ground's nearest sources in a list, the layer of its least costs beside it, and the work that they are
pub record IsNearestFresh (g : GroundState) (fresh : FreshLayer) : Type 0 where
  pub numbers : NearestList
  pub list_is : fresh.list ≡ NearestOf numbers
  pub are : IsNearestList g numbers
  pub beside_is : AreCosts g.size (cost_cells g.size numbers.costs) fresh.beside
  pub work_is : fresh.worked ≡ numbers.costs.worked
