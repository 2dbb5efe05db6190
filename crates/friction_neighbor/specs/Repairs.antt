-- Values that are repaired, place by place.
use Rattle.std.specs.Prelude.{◌≡◌, ◌≢◌, ◌⊎◌, ℕ, suc, ◌+◌, ◌*◌, ◌<◌, ◌≤◌, ◌&&◌, not, Bool, true, ℤ, List, length, filter, Option, min}
use Rattle.std.specs.Int.{from_bool}
use Rattle.map_nums.specs.Grids.{Cells, cell_at, cells_in, places}
use Rattle.map_nums.specs.Tiles.{tiles}
use Rattle.map_defs.specs.Differences.{differs, tile_has}
use Rattle.map_defs.specs.Nearest.{AreNearest, nearest_grid}
use Rattle.layer_tiles.specs.Tallies.{TallyState, RisesBy}
use Rattle.layer_tiles.specs.Tiles.{tile_of}
use Rattle.tile_work.specs.PlaceSets.{PlaceSetState}
use Rattle.tile_work.specs.Working.{WorkState, is_copied}
use Rattle.friction_spread.specs.Costs.{net_of}
use Rattle.friction_spread.specs.Near.{IsFarFrom}
use Rattle.friction_neighbor.specs.Fields.{FieldState, cost_at, own_at}
use Rattle.friction_neighbor.specs.Gathers.{IsLeastHere}
use Rattle.friction_neighbor.specs.Mending.{IsMending}
use Rattle.friction_neighbor.specs.Puts.{is_marked, AreWaiting, ArePut, RoundMarked}
use Rattle.friction_neighbor.specs.Views.{ViewState}

-- the number of the nearest source of each place
abbrev pub wanted_at : FieldState → ℕ → Option ℤ
wanted_at f i = cell_at (nearest_grid f.ground.limit f.ground.size f.ground.sources f.ground.friction).cells i

abbrev pub AreWanted : FieldState → Cells → Type 0
AreWanted f values = (i : ℕ) → cell_at values i ≡ wanted_at f i

-- the values are on their way from old ones, and all places near one of a new cost were marked
pub record IsValueRepair (v : ViewState) (old values : Cells) (seen : PlaceSetState) (entries : List (ℕ × ℕ)) : Type 0 where
  pub size : seen.size ≡ v.field.ground.size
  pub waiting : AreWaiting v.field entries
  pub mending : IsMending (net_of v.field.ground) (cost_at v.field) (own_at v.field) (wanted_at v.field) (cell_at old) (cell_at values) (is_marked seen) entries
  pub round : (i : ℕ) → i < cells_in v.field.ground.size → differs v.was v.field.costs i ≡ true → RoundMarked v.field 0 seen i

-- the value of a place differs, and its cost does not
abbrev pub differs_alone : ViewState → Cells → Cells → ℕ → Bool
differs_alone v old values i = not (differs v.was v.field.costs i) && differs old values i

-- at how many places
abbrev pub alone : ViewState → Cells → Cells → ℕ
alone v old values = length (filter (differs_alone v old values) (places v.field.ground.size))

-- a place has its least value now; if that is another one, the dearer places near are marked, or its cost is new
pub record IsDealt (v : ViewState) (at : ℕ) (old new : Cells) (entries : List (ℕ × ℕ)) (seen : PlaceSetState) (entries' : List (ℕ × ℕ)) (seen' : PlaceSetState) (told : Bool) : Type 0 where
  pub value : Option ℤ
  pub least : IsLeastHere v.field old at value
  pub here : cell_at new at ≡ value
  pub other : (j : ℕ) → j ≢ at → cell_at new j ≡ cell_at old j
  pub put : ArePut v.field entries seen entries' seen'
  pub len : length entries' ≤ length entries + 9 * from_bool told
  pub behind : (cell_at old at ≡ value) ⊎ ((differs v.was v.field.costs at ≡ true) ⊎ RoundMarked v.field (suc (cost_at v.field at)) seen' at)
  pub told_is : told ≡ differs_alone v old new at

-- the place has another value than the least
abbrev pub IsDue : FieldState → Cells → ℕ → Type 0
IsDue f values at = (c : Option ℤ) × IsLeastHere f values at c × (cell_at values at ≢ c)

-- each copied tile has a place whose wanted value is not the old one
abbrev pub IsCaused : FieldState → Cells → WorkState → Type 0
IsCaused f old w = (t : ℕ) → is_copied w t ≡ true → (i : ℕ) × (i < cells_in f.ground.size) × (t ≡ tile_of f.ground.size i) × (cell_at old i ≢ wanted_at f i)

-- each place that is far from those of changed operands and of new costs has the least value among the old ones
abbrev pub AreLeastFar : ViewState → Cells → List ℕ → List ℕ → Type 0
AreLeastFar v old changed moved = (i : ℕ) → IsFarFrom v.field.ground.size changed i → IsFarFrom v.field.ground.size moved i → IsLeastHere v.field old i (cell_at old i)

-- what putting values right reads, where n places have a changed operand or a new cost: by the tiles of changed values, and by the places that are given their least value
abbrev pub ValuesReadWithin : ViewState → Cells → ℕ → TallyState → TallyState → Type 0
ValuesReadWithin v old n x y =
    (cells : Cells) → AreNearest v.field.ground.size v.field.ground.sources v.field.ground.friction v.field.ground.limit cells → RisesBy (2 * length (filter (tile_has v.field.ground.size (differs old cells)) (tiles v.field.ground.size)) + min 1 n) (328 * n + 288 * alone v old cells) x y
