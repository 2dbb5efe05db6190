-- What of an edit is put in place.
use Rattle.std.specs.Prelude.{◌≡◌, ◌⊎◌, ℕ, ◌≤◌, List, [], ◌∷◌, ◌++◌, take, drop, length, map, position, Option, Some, None, slice_get, bytes_eq}
use Rattle.std.specs.List.{IsDistinct}
use Rattle.std.specs.Map.{lookup, remove_entry}
use Rattle.indexmap.specs.IndexMap.{insert_entry}
use Rattle.map_nums.specs.Counts.{raised}
use Rattle.map_defs.specs.Ops.{Name}
use Rattle.layer_tiles.specs.Layers.{LayerState, layer_of}
use Rattle.statement_graph.specs.Groups.{Group}
use Rattle.map_waves.specs.Placing.{ArePlaced}
use Rattle.edit_plans.specs.declared.planning.Planned.{Planned}
use Rattle.kept_map.specs.Commits.{Rests}
use Rattle.kept_map.specs.Lowering.{IsTakenOut}
use Rattle.kept_map.specs.Maps.{source_in}
use Rattle.kept_map.specs.declared.maps.Item.{Item}
use Rattle.kept_map.specs.declared.maps.Item.TheVariants.{Source, Statement}
use Rattle.kept_map.specs.declared.maps.KeptMap.{KeptMap}
use Rattle.kept_map.specs.declared.repairing.Prepared.{Prepared}
use Rattle.live_engine.specs.declared.drafts.Change.{Change}
use Rattle.live_engine.specs.declared.drafts.Change.TheVariants as changes

-- the statements that were prepared, their plan and their graph; one more edit is counted
pub record ArePut (old new : KeptMap) (graph : List Group) (planned : Planned) (prepared : Prepared) : Type 0 where
  pub others : new ≡ record old { graph = graph; planned = new.planned; kept = new.kept; number = raised old.number 1 }
  pub plan_names : new.planned.names.keys ≡ planned.names.keys
  pub rests : Rests planned.steps.items new.planned.steps.items
  pub kept_count : length new.kept.items ≡ length planned.steps.items
  pub placed : ArePlaced old.extent (raised old.number 1) (map (λ k. Some k) old.kept.items) planned.steps.items prepared.made.items new.kept.items

-- ---- names

-- an item in its own place, or after all others; or at a place
abbrev pub seated_item : List (List ℕ × Item) → Option ℕ → List ℕ → Item → List (List ℕ × Item)
seated_item es None n item = insert_entry bytes_eq es n item
seated_item es (Some k) n item = take k es ++ (n, item) ∷ drop k es

-- a place among the names is told for a name alone that isn't there
abbrev pub CanSeat : List (List ℕ × Item) → Name → Option ℕ → Type 0
CanSeat es n None = Unit {0}
CanSeat es n (Some k) = (lookup (bytes_eq n) es ≡ None) × (k ≤ length es)

-- a source at a place or after all names; all its tiles have the map's number for their stamp
pub record IsSourcePut (old new : KeptMap) (name : Name) (layer : LayerState) (place : Option ℕ) : Type 0 where
  pub others : new ≡ record old { names = new.names; sources = new.sources }
  pub items : new.names.entries ≡ seated_item old.names.entries place name Source
  pub names : new.sources.names.keys ≡ old.sources.names.keys ++ name ∷ []
  pub apart : IsDistinct bytes_eq new.sources.names.keys
  pub layers : new.sources.layers.items ≡ old.sources.layers.items ++ layer_of layer.size layer.cells old.number ∷ []

-- a name is taken out, with its layer where it is a source
pub record IsNameOut (old new : KeptMap) (name : Name) : Type 0 where
  pub others : new ≡ record old { names = new.names; sources = new.sources; planned = new.planned }
  pub items : new.names.entries ≡ remove_entry (bytes_eq name) old.names.entries
  pub plan_names : new.planned.names.keys ≡ old.planned.names.keys
  pub taken : IsTakenOut (position (bytes_eq name) old.sources.names.keys) old.sources new.sources old.planned.steps.items new.planned.steps.items
  pub apart : IsDistinct bytes_eq new.sources.names.keys

-- what stands for a name is put in place
abbrev pub IsEntered : KeptMap → KeptMap → Name → Change → Type 0
IsEntered old new n (changes.Source key layer place) = IsSourcePut old new n layer place
IsEntered old new n (changes.Statement written flats place) = (new ≡ record old { names = new.names }) × (new.names.entries ≡ seated_item old.names.entries place n (Statement written flats))
IsEntered old new n changes.Out = IsNameOut old new n

-- ---- what stood there before

-- an item that was taken out, with the layer where it is a source, as what stands for its name at its place
abbrev pub stood_as : Item → Option (List ℕ × LayerState) → ℕ → Change
stood_as (Statement written flats) taken k = changes.Statement written flats (Some k)
stood_as Source (Some (key, layer)) k = changes.Source key layer (Some k)
stood_as Source None k = changes.Out

-- what stood for a name of a map; a source has a layer
abbrev pub StoodFor : KeptMap → Name → Change → Type 0
StoodFor m n (changes.Source key layer (Some k)) = (slice_get m.names.entries k ≡ Some (n, Source)) × (key ≡ n) × (source_in m.sources n ≡ Some layer)
StoodFor m n (changes.Statement written flats (Some k)) = slice_get m.names.entries k ≡ Some (n, Statement written flats)
StoodFor m n changes.Out = (lookup (bytes_eq n) m.names.entries ≡ None) ⊎ (position (bytes_eq n) m.sources.names.keys ≡ None) × (lookup (bytes_eq n) m.names.entries ≡ Some Source)
StoodFor m n change = ⊥

-- what a statement takes the place of
abbrev pub replaced_by : Option Item → Change
replaced_by (Some (Statement written flats)) = changes.Statement written flats None
replaced_by (Some Source) = changes.Out
replaced_by None = changes.Out

-- what stood for a name before something else does
abbrev pub IsStandBefore : KeptMap → Name → Change → Change → Type 0
IsStandBefore m n (changes.Source key layer place) before = before ≡ changes.Out
IsStandBefore m n (changes.Statement written flats place) before = before ≡ replaced_by (lookup (bytes_eq n) m.names.entries)
IsStandBefore m n changes.Out before = StoodFor m n before
