-- What is kept of a map, seen as the whole state of the map machine.
use Rattle.std.specs.Prelude.{ℕ, List, [], ◌++◌, map, Option, Some, None, option_map, unwrap_or, slice_get, position, bytes_eq}
use Rattle.std.specs.Option.{option_or}
use Rattle.std.specs.Borrow.{Bor}
use Rattle.edit_plans.specs.Planned.{added_names}
use Rattle.map_nums.specs.Grids.{Size, Grid}
use Rattle.map_defs.specs.Ops.{Name}
use Rattle.layer_tiles.specs.Layers.{LayerState}
use Rattle.map_waves.specs.declared.keeping.Kept.{Kept}
use Rattle.op_jobs.specs.declared.beside.Beside.{Beside}
use Rattle.statement_parser.specs.Views.{written_view}
use Rattle.procedure_expand.specs.Flats.{flats_view}
use Rattle.map_edits.specs.Entries.{Def, source, statement, Entry}
use Rattle.map_edits.specs.LayerDefs.{LayerDef}
use Rattle.map_edits.specs.EngineStates.{EngineState}
use Rattle.map_edits.specs.EditCounts.{defined_layers}
use Rattle.map_edits.specs.WholeStates.{Stamps, WholeState}
use Rattle.kept_map.specs.declared.maps.Item.{Item}
use Rattle.kept_map.specs.declared.maps.Item.TheVariants.{Source, Statement}
use Rattle.kept_map.specs.declared.maps.Sources.{Sources}
use Rattle.kept_map.specs.declared.maps.KeptMap.{KeptMap}

abbrev pub grid_of : LayerState → Grid
grid_of l = record { size = l.size; cells = l.cells }

-- ---- layers by name

abbrev pub at_place : {A : Type 0} → List A → Option ℕ → Option A
at_place {A} xs None = None
at_place {A} xs (Some i) = slice_get xs i

-- the layer of a source
abbrev pub source_in : Sources → Name → Option LayerState
source_in sources n = at_place sources.layers.items (position (bytes_eq n) sources.names.keys)

-- what is kept of a statement that is defined
abbrev pub kept_in : KeptMap → Name → Option (Kept Beside)
kept_in m n = at_place m.kept.items (position (bytes_eq n) m.planned.names.keys)

-- of a source, or of a statement
abbrev pub layer_in : KeptMap → Name → Option LayerState
layer_in m n = option_or (source_in m.sources n) (option_map (λ (k : Kept Beside). k.layer) (kept_in m n))

-- ---- the state

-- the grid of a source; each source has a layer
abbrev pub source_grid : Size → Option LayerState → Grid
source_grid size None = record { size = size; cells = [] }
source_grid size (Some l) = grid_of l

abbrev pub def_by : Size → Option LayerState → Item → Def
def_by size l Source = source (source_grid size l)
def_by size l (Statement written flats) = statement (written_view written) (flats_view flats.items)

abbrev pub entry_by : Size → (Name → Option LayerState) → List ℕ × Item → Entry
entry_by size layers e = record { name = e.0; def = def_by size (layers e.0) e.1 }

abbrev pub entries_by : Size → (Name → Option LayerState) → List (List ℕ × Item) → List Entry
entries_by size layers items = map (entry_by size layers) items

abbrev pub entries_in : KeptMap → List Entry
entries_in m = entries_by m.extent (source_in m.sources) m.names.entries

abbrev pub names_in : KeptMap → EngineState
names_in m = record { size = m.extent; entries = entries_in m; number = m.number }

abbrev pub stamps_seen : (Name → Option LayerState) → EngineState → List Stamps
stamps_seen layers s = map (λ (l : LayerDef). record { name = l.name; stamps = unwrap_or (option_map (λ (k : LayerState). k.stamps) (layers l.name)) [] }) (defined_layers s)

abbrev pub seen : KeptMap → WholeState
seen m = record { names = names_in m; procedures = m.procedures; labels = m.labels; symbols = m.symbols; stamps = stamps_seen (layer_in m) (names_in m) }

-- the names of the sources, and one more
abbrev pub names_with : Sources → Option (Bor (List ℕ)) → List Name
names_with sources added = sources.names.keys ++ added_names (option_map (λ n. n.now) added)
