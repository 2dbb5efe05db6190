-- An edit of a name before it is carried out: what stands for the name afterwards, the graph, and the state that the edit would make.
use Rattle.std.specs.Prelude.{◌≡◌, ℕ, ◌<◌, ◌≤◌, List, [], ◌∷◌, ◌++◌, length, count_by, position, Option, Some, None, unwrap_or, Result, Ok, Err, bytes_eq, IsTrue}
use Rattle.std.specs.List.{All, IsDistinct}
use Rattle.indexmap.specs.IndexMap.{spare}
use Rattle.map_nums.specs.Grids.{Size, Grid}
use Rattle.map_words.specs.Names.{is_plain}
use Rattle.map_defs.specs.Ops.{Name}
use Rattle.layer_tiles.specs.Layers.{LayerState, IsLayer}
use Rattle.layer_tiles.specs.Tiles.{tiles_in}
use Rattle.statement_parser.specs.Formed.{IsWritten}
use Rattle.statement_parser.specs.Views.{op_view, written_view}
use Rattle.statement_parser.specs.declared.line.Written.{Written as Given}
use Rattle.procedure_expand.specs.declared.flat.Flat.{Flat}
use Rattle.procedure_expand.specs.Flats.{flats_view}
use Rattle.statement_graph.specs.Groups.{Group}
use Rattle.op_jobs.specs.Ranges.{HasRanges}
use Rattle.map_edits.specs.Entries.{Def, source, statement, Entry, find_def, put_entry, drop_entry}
use Rattle.map_edits.specs.EntriesAt.{entry_at}
use Rattle.map_edits.specs.LayerDefs.{layers}
use Rattle.map_edits.specs.EditCounts.{Counts}
use Rattle.map_edits.specs.Edits.{with_entries}
use Rattle.map_edits.specs.Marks.{Mark}
use Rattle.map_edits.specs.Attempts.{attempted}
use Rattle.map_edits.specs.Touches.{whole, touch_of}
use Rattle.map_edits.specs.Limits.{is_source, is_flat, most_sources, most_flats}
use Rattle.map_edits.specs.GroupLaws.{IsLawful, IsSaid}
use Rattle.map_edits.specs.WholeStates.{WholeState}
use Rattle.map_edits.specs.WholeEdits.{WholeEdit}
use Rattle.map_waves.specs.declared.plans.Shift.{Shift}
use Rattle.edit_plans.specs.SourceCounts.{joined}
use Rattle.edit_plans.specs.declared.planning.Planned.{Planned}
use Rattle.kept_map.specs.Groups.{groups_of}
use Rattle.kept_map.specs.Maps.{grid_of, entries_in, seen}
use Rattle.kept_map.specs.Edits.{IsSetUp}
use Rattle.kept_map.specs.Repairs.{IsPreparedFor}
use Rattle.kept_map.specs.Rooms.{HasNextRoom}
use Rattle.kept_map.specs.declared.maps.KeptMap.{KeptMap}
use Rattle.kept_map.specs.declared.repairing.Prepared.{Prepared}
use Rattle.live_engine.specs.Accepts.{Refuses}
use Rattle.live_engine.specs.Puts.{CanSeat}
use Rattle.live_engine.specs.declared.drafts.Change.{Change}
use Rattle.live_engine.specs.declared.drafts.Change.TheVariants.{Source, Statement, Out}
use Rattle.live_engine.specs.declared.drafts.Draft.{Draft}
use Rattle.live_engine.specs.declared.edits.Refusal.{Refusal}

-- ---- the state after

-- a name in its own place, or after all others; or at a place
abbrev pub seated : List Entry → Option ℕ → Name → Def → List Entry
seated es None n d = put_entry es n d
seated es (Some k) n d = entry_at es k n d

abbrev pub entries_after : List Entry → Name → Change → List Entry
entries_after es n (Source key layer place) = seated es place n (source (grid_of layer))
entries_after es n (Statement written flats place) = seated es place n (statement (written_view written) (flats_view flats.items))
entries_after es n Out = drop_entry es n

-- with these labels and symbols, where they are others
abbrev pub state_after : WholeState → Name → Change → Option (List Mark) → Option (List Mark) → WholeState
state_after s n change labels symbols = record s { names = with_entries s.names (entries_after s.names.entries n change); labels = unwrap_or labels s.labels; symbols = unwrap_or symbols s.symbols }

abbrev pub draft_state : WholeState → Draft → WholeState
draft_state s d = state_after s d.name d.change d.labels d.symbols

-- the names of the sources
abbrev pub sources_after : List Name → Name → Change → List Name
sources_after keys n (Source key layer place) = keys ++ n ∷ []
sources_after keys n (Statement written flats place) = keys
sources_after keys n Out = keys

-- the flat statements that the edit writes
abbrev pub flats_written : Change → List Flat
flats_written (Source key layer place) = []
flats_written (Statement written flats place) = flats.items
flats_written Out = []

-- all tiles of a new source count beside those of the statements
abbrev pub counts_with : Size → Change → Counts → Counts
counts_with size (Source key layer place) counts = joined (record { changed = tiles_in size; evaluated = tiles_in size; worked = 0 }) counts
counts_with size (Statement written flats place) counts = counts
counts_with size Out counts = counts

-- ---- drafts

-- a place among the names is told for a name alone that isn't there
abbrev pub IsSeat : List Entry → Name → Option ℕ → Type 0
IsSeat es n None = Unit {0}
IsSeat es n (Some k) = (find_def es n ≡ None) × (k ≤ length es)

-- a name that isn't there, and a layer of the map's size
pub record IsNewSource (size : Size) (es : List Entry) (n key : Name) (layer : LayerState) (place : Option ℕ) : Type 0 where
  pub same : key ≡ n
  pub absent : find_def es n ≡ None
  pub sized : layer.size ≡ size
  pub whole : IsLayer layer
  pub seat : IsSeat es n place

-- a statement that is formed, of a name that is no source's
pub record IsNextStatement (es : List Entry) (n : Name) (written : Given) (flats : List Flat) (place : Option ℕ) : Type 0 where
  pub formed : IsWritten (written_view written)
  pub ranges : All (λ (f : Flat). HasRanges (op_view f.op)) flats
  pub other : (grid : Grid) → find_def es n ≡ Some (source grid) → ⊥
  pub seat : IsSeat es n place

abbrev pub IsFit : Size → List Entry → Name → Change → Type 0
IsFit size es n (Source key layer place) = IsNewSource size es n key layer place
IsFit size es n (Statement written flats place) = IsNextStatement es n written flats.items place
IsFit size es n Out = Unit {0}

-- the edit can be tried, its fault apart
pub record IsDraftOf (m : KeptMap) (e : WholeEdit) (n : Name) (change : Change) (graph : List Group) (labels symbols : Option (List Mark)) : Type 0 where
  pub plain : IsTrue (is_plain n)
  pub said : IsSaid (seen m) e
  pub touch : touch_of e ≡ whole n
  pub attempt : attempted (seen m) e ≡ Ok (state_after (seen m) n change labels symbols)
  pub lawful : IsLawful (state_after (seen m) n change labels symbols)
  pub fits : IsFit m.extent (entries_in m) n change
  pub graph_is : graph ≡ groups_of (entries_after (entries_in m) n change)
  pub sources_few : count_by is_source (entries_after (entries_in m) n change) ≤ most_sources
  pub flats_few : count_by is_flat (layers (entries_after (entries_in m) n change)) ≤ most_flats

abbrev pub IsDraft : KeptMap → WholeEdit → Draft → Type 0
IsDraft m e d = IsDraftOf m e d.name d.change d.graph d.labels d.symbols

-- or why it can't
abbrev pub IsDrafted : KeptMap → WholeEdit → Result Draft Refusal → Type 0
IsDrafted m e (Ok d) = IsDraft m e d
IsDrafted m e (Err refusal) = Refuses (seen m) (seen m) e refusal

-- ---- repaired

-- the statements are planned and repaired
pub record IsRepairedOf (m : KeptMap) (e : WholeEdit) (n : Name) (change : Change) (labels symbols : Option (List Mark)) (planned : Planned) (prepared : Prepared) : Type 0 where
  pub shift : Shift
  pub set_up : IsSetUp m e (state_after (seen m) n change labels symbols) shift (sources_after m.sources.names.keys n change)
  pub ready : IsPreparedFor m e (state_after (seen m) n change labels symbols) shift (sources_after m.sources.names.keys n change) planned.names.keys planned.steps.items prepared

abbrev pub IsRepairedFor : KeptMap → WholeEdit → Draft → Planned → Prepared → Type 0
IsRepairedFor m e d planned prepared = IsRepairedOf m e d.name d.change d.labels d.symbols planned prepared

-- ---- room

abbrev pub HasRoomFor : KeptMap → Change → Type 0
HasRoomFor m (Source key layer place) = HasNextRoom m
HasRoomFor m (Statement written flats place) = 0 < spare m.names
HasRoomFor m Out = Unit {0}

-- a source that isn't there, or one that can be taken out
abbrev pub CanEnter : KeptMap → Name → Change → Type 0
CanEnter m n (Source key layer place) = HasNextRoom m × (key ≡ n) × (position (bytes_eq n) m.sources.names.keys ≡ None) × CanSeat m.names.entries n place
CanEnter m n (Statement written flats place) = (0 < spare m.names) × CanSeat m.names.entries n place
CanEnter m n Out = IsDistinct bytes_eq m.sources.names.keys × (length m.sources.layers.items ≡ length m.sources.names.keys)
