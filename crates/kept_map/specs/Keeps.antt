-- What a map keeps at every moment.
use Rattle.std.specs.Prelude.{◌≡◌, ℕ, ◌≤◌, List, length, count_by, false, Some, None, is_some, slice_get, position, bytes_eq, IsTrue}
use Rattle.std.specs.List.{All, IsDistinct}
use Rattle.map_nums.specs.Grids.{IsSize}
use Rattle.map_words.specs.Names.{is_plain}
use Rattle.map_defs.specs.Ops.{Name}
use Rattle.map_defs.specs.Nodes.{find_node}
use Rattle.statement_parser.specs.Formed.{IsWritten, IsProcedure}
use Rattle.statement_parser.specs.Views.{op_view, written_view}
use Rattle.statement_parser.specs.declared.op.Op.{Op as Given}
use Rattle.procedure_expand.specs.declared.flat.Flat.{Flat}
use Rattle.layer_tiles.specs.Layers.{LayerState, IsLayer}
use Rattle.map_edits.specs.LayerDefs.{by_op, layers, find_making, nodes_of}
use Rattle.map_edits.specs.LayerChanges.{operands_in}
use Rattle.map_edits.specs.EngineStates.{EngineState}
use Rattle.map_edits.specs.WholeStates.{cells_of}
use Rattle.map_edits.specs.Faults.{fault_of}
use Rattle.map_edits.specs.Limits.{is_source, is_flat, most_sources, most_flats}
use Rattle.map_edits.specs.GroupLaws.{IsLawful}
use Rattle.map_waves.specs.declared.keeping.Kept.{Kept}
use Rattle.map_waves.specs.declared.plans.Step.{Step}
use Rattle.edit_plans.specs.Planned.{is_source_node, IsPlanned}
use Rattle.edit_plans.specs.declared.planning.Planned.{Planned}
use Rattle.op_jobs.specs.Beside.{suits}
use Rattle.op_jobs.specs.Ranges.{HasRanges}
use Rattle.op_jobs.specs.declared.beside.Beside.{Beside}
use Rattle.kept_map.specs.Groups.{groups_of}
use Rattle.kept_map.specs.Maps.{entries_in, names_in, seen}
use Rattle.kept_map.specs.Flats.{flats_kept}
use Rattle.kept_map.specs.declared.maps.Item.{Item}
use Rattle.kept_map.specs.declared.maps.Item.TheVariants.{Source, Statement}
use Rattle.kept_map.specs.declared.maps.Sources.{Sources}
use Rattle.kept_map.specs.declared.maps.KeptMap.{KeptMap}

-- ---- names

abbrev pub IsItem : Item → Type 0
IsItem Source = Unit {0}
IsItem (Statement written flats) = IsWritten (written_view written) × All (λ (f : Flat). HasRanges (op_view f.op)) flats.items

-- a plain name, and a statement that is formed
abbrev pub IsNamed : List ℕ × Item → Type 0
IsNamed e = IsTrue (is_plain e.0) × IsItem e.1

-- ---- sources

-- the sources are these names, each with a layer of the map's size
pub record AreKeptSources (s : EngineState) (sources : Sources) : Type 0 where
  pub stand : (n : Name) → is_some (position (bytes_eq n) sources.names.keys) ≡ is_source_node (find_node (nodes_of s.entries) n)
  pub apart : IsDistinct bytes_eq sources.names.keys
  pub count : length sources.layers.items ≡ length sources.names.keys
  pub whole : All (λ (l : LayerState). (l.size ≡ s.size) × IsLayer l) sources.layers.items

-- ---- statements

-- what is kept of a statement
pub record IsKeptStep (s : EngineState) (n : Name) (x : Step Given) (own : Kept Beside) : Type 0 where
  pub making : find_making (layers s.entries) n ≡ Some (by_op (op_view x.op))
  pub ranges : HasRanges (op_view x.op)
  pub written : x.written ≡ false
  pub value : cells_of s n ≡ Some own.layer.cells
  pub size : own.layer.size ≡ s.size
  pub whole : IsLayer own.layer
  pub beside : suits s.size (op_view x.op) (operands_in s (op_view x.op)) own.beside

-- the plan is that of the state, at rest, and its layers are the statements' grids
pub record AreKeptSteps (s : EngineState) (sources : List Name) (planned : Planned) (kept : List (Kept Beside)) : Type 0 where
  pub planned_are : IsPlanned (nodes_of s.entries) sources (flats_kept planned) planned.names.keys planned.names.keys planned.steps.items
  pub count : length kept ≡ length planned.steps.items
  pub each : (k : ℕ) (n : Name) (x : Step Given) (own : Kept Beside) → slice_get planned.names.keys k ≡ Some n → slice_get planned.steps.items k ≡ Some x → slice_get kept k ≡ Some own → IsKeptStep s n x own

-- ---- all of it

pub record IsKept (m : KeptMap) : Type 0 where
  pub size : IsSize m.extent
  pub named : All IsNamed m.names.entries
  pub formed : All IsProcedure m.procedures
  pub lawful : IsLawful (seen m)
  pub sources_few : count_by is_source (entries_in m) ≤ most_sources
  pub flats_few : count_by is_flat (layers (entries_in m)) ≤ most_flats
  pub graph_is : m.graph ≡ groups_of (entries_in m)
  pub faultless : fault_of (names_in m) ≡ None
  pub sources : AreKeptSources (names_in m) m.sources
  pub statements : AreKeptSteps (names_in m) m.sources.names.keys m.planned m.kept.items
