-- An edit is put in place.
use Rattle.std.specs.Prelude.{◌≡◌, ℕ, ◌≤◌, List, length, map, count_by, false, Option, Some, slice_get}
use Rattle.std.specs.List.{All}
use Rattle.map_nums.specs.Counts.{raised}
use Rattle.map_defs.specs.Ops.{Name}
use Rattle.layer_tiles.specs.Layers.{LayerState}
use Rattle.statement_parser.specs.Formed.{IsProcedure}
use Rattle.statement_parser.specs.Views.{op_view}
use Rattle.statement_parser.specs.declared.op.Op.{Op as Given}
use Rattle.map_edits.specs.LayerDefs.{layers}
use Rattle.map_edits.specs.Limits.{is_source, is_flat, most_sources, most_flats}
use Rattle.map_edits.specs.WholeStates.{WholeState}
use Rattle.map_edits.specs.StampsAfter.{stamps_at}
use Rattle.map_waves.specs.Placing.{ArePlaced}
use Rattle.map_waves.specs.declared.keeping.Made.{Made}
use Rattle.map_waves.specs.declared.plans.Step.{Step}
use Rattle.op_jobs.specs.declared.beside.Beside.{Beside}
use Rattle.edit_plans.specs.PlansFor.{AreRefsFor}
use Rattle.kept_map.specs.Groups.{groups_of}
use Rattle.kept_map.specs.Maps.{source_in, names_in, seen}
use Rattle.kept_map.specs.Keeps.{IsNamed, AreKeptSources}
use Rattle.kept_map.specs.declared.maps.KeptMap.{KeptMap}

-- the steps as they rest between edits
pub record IsAtRest (k : ℕ) (x y : Step Given) : Type 0 where
  pub op : y.op ≡ x.op
  pub depth : y.depth ≡ x.depth
  pub kept : y.kept ≡ Some k
  pub written : y.written ≡ false

-- a step at rest, with the operands that it had
abbrev pub Rests : List (Step Given) → List (Step Given) → Type 0
Rests old new = (length new ≡ length old) × ((k : ℕ) (x : Step Given) → slice_get old k ≡ Some x → (y : Step Given) × (slice_get new k ≡ Some y) × IsAtRest k x y × (y.refs ≡ x.refs))

-- the map after an edit, of whose statements these were made
pub record IsCommitted (old new : KeptMap) (t : WholeState) (names : List Name) (steps : List (Step Given)) (made : List (Option (Made Beside))) : Type 0 where
  pub names_are : names_in new ≡ t.names
  pub procedures : new.procedures ≡ t.procedures
  pub labels : new.labels ≡ t.labels
  pub symbols : new.symbols ≡ t.symbols
  pub named : All IsNamed new.names.entries
  pub formed : All IsProcedure new.procedures
  pub sources_few : count_by is_source t.names.entries ≤ most_sources
  pub flats_few : count_by is_flat (layers t.names.entries) ≤ most_flats
  pub graph_is : new.graph ≡ groups_of t.names.entries
  pub sources : AreKeptSources t.names new.sources
  pub stamped : (n : Name) (l : LayerState) → source_in new.sources n ≡ Some l → l.stamps ≡ stamps_at (seen old) t n
  pub plan_names : new.planned.names.keys ≡ names
  pub plan_count : length new.planned.steps.items ≡ length steps
  pub rest : (k : ℕ) (x y : Step Given) → slice_get steps k ≡ Some x → slice_get new.planned.steps.items k ≡ Some y → IsAtRest k x y × AreRefsFor new.sources.names.keys names k (op_view x.op).terms y.refs.items
  pub kept_count : length new.kept.items ≡ length steps
  pub placed : ArePlaced old.extent (raised old.number 1) (map (λ k. Some k) old.kept.items) steps made new.kept.items
