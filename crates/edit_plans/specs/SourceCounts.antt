-- What an edit counts, apart by sources and statements.
use Rattle.std.specs.Prelude.{ℕ, ◌+◌, Bool, true, false, filter, length, Option, Some, None}
use Rattle.map_defs.specs.Ops.{Name}
use Rattle.map_edits.specs.LayerDefs.{Making, given_grid, by_op, LayerDef, layers, find_making}
use Rattle.map_edits.specs.EngineStates.{EngineState}
use Rattle.map_edits.specs.Touches.{Touch, nothing, whole, within, source_damage}
use Rattle.map_edits.specs.LayerChanges.{changed_of}
use Rattle.map_edits.specs.EditCounts.{Counts, defined_layers, counts_over}
use Rattle.map_waves.specs.Plans.{Plan, changed_to, evaluated_to, worked_to}

abbrev pub no_counts : Counts
no_counts = record { changed = 0; evaluated = 0; worked = 0 }

abbrev pub joined : Counts → Counts → Counts
joined a b = record { changed = a.changed + b.changed; evaluated = a.evaluated + b.evaluated; worked = a.worked + b.worked }

abbrev pub is_given : Making → Bool
is_given (given_grid grid) = true
is_given (by_op op) = false

-- over the sources that are there after
abbrev pub counts_of_sources : Touch → EngineState → EngineState → Counts
counts_of_sources touch s t = counts_over touch s t (filter (λ (l : LayerDef). is_given l.making) (defined_layers t))

-- over the first statements of a plan
abbrev pub counts_to_place : Plan → ℕ → Counts
counts_to_place p k = record { changed = changed_to p k; evaluated = evaluated_to p k; worked = worked_to p k }

-- of one source
abbrev pub counts_of_source : Touch → EngineState → EngineState → Name → Option Making → Counts
counts_of_source touch s t n None = no_counts
counts_of_source touch s t n (Some (by_op op)) = no_counts
counts_of_source touch s t n (Some (given_grid grid)) = record { changed = length (changed_of s t n); evaluated = length (source_damage t.size touch n); worked = 0 }

-- of the source that is touched, where it is one
abbrev pub counts_of_touched : Touch → EngineState → EngineState → Counts
counts_of_touched nothing s t = no_counts
counts_of_touched (whole n) s t = counts_of_source (whole n) s t n (find_making (layers t.entries) n)
counts_of_touched (within n r) s t = counts_of_source (within n r) s t n (find_making (layers t.entries) n)
