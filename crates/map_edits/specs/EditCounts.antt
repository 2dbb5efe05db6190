-- What an edit counts, summed over layers that are defined after it.
use Rattle.std.specs.Prelude.{ℕ, List, filter, length, sum_by, is_some}
use Rattle.map_edits.specs.LayerDefs.{LayerDef, layers}
use Rattle.map_edits.specs.EngineStates.{EngineState, value_of}
use Rattle.map_edits.specs.Touches.{Touch}
use Rattle.map_edits.specs.LayerChanges.{changed_of, damage_of, work_of}

pub record Counts : Type 0 where
  -- tiles
  pub changed : ℕ
  pub evaluated : ℕ
  pub worked : ℕ

-- in order of place
abbrev pub defined_layers : EngineState → List LayerDef
defined_layers s = filter (λ (l : LayerDef). is_some (value_of s l.name)) (layers s.entries)

abbrev pub counts_over : Touch → EngineState → EngineState → List LayerDef → Counts
counts_over touch s t ls = record {
  changed = sum_by (λ (l : LayerDef). length (changed_of s t l.name)) ls;
  evaluated = sum_by (λ (l : LayerDef). length (damage_of touch s t l)) ls;
  worked = sum_by (λ (l : LayerDef). work_of touch s t l) ls;
}

-- over all of them
abbrev pub counts_of : Touch → EngineState → EngineState → Counts
counts_of touch s t = counts_over touch s t (defined_layers t)
