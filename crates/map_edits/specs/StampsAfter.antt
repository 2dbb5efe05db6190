-- The stamps after an edit.
use Rattle.std.specs.Prelude.{ℕ, ◌==◌, List, [], map, slice_index_or, unwrap_or, if◌then◌else◌}
use Rattle.std.specs.List.{list_any}
use Rattle.map_nums.specs.Tiles.{tiles}
use Rattle.map_defs.specs.Ops.{Name}
use Rattle.map_edits.specs.LayerDefs.{LayerDef}
use Rattle.map_edits.specs.WholeStates.{WholeState, stamps_of}
use Rattle.map_edits.specs.LayerChanges.{changed_of}
use Rattle.map_edits.specs.EditCounts.{defined_layers}

-- a tile that changed has the edit's number, another keeps its own
abbrev pub stamps_at : WholeState → WholeState → Name → List ℕ
stamps_at s t n = map (λ k. if list_any (λ j. j == k) (changed_of s.names t.names n) then t.names.number else slice_index_or (unwrap_or (stamps_of s.stamps n) []) k 0) (tiles t.names.size)

abbrev pub stamped : WholeState → WholeState → WholeState
stamped s t = record t { stamps = map (λ (l : LayerDef). record { name = l.name; stamps = stamps_at s t l.name }) (defined_layers t.names) }
