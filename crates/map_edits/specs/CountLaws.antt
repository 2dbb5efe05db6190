-- Laws of what an edit counts and may read.
use Rattle.std.specs.Prelude.{◌≡◌, ℕ, ◌==◌, ◌≤◌, nat_le, false, ◌&&◌, List, [], filter, flat_map, length, sum_by, Some, is_some, Ok, Err}
use Rattle.std.specs.List.{range_with_len}
use Rattle.map_nums.specs.Grids.{Cells}
use Rattle.map_defs.specs.Ops.{Name, Op}
use Rattle.map_defs.specs.Nodes.{Node}
use Rattle.map_defs.specs.Depths.{depth_in}
use Rattle.map_edits.specs.LayerDefs.{by_op, LayerDef, layers, nodes_of}
use Rattle.map_edits.specs.EngineStates.{EngineState}
use Rattle.map_edits.specs.Refusals.{Refusal}
use Rattle.map_edits.specs.Laws.{HasNoCycle}
use Rattle.map_edits.specs.WholeStates.{WholeState, cells_of}
use Rattle.map_edits.specs.WholeEdits.{WholeEdit}
use Rattle.map_edits.specs.Attempts.{attempted}
use Rattle.map_edits.specs.Touches.{Touch, touch_of, is_whole}
use Rattle.map_edits.specs.LayerChanges.{operands_in, changed_of, damage_of, work_of}
use Rattle.map_edits.specs.EditCounts.{defined_layers, counts_of}
use Rattle.map_edits.specs.Counted.{Accepted, accept_counted}
use Rattle.map_edits.specs.Allowances.{Reads, no_reads, reads_for, layers_to, edit_reads}

pub record CountsNothing (touch : Touch) (s t : EngineState) (l : LayerDef) : Type 0 where
  pub changed : changed_of s t l.name ≡ []
  pub damage : damage_of touch s t l ≡ []
  pub work : work_of touch s t l ≡ 0

-- a statement that the edit didn't write, with its operands' and its own cells as before, counts nothing
abbrev pub UnchangedCountsNothing : Type 0
UnchangedCountsNothing = (touch : Touch) (s t : EngineState) (n : Name) (op : Op) (w : Cells) → is_whole t.entries touch n ≡ false
    → operands_in s op ≡ operands_in t op → cells_of s n ≡ Some w → cells_of t n ≡ Some w → CountsNothing touch s t (record { name = n; making = by_op op })

-- the flat statements of depths 1 to k, by depth, and the same in order of place
abbrev pub flats_to : ℕ → List Node → List Node
flats_to k nodes = flat_map (λ d. filter (λ (node : Node). is_some node.needs && (depth_in nodes node.name == d)) nodes) (range_with_len 1 k)

abbrev pub flats_within : ℕ → List Node → List Node
flats_within k nodes = filter (λ (node : Node). is_some node.needs && (nat_le 1 (depth_in nodes node.name) && nat_le (depth_in nodes node.name) k)) nodes

-- a sum by depth is the sum by place
abbrev pub DepthIsPlace : Type 0
DepthIsPlace = (count : Node → ℕ) (k : ℕ) (nodes : List Node) → sum_by count (flats_to k nodes) ≡ sum_by count (flats_within k nodes)

-- no layer is deeper than there are layers
abbrev pub NoneIsDeeper : Type 0
NoneIsDeeper = (t : EngineState) → HasNoCycle (nodes_of t.entries) → layers_to t (length (layers t.entries)) ≡ defined_layers t

pub record IsWithin (a b : Reads) : Type 0 where
  pub looks : a.looks ≤ b.looks
  pub picks : a.picks ≤ b.picks

-- what an accepted edit may read is told by its counts
abbrev pub AcceptedReads : Type 0
AcceptedReads = (s : WholeState) (e : WholeEdit) (a : Accepted) → accept_counted s e ≡ Ok a → edit_reads s e ≡ reads_for a.counts

-- one that is refused for a fault may read no more than if it had none
abbrev pub FaultReads : Type 0
FaultReads = (s t : WholeState) (e : WholeEdit) → attempted s e ≡ Ok t → IsWithin (edit_reads s e) (reads_for (counts_of (touch_of e) s.names t.names))

-- one that is refused otherwise reads nothing
abbrev pub OtherReads : Type 0
OtherReads = (s : WholeState) (e : WholeEdit) (r : Refusal) → attempted s e ≡ Err r → edit_reads s e ≡ no_reads
