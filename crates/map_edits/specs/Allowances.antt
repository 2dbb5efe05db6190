-- How much an edit may read: looks at tiles, and picks of single cells.
use Rattle.std.specs.Prelude.{ℕ, ◌+◌, ◌*◌, nat_le, List, filter, Option, Some, None, Result, Ok, Err}
use Rattle.map_defs.specs.Ops.{Name}
use Rattle.map_defs.specs.Depths.{depth_in}
use Rattle.map_edits.specs.LayerDefs.{LayerDef, nodes_of}
use Rattle.map_edits.specs.EngineStates.{EngineState}
use Rattle.map_edits.specs.Faults.{Fault, too_many_viewers, overflow}
use Rattle.map_edits.specs.Refusals.{Refusal}
use Rattle.map_edits.specs.WholeStates.{WholeState}
use Rattle.map_edits.specs.WholeEdits.{WholeEdit}
use Rattle.map_edits.specs.Attempts.{attempted}
use Rattle.map_edits.specs.Touches.{Touch, touch_of}
use Rattle.map_edits.specs.EditCounts.{Counts, defined_layers, counts_over, counts_of}
use Rattle.map_edits.specs.Counted.{fault_after}

pub record Reads : Type 0 where
  pub looks : ℕ
  pub picks : ℕ

abbrev pub no_reads : Reads
no_reads = record { looks = 0; picks = 0 }

abbrev pub together : Reads → Reads → Reads
together a b = record { looks = a.looks + b.looks; picks = a.picks + b.picks }

-- 64 looks for a damaged tile, and 1000 picks for a unit of work
abbrev pub reads_for : Counts → Reads
reads_for c = record { looks = 64 * c.evaluated; picks = 1000 * c.worked }

abbrev pub faulty_name : Fault → Name
faulty_name (too_many_viewers n count) = n
faulty_name (overflow n row column) = n

-- the defined layers of at most this depth
abbrev pub layers_to : EngineState → ℕ → List LayerDef
layers_to t d = filter (λ (l : LayerDef). nat_le (depth_in (nodes_of t.entries) l.name) d) (defined_layers t)

-- all counts where there is no fault, else those up to the depth of the fault
abbrev pub counts_to : Touch → EngineState → EngineState → Option Fault → Counts
counts_to touch s t None = counts_of touch s t
counts_to touch s t (Some f) = counts_over touch s t (layers_to t (depth_in (nodes_of t.entries) (faulty_name f)))

abbrev pub reads_of_attempt : WholeState → WholeEdit → Result WholeState Refusal → Reads
reads_of_attempt s e (Err r) = no_reads
reads_of_attempt s e (Ok t) = reads_for (counts_to (touch_of e) s.names t.names (fault_after e t))

-- of an edit that is accepted or refused
unfoldable pub edit_reads : WholeState → WholeEdit → Reads
edit_reads s e = reads_of_attempt s e (attempted s e)
