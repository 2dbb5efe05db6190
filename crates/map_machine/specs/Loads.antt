-- What the load of a grid does.
use Rattle.std.specs.Prelude.{ℕ, List, [], Result, Ok, Err, codes}
use Rattle.map_nums.specs.Grids.{Grid}
use Rattle.grid_text.specs.Faults.{Fault}
use Rattle.grid_text.specs.Headed.{Headed}
use Rattle.grid_text.specs.Contents.{grid_in}
use Rattle.map_defs.specs.Ops.{Name}
use Rattle.map_lines.specs.Present.{first_place}
use Rattle.map_edits.specs.EditForms.{load}
use Rattle.map_edits.specs.Refusals.{Refusal}
use Rattle.map_edits.specs.WholeStates.{no_names}
use Rattle.map_edits.specs.WholeEdits.{of_names}
use Rattle.map_edits.specs.Counted.{Accepted, accept_counted}
use Rattle.map_machine.specs.States.{MapState}
use Rattle.map_machine.specs.Replies.{counted_reply, load_refused_reply}
use Rattle.map_machine.specs.Causes.{edit_cause, grid_cause, counted}

-- how a load came out: the state that it makes, or no state; each with the reply
pub data Opened : Type 0 where
  ready : MapState → List ℕ → Opened
  turned_away : List ℕ → Opened

-- no edit from before a load can be taken back
abbrev pub opened : MapState → Name → Result Accepted Refusal → Opened
opened s name (Ok a) = ready (record s { whole = a.state; pasts = [] }) (counted_reply a.state.names.number a.counts)
opened s name (Err r) = turned_away (load_refused_reply name (edit_cause r))

-- a grid is loaded into a state
abbrev pub grid_load : MapState → Name → Grid → Opened
grid_load s name grid = opened s name (accept_counted s.whole (of_names (load name grid)))

-- before the first grid: it sets the size and the header texts of the run
abbrev pub state_for : Headed → MapState
state_for read = record { header = read.header; place = first_place; whole = no_names read.grid.size; pasts = [] }

-- what reading a file's bytes answered is loaded into the state before it
abbrev pub read_load : (Headed → MapState) → Name → Result Headed Fault → Opened
read_load before name (Ok read) = grid_load (before read) name read.grid
read_load before name (Err f) = turned_away (load_refused_reply name (grid_cause f))

-- what the bytes of a file do, loaded first and under this name
unfoldable pub first_load : Name → List ℕ → Opened
first_load name bytes = read_load state_for name (grid_in bytes)

-- what they do, loaded later
unfoldable pub next_load : MapState → Name → List ℕ → Opened
next_load s name bytes = read_load (λ read. s) name (grid_in bytes)

-- the reply to a file of more bytes than are fetched
unfoldable pub long_file_reply : ℕ → Name → List ℕ
long_file_reply most name = load_refused_reply name (counted (codes "long") most)
