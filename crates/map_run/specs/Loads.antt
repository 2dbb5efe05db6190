-- What the loads of a run and its model file came to.
use Rattle.std.specs.Prelude.{ℕ, ◌≡◌, List, take, Option, Some, None, IfSome, Result, Ok, Err}
use Rattle.map_defs.specs.Ops.{Name}
use Rattle.map_edits.specs.Allowances.{Reads}
use Rattle.map_machine.specs.States.{MapState}
use Rattle.map_machine.specs.Loads.{Opened, ready, turned_away, first_load, next_load}
use Rattle.map_machine.specs.Pairs.{Pair}
use Rattle.map_machine.specs.LoadTexts.{opened_text, file_text, further_text, pairs_text}
use Rattle.map_machine.specs.Openings.{opened_opening, file_opening, further_opening, pairs_opening}
use Rattle.map_machine.specs.ModelFiles.{model_lines_text, model_lines_opening, model_file_text, model_file_opening, model_text, model_opening}
use Rattle.map_machine.specs.SampleGrids.{NamedGrid}
use Rattle.map_machine.specs.Samples.{grids_text, grids_opening}
use Rattle.map_machine.specs.LoadReads.{first_load_reads, next_load_reads}
use Rattle.map_machine.specs.OpeningReads.{opened_reads, file_reads, further_reads, pairs_reads, grids_reads, model_lines_reads, model_file_reads, model_reads}
use Rattle.map_outside.specs.Contents.{Files, Grows}
use Rattle.map_run.specs.Progress.{Progress}
use Rattle.map_run.specs.Stages.{Stage, then_stage, StopsStage, Comes}
use Rattle.map_run.specs.declared.stop.Stop.{Stop}
use Rattle.map_run.specs.declared.stop.Stop.TheVariants.{Load, SinkFault, NoMemory}

-- what the bytes of a file do where nothing is loaded yet, and from a state on
abbrev pub load_on : Option MapState → Name → List ℕ → Opened
load_on None = first_load
load_on (Some s) = next_load s

-- and what they may read
abbrev pub load_reads_on : Option MapState → Name → List ℕ → Reads
load_reads_on None = first_load_reads
load_reads_on (Some s) = next_load_reads s

abbrev pub opened_reply : Opened → List ℕ
opened_reply (ready s reply) = reply
opened_reply (turned_away reply) = reply

-- one load came out so, and its reply was written, or a front of it
abbrev pub LoadsAs : Opened → Option (List ℕ) → Option (List ℕ) → Result MapState Stop → Type 0
LoadsAs (ready s reply) held held' (Ok t) = (t ≡ s) × Grows held held' reply
LoadsAs (turned_away reply) held held' (Err Load) = Grows held held' reply
LoadsAs opened held held' (Err SinkFault) = (n : ℕ) × Grows held held' (take n (opened_reply opened))
LoadsAs opened held held' (Err NoMemory) = (n : ℕ) × Grows held held' (take n (opened_reply opened))
LoadsAs opened held held' _ = ⊥

-- ---- stages

-- a load that comes out so
abbrev pub opened_stage : Reads → Opened → Stage
opened_stage r o = record { text = opened_text o; opening = opened_opening o; reads = opened_reads r o }

-- the load of what is held under a file's name
abbrev pub file_stage : ℕ → Option MapState → Name → Option (List ℕ) → Stage
file_stage most s name held = record {
  text = file_text most (load_on s) name held;
  opening = file_opening most (load_on s) name held;
  reads = file_reads most (load_on s) (load_reads_on s) name held;
}

abbrev pub further_stage : ℕ → Files → List Pair → MapState → Stage
further_stage most files ps s = record { text = further_text most files ps s; opening = further_opening most files ps s; reads = further_reads most files ps s }

abbrev pub pairs_stage : ℕ → Files → List Pair → Stage
pairs_stage most files ps = record { text = pairs_text most files ps; opening = pairs_opening most files ps; reads = pairs_reads most files ps }

abbrev pub model_lines_stage : MapState → List (List ℕ) → Stage
model_lines_stage s lines = record { text = model_lines_text s lines; opening = model_lines_opening s lines; reads = model_lines_reads s lines }

abbrev pub model_file_stage : ℕ → Option (List ℕ) → MapState → Stage
model_file_stage most held s = record { text = model_file_text most held s; opening = model_file_opening most held s; reads = model_file_reads most held s }

abbrev pub model_stage : ℕ → Files → Option (List ℕ) → MapState → Stage
model_stage most files model s = record { text = model_text most files model s; opening = model_opening most files model s; reads = model_reads most files model s }

-- all that comes before a session
abbrev pub files_stage : ℕ → Option (List ℕ) → List Pair → Files → Stage
files_stage most model ps files = then_stage (pairs_stage most files ps) (model_stage most files model)

abbrev pub grids_stage : MapState → List NamedGrid → Stage
grids_stage s grids = record { text = grids_text s grids; opening = grids_opening s grids; reads = grids_reads s grids }

-- the stage of the files that are told
abbrev pub Loads : Option Files → (Files → Stage) → Progress → Progress → Result MapState Stop → Type 0
Loads files stage a b came = StopsStage came × IfSome files (λ f. Comes (stage f) a b came)
