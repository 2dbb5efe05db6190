-- How far a run has come with some lines of its session.
use Rattle.std.specs.Prelude.{ℕ, ◌≡◌, false, true, List, [], ◌∷◌, ◌++◌, length, Result, Ok, Err}
use Rattle.std.specs.List.{list_any}
use Rattle.map_nums.specs.Counts.{Rose}
use Rattle.map_machine.specs.States.{MapState}
use Rattle.map_machine.specs.Steps.{is_quit}
use Rattle.map_machine.specs.Text.{replies_to, state_after}
use Rattle.map_machine.specs.SessionReads.{lines_reads}
use Rattle.map_outside.specs.Contents.{Grows}
use Rattle.map_run.specs.Progress.{Progress, Rises}
use Rattle.map_run.specs.declared.lines.Fed.{Fed}
use Rattle.map_run.specs.declared.lines.Fed.TheVariants.{More, Quit}
use Rattle.map_run.specs.declared.stop.Stop.{Stop}
use Rattle.map_run.specs.declared.stop.Stop.TheVariants.{SinkFault, NoMemory}

-- all replies to these lines were written, up to the first line that ends the session, and no more was read than goes with them
pub record AnswersWhole (s : MapState) (lines : List (List ℕ)) (a b : Progress) : Type 0 where
  pub wrote : Grows a.held b.held (replies_to s lines)
  pub reads : Rises (lines_reads s lines (length (replies_to s lines))) a.tally b.tally

-- all lines were answered, and none of them ends the session
pub record AnswersAll (old new : MapState) (lines : List (List ℕ)) (a b : Progress) : Type 0 where
  pub none : list_any is_quit lines ≡ false
  pub state : new ≡ state_after old lines
  pub whole : AnswersWhole old lines a b
  pub same : b.faults ≡ a.faults

-- one of the lines ends the session, and those before it were answered
pub record AnswersToQuit (old : MapState) (lines : List (List ℕ)) (a b : Progress) : Type 0 where
  pub some : list_any is_quit lines ≡ true
  pub whole : AnswersWhole old lines a b
  pub same : b.faults ≡ a.faults

-- the first line, where there is one
abbrev pub first_of : List (List ℕ) → List (List ℕ)
first_of [] = []
first_of (line ∷ lines) = line ∷ []

-- it stopped in the middle: some lines were answered whole, and of the reply to the first of the others a part was written.
-- There are no others where it stopped while the next line was read
pub record StoppedAt (old : MapState) (lines : List (List ℕ)) (a b : Progress) : Type 0 where
  pub answered : List (List ℕ)
  pub others : List (List ℕ)
  pub split : lines ≡ answered ++ others
  pub none : list_any is_quit answered ≡ false
  pub part : List ℕ
  pub unwritten : List ℕ
  pub reply : replies_to (state_after old answered) (first_of others) ≡ part ++ unwritten
  pub wrote : Grows a.held b.held (replies_to old answered ++ part)
  pub reads : Rises (lines_reads old lines (length (replies_to old answered ++ part))) a.tally b.tally

-- a put failed
pub record PutFailed (old : MapState) (lines : List (List ℕ)) (a b : Progress) : Type 0 where
  pub at : StoppedAt old lines a b
  pub rose : Rose a.faults b.faults

-- memory was wanted
pub record LacksMemory (old : MapState) (lines : List (List ℕ)) (a b : Progress) : Type 0 where
  pub at : StoppedAt old lines a b
  pub same : b.faults ≡ a.faults

abbrev pub Answered : MapState → MapState → List (List ℕ) → Progress → Progress → Result Fed Stop → Type 0
Answered old new lines a b (Ok More) = AnswersAll old new lines a b
Answered old new lines a b (Ok Quit) = AnswersToQuit old lines a b
Answered old new lines a b (Err SinkFault) = PutFailed old lines a b
Answered old new lines a b (Err NoMemory) = LacksMemory old lines a b
Answered old new lines a b (Err _) = ⊥
