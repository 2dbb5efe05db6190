-- The stages of a run before its session: loads, the model file, the sample's grids.
use Rattle.std.specs.Prelude.{ℕ, ◌+◌, ◌≡◌, ⊤, List, ◌++◌, length, Result, Ok, Err}
use Rattle.layer_tiles.specs.Tallies.{TallyState}
use Rattle.map_edits.specs.Allowances.{Reads, together}
use Rattle.map_edits.specs.CountLaws.{IsWithin}
use Rattle.map_machine.specs.States.{MapState}
use Rattle.map_machine.specs.Openings.{Opening, turned_back}
use Rattle.map_outside.specs.Contents.{Grows}
use Rattle.map_run.specs.Progress.{Progress, Rises}
use Rattle.map_run.specs.declared.stop.Stop.{Stop}
use Rattle.map_run.specs.declared.stop.Stop.TheVariants.{Load, SourceFault, TooLong}

-- the text of a stage, how it comes out, and how much it may read where so many bytes are written; each goes on from the state after it
pub record Stage : Type 0 where
  pub text : (MapState → List ℕ) → List ℕ
  pub opening : (MapState → Opening) → Opening
  pub reads : ℕ → (MapState → ℕ → Reads) → Reads

-- one stage, and then another from the state after it
abbrev pub then_stage : Stage → (MapState → Stage) → Stage
then_stage first later = record {
  text = λ next. first.text (λ s. (later s).text next);
  opening = λ next. first.opening (λ s. (later s).opening next);
  reads = λ n next. first.reads n (λ s left. (later s).reads left next);
}

-- these bytes are what was written of a text
abbrev pub LeavesOf : ((MapState → List ℕ) → List ℕ) → List ℕ → Result MapState Stop → Type 0
LeavesOf text front (Ok s) = (next : MapState → List ℕ) → text next ≡ front ++ next s
LeavesOf text front (Err Load) = (next : MapState → List ℕ) → text next ≡ front
LeavesOf text front (Err _) = (next : MapState → List ℕ) → (rest : List ℕ) × (text next ≡ front ++ rest)

-- it came out so
abbrev pub OpensAs : ((MapState → Opening) → Opening) → Result MapState Stop → Type 0
OpensAs opening (Ok s) = (next : MapState → Opening) → opening next ≡ next s
OpensAs opening (Err Load) = (next : MapState → Opening) → opening next ≡ turned_back
OpensAs opening (Err _) = ⊤

-- no more was read than goes with these bytes, which leaves all of what goes with the bytes after them
abbrev pub ReadsOf : (ℕ → (MapState → ℕ → Reads) → Reads) → List ℕ → TallyState → TallyState → Result MapState Stop → Type 0
ReadsOf reads front before after (Ok s) = (r : Reads) × Rises r before after × ((next : MapState → ℕ → Reads) (n : ℕ) → IsWithin (together r (next s n)) (reads (length front + n) next))
ReadsOf reads front before after (Err _) = (next : MapState → ℕ → Reads) → Rises (reads (length front) next) before after

-- neither source nor length of a session stops a stage
abbrev pub StopsStage : Result MapState Stop → Type 0
StopsStage (Err SourceFault) = ⊥
StopsStage (Err TooLong) = ⊥
StopsStage _ = ⊤

-- a stage came to a state, or to why the run stopped
pub record Comes (stage : Stage) (a b : Progress) (came : Result MapState Stop) : Type 0 where
  pub form : StopsStage came
  pub front : List ℕ
  pub wrote : Grows a.held b.held front
  pub leaves : LeavesOf stage.text front came
  pub opens : OpensAs stage.opening came
  pub reads : ReadsOf stage.reads front a.tally b.tally came
