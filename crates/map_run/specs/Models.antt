-- How a line of a model file goes.
use Rattle.std.specs.Prelude.{ℕ, List, ◌∷◌, Result, Ok, Err}
use Rattle.map_machine.specs.States.{MapState}
use Rattle.map_run.specs.Progress.{Progress}
use Rattle.map_run.specs.Stages.{Comes}
use Rattle.map_run.specs.Loads.{model_lines_stage}
use Rattle.map_run.specs.declared.lines.Fed.{Fed}
use Rattle.map_run.specs.declared.lines.Fed.TheVariants.{More, Quit}
use Rattle.map_run.specs.declared.stop.Stop.{Stop}

-- after a line the next ones are played, or the file's part ends, or the run
abbrev pub ModelGoes : MapState → MapState → List ℕ → Progress → Progress → Result Fed Stop → Type 0
ModelGoes old new line a b (Ok More) = (lines : List (List ℕ)) (c : Progress) (came : Result MapState Stop) → Comes (model_lines_stage new lines) b c came → Comes (model_lines_stage old (line ∷ lines)) a c came
ModelGoes old new line a b (Ok Quit) = (lines : List (List ℕ)) → Comes (model_lines_stage old (line ∷ lines)) a b (Ok new)
ModelGoes old new line a b (Err stop) = (lines : List (List ℕ)) → Comes (model_lines_stage old (line ∷ lines)) a b (Err stop)
