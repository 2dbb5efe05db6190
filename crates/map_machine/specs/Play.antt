-- The text of a whole run, and how its loads and its model file come out.
use Rattle.std.specs.Prelude.{ℕ, List, [], Option, Some, None, String}
use Rattle.std.specs.declared.alloc.Global.{Global}
use Rattle.map_machine.specs.Text.{replies_to, session_text}
use Rattle.map_machine.specs.Words.{Form, of_files, of_sample, form_of}
use Rattle.map_machine.specs.LoadTexts.{Files, pairs_text}
use Rattle.map_machine.specs.Openings.{Opening, goes_on, pairs_opening}
use Rattle.map_machine.specs.ModelFiles.{model_text, model_opening}
use Rattle.map_machine.specs.SampleGrids.{sample_grids}
use Rattle.map_machine.specs.SampleLines.{sample_lines}
use Rattle.map_machine.specs.Samples.{sample_state, grids_text, grids_opening}

-- words of no form have no text
abbrev pub form_text : ℕ → ℕ → Option Form → Files → List ℕ → List ℕ
form_text most limit None files session = []
form_text most limit (Some (of_files model ps)) files session = pairs_text most files ps (λ s. model_text most files model s (λ t. session_text limit t session))
form_text most limit (Some (of_sample n)) files session = grids_text (sample_state n) (sample_grids n) (λ s. replies_to s (sample_lines n))

-- the text of a run: of these words, files and session bytes
abbrev pub run_text : ℕ → ℕ → List (String Global) → Files → List ℕ → List ℕ
run_text most limit words files session = form_text most limit (form_of words) files session

abbrev pub form_opening : ℕ → Option Form → Files → Opening
form_opening most None files = goes_on
form_opening most (Some (of_files model ps)) files = pairs_opening most files ps (λ s. model_opening most files model s (λ t. goes_on))
form_opening most (Some (of_sample n)) files = grids_opening (sample_state n) (sample_grids n) (λ s. goes_on)

abbrev pub run_opening : ℕ → List (String Global) → Files → Opening
run_opening most words files = form_opening most (form_of words) files
