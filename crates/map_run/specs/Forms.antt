-- The form of a run, as it was read from the words.
use Rattle.std.specs.Prelude.{ℕ, List, map, Option, None, option_map, String, codes, bytes_eq, if◌then◌else◌}
use Rattle.std.specs.declared.alloc.Global.{Global}
use Rattle.map_machine.specs.Pairs.{Pair, all_pairs, pairs_of}
use Rattle.map_machine.specs.Words.{Form, of_files, of_sample, files_form, sample_form}
use Rattle.map_run.specs.declared.forms.Pair.{Pair as Read}
use Rattle.map_run.specs.declared.forms.Form.{Form as ReadForm}
use Rattle.map_run.specs.declared.forms.Form.TheVariants.{Files, Sample}
use denote.Ref.{Bor}

abbrev pub pair_read : Read → Pair
pair_read p = record { name = p.name.now; file = p.file.now }

abbrev pub pairs_read : List Read → List Pair
pairs_read ps = map pair_read ps

abbrev pub model_read : Option (Bor (List ℕ)) → Option (List ℕ)
model_read model = option_map (λ m. m.now) model

abbrev pub form_read : ReadForm → Form
form_read (Files f) = of_files (model_read f.model) (pairs_read f.pairs.items)
form_read (Sample s) = of_sample s.count

-- the form that a first word, a third one and those after it say
abbrev pub form_by_verb : List ℕ → List ℕ → List (String Global) → Option Form
form_by_verb verb third rest = if bytes_eq verb (codes "run") then files_form third (pairs_of (all_pairs rest)) else (if bytes_eq verb (codes "sample") then sample_form third rest else None)
