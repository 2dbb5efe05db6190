-- What may be read where a part of the text is written, and what loads, lines and files that are too long do.
use Rattle.std.specs.Prelude.{◌≡◌, ℕ, [], ◌∷◌, ◌++◌, length, replicate, Some, codes}
use Rattle.map_edits.specs.Allowances.{Reads, no_reads}
use Rattle.map_edits.specs.WholeStates.{no_names}
use Rattle.map_machine.specs.Limits.{longest_file, too_many_bytes}
use Rattle.map_machine.specs.SampleGrids.{sample_header}
use Rattle.map_lines.specs.Present.{first_place}
use Rattle.map_machine.specs.States.{MapState}
use Rattle.map_machine.specs.Loads.{first_load}
use Rattle.map_machine.specs.Text.{reply_to}
use Rattle.map_machine.specs.Openings.{not_held, turned_back, goes_on, file_opening}
use Rattle.map_machine.specs.LoadTexts.{file_text}
use Rattle.map_machine.specs.ModelFiles.{model_file_text, model_file_opening}
use Rattle.map_machine.specs.Play.{form_text, form_opening}
use Rattle.map_machine.specs.RunReads.{form_reads}
use Rattle.map_machine.specs.LineReads.{line_reads}
use Rattle.map_examples.specs.Runs.{held, summed, ok}

-- 64 looks for the load, for the sum and for its grid
abbrev pub reads_by : ℕ → Reads
reads_by written = form_reads longest_file too_many_bytes (Some summed.form) summed.files summed.session written

abbrev pub looks : ℕ → Reads
looks n = record { looks = n; picks = 0 }

abbrev pub nothing : MapState
nothing = record { header = sample_header; place = first_place; whole = no_names (record { rows = 1; columns = 1 }); pasts = [] }

pub record ReadRows : Type 0 where
  pub none_written : reads_by 0 ≡ looks 64
  pub part_of_first : reads_by 35 ≡ looks 64
  pub first_written : reads_by (length (ok 1 1 1 0)) ≡ looks 128
  pub two_written : reads_by (length (ok 1 1 1 0 ++ ok 2 1 1 0)) ≡ looks 192
  -- the file isn't held
  pub no_file : form_text longest_file too_many_bytes (Some summed.form) (held []) summed.session ≡ []
  pub no_file_opens : form_opening longest_file (Some summed.form) (held []) ≡ not_held
  pub no_file_reads : form_reads longest_file too_many_bytes (Some summed.form) (held []) summed.session 0 ≡ no_reads
  -- of a line, a file and a model file that are too long
  pub long_line : reply_to nothing (replicate 4097 120) ≡ codes "refused long 4097\n"
  pub long_line_reads : line_reads nothing (replicate 4097 120) ≡ no_reads
  pub long_file : file_text 3 first_load (codes "A") (Some (codes "quit")) (λ s. codes "on") ≡ codes "refused load A long 3\n"
  pub long_file_opens : file_opening 3 first_load (codes "A") (Some (codes "quit")) (λ s. goes_on) ≡ turned_back
  pub long_model : model_file_text 3 (Some (codes "quit")) nothing (λ s. codes "on") ≡ codes "refused model long 3\n"
  pub long_model_opens : model_file_opening 3 (Some (codes "quit")) nothing (λ s. goes_on) ≡ turned_back
  -- a byte that is no text
  pub high_byte : reply_to nothing (codes "ab" ++ 128 ∷ []) ≡ codes "refused syntax 3\n"
  -- quit ends a model file's part alone
  pub model_quits : model_file_text 100 (Some (codes "quit\nfoo\n")) nothing (λ s. codes "on") ≡ codes "on"
