use Rattle.std.proofs.Common.{◌≡◌, ℕ, List, [], ◌∷◌, refl, ap, ◌∙◌, codes}
use Rattle.std.specs.Prelude.{String, string_bytes}
use Rattle.std.specs.declared.alloc.Global.{Global}
use Rattle.std.specs.Fmt.{digits}
use Rattle.map_nums.specs.Tiles.{tiles_across, tiles_down, tiles_in, tile_top, tile_left, tile_of}
use Rattle.map_defs.specs.Local.{local_grid}
use Rattle.map_defs.specs.Operate.{operate}
use Rattle.map_defs.specs.Expansion.{expansion_of}
use Rattle.map_defs.specs.Nodes.{lacks, missing}
use Rattle.map_defs.specs.Depths.{is_looped, by_depth}
use Rattle.map_defs.specs.Tiles.{is_in_square}
use Rattle.map_defs.specs.Differences.{changed_tiles}
use Rattle.map_defs.specs.Damage.{op_damage}
use Rattle.map_defs.specs.Work.{op_work}
use Rattle.map_words.specs.Names.{is_among, is_reserved, is_plain, is_dotted}
use Rattle.map_words.specs.Numbers.{number_text}
use Rattle.grammar_core.specs.Run.{run}
use Rattle.statement_parser.specs.Operations.{find_operation, operation_named}
use Rattle.statement_parser.specs.Commands.{find_command, command_named}
use Rattle.statement_parser.specs.LineOf.{line_of}
use Rattle.map_lines.specs.Present.{rows_at}
use Rattle.grid_text.specs.Contents.{grid_in}
use Rattle.grid_text.specs.Printed.{grid_text}
use Rattle.map_edits.specs.EngineStates.{value_of}
use Rattle.map_edits.specs.Faults.{fault_of}
use Rattle.map_edits.specs.Counted.{accept_counted}
use Rattle.map_edits.specs.Allowances.{edit_reads}
use Rattle.map_machine.specs.Loads.{first_load, next_load}
use Rattle.map_machine.specs.LoadReads.{first_load_reads, next_load_reads}
use Rattle.map_machine.specs.Words.{form_by, form_of}
use Rattle.map_machine.specs.Steps.{step_of, is_quit, long_reply}
use Rattle.map_machine.specs.LineReads.{line_reads}
use Rattle.map_examples.specs.WordRows.{Say}
use Rattle.map_examples.proofs.word_rows.Goals as goal

-- the words of a sample, by their bytes
sampled : (a b c : String Global) (workers size : List ℕ) → Say (a ∷ b ∷ c ∷ []) (codes "sample" ∷ workers ∷ size ∷ []) → form_of (a ∷ b ∷ c ∷ []) ≡ form_by (codes "sample") workers size []
sampled a b c workers size say =
    ap (λ v. form_by v (string_bytes b) (string_bytes c) []) say.0 ∙ ap (λ v. form_by (codes "sample") v (string_bytes c) []) say.1.0 ∙ ap (λ v. form_by (codes "sample") workers v []) say.1.1.0

pub returns : goal.returns
unfolding digits tiles_across tiles_down tiles_in tile_top tile_left tile_of local_grid operate expansion_of lacks missing is_looped by_depth is_in_square changed_tiles op_damage op_work is_among is_reserved is_plain is_dotted number_text run find_operation operation_named find_command command_named line_of rows_at grid_in grid_text value_of fault_of accept_counted edit_reads first_load next_load first_load_reads next_load_reads step_of is_quit long_reply line_reads
returns c = record {
  no_words = refl;
  no_pair = λ a b c say. rw (say.0, say.1.0) refl;
  sixty_five_workers = λ a b c d say. rw (say.1.0) refl;
  no_workers = λ a b c d say. rw (say.1.0) refl;
  leading_nought = λ a b c d say. rw (say.1.0) refl;
  name_twice = λ a b c d e say. rw (say.0, say.1.0, say.1.1.0, say.1.1.1.0, say.1.1.1.1.0) refl;
  reserved_name = λ a b c d say. rw (say.0, say.1.0, say.1.1.0, say.1.1.1.0) refl;
  sample_of_nought = λ a b c say. sampled a b c (codes "1") (codes "0") say;
  sample_too_large = λ a b c say. sampled a b c (codes "1") (codes "1225") say;
  a_pair = λ a b c d say. rw (say.0, say.1.0, say.1.1.0, say.1.1.1.0) refl;
  two_pairs = λ a b c d e say. rw (say.0, say.1.0, say.1.1.0, say.1.1.1.0, say.1.1.1.1.0) refl;
  a_model = λ a b c d say. rw (say.0, say.1.0, say.1.1.0, say.1.1.1.0) refl;
  sixty_four_workers = λ a b c d say. rw (say.0, say.1.0, say.1.1.0, say.1.1.1.0) refl;
  smallest_sample = λ a b c say. sampled a b c (codes "1") (codes "1") say;
  realistic_sample = λ a b c say. sampled a b c (codes "8") (codes "1201") say;
  whole_run = λ a b c d say. rw (say.0, say.1.0, say.1.1.0, say.1.1.1.0) refl;
}
