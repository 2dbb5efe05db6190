-- The worked lines, computed.
use Rattle.std.proofs.Common.{◌≡◌, true, false, ◌++◌, None, Ok, Err, refl, sym, ◌∙◌}
use Rattle.std.specs.Prelude.{codes}
use Rattle.map_words.specs.Bytes.{Text, first_bad, is_silent}
use Rattle.map_words.specs.Names.{is_plain, is_dotted, is_reserved, is_among}
use Rattle.map_words.specs.Numbers.{number_text}
use Rattle.grammar_core.specs.declared.Kind.TheVariants.{Syntax}
use Rattle.grammar_core.specs.declared.Fault.{Fault}
use Rattle.grammar_core.proofs.FirstFault.{found_so, refused_so}
use Rattle.statement_parser.specs.Lines.{Manner, Line}
use Rattle.statement_parser.specs.Places.{tests}
use Rattle.statement_parser.specs.Operations.{find_operation, operation_named}
use Rattle.statement_parser.specs.Commands.{find_command, command_named}
use Rattle.statement_parser.specs.Grammar.{line_rule}
use Rattle.statement_parser.specs.ReadBodies.{nulls_at, ignoring_at, statistic_at, pair_at, two_at, rating_at, radius_at, sight_at, reaching_at, focal_at, costs_at, spread_at, given_at, call_at, plain_at, body_at}
use Rattle.statement_parser.specs.ReadParts.{term_after_at, further_at, optional_at, range_at, rate_at, with_at, friction_at}
use Rattle.statement_parser.specs.ReadLine.{define_at, line_at, quit_at}
use Rattle.statement_parser.specs.ReadProcedures.{names_at, parameters_at, inner_at, result_at, named_inner_at, statements_at, procedure_at}
use Rattle.statement_parser.specs.ReadEdits.{defined_at, corners_at, painted_at, laid_at, dropped_at, looked_at}
use Rattle.statement_parser.specs.ReadBranches.{item_at, item_behind_at, ended_at, items_at, branches_at}
use Rattle.statement_parser.specs.BranchRules.{most_items}
use Rattle.statement_parser.specs.ReadLabels.{bytes_at, label_at, symbol_at}
use Rattle.statement_parser.specs.ReadCommands.{paint_at, new_at, drop_at, value_at, any_line_at, table_at, undo_at, model_at, list_at}
use Rattle.statement_parser.specs.Texts.{seen, is_short, LineText, silent, worded, refusal_of, RefusedText, bad_byte, bad_word}
use Rattle.statement_parser.specs.Columns.{column}
use Rattle.statement_parser.specs.Worked.{first_rows, all_rows, WorkedProcedures, WorkedLanguages, four_branches, WorkedBranches, Worked}
use Rattle.statement_parser.proofs.LineParts.{healthy_line, line_reads}

line_row : (m : Manner) (bytes : Text) (x : Line) → is_short bytes ≡ true → is_silent bytes ≡ false → first_bad bytes ≡ None → line_at m (seen bytes) ≡ Ok x → LineText m bytes x
line_row m bytes x s e f h = worded s e f (found_so (tests m) (line_rule m) (seen bytes) x (sym (line_reads m (seen bytes)) ∙ h))

refused_row : (m : Manner) (bytes : Text) (f : Fault) → is_short bytes ≡ true → is_silent bytes ≡ false → first_bad bytes ≡ None → line_at m (seen bytes) ≡ Err f → RefusedText m bytes (refusal_of f.kind (column bytes f.left))
refused_row m bytes f s e g h = bad_word f.kind f.left s e g (refused_so (tests m) (line_rule m) (seen bytes) f (healthy_line m).sound refl (sym (line_reads m (seen bytes)) ∙ h))

procedure_rows : WorkedProcedures
unfolding line_at names_at parameters_at inner_at result_at named_inner_at statements_at procedure_at bytes_at label_at symbol_at define_at defined_at corners_at painted_at laid_at dropped_at looked_at paint_at new_at drop_at undo_at value_at any_line_at table_at model_at list_at quit_at term_after_at further_at optional_at nulls_at ignoring_at statistic_at pair_at two_at range_at rate_at with_at rating_at radius_at sight_at reaching_at focal_at friction_at costs_at spread_at given_at call_at plain_at body_at operation_named find_operation command_named find_command is_plain is_dotted is_reserved is_among number_text
procedure_rows = record {
  made = line_row all_rows (codes "procedure Twice(P, K): x = LocalSum of P and K; result = LocalProduct of x and 2") _ refl refl refl refl;
  no_result = refused_row all_rows (codes "procedure Q(P): x = LocalSum of P and 1") (record { kind = Syntax; left = 0 }) refl refl refl refl;
  no_result_yet = refused_row all_rows (codes "procedure Q(P): x = LocalSum of P and 1; ") (record { kind = Syntax; left = 0 }) refl refl refl refl;
  later_name = refused_row all_rows (codes "procedure Q(P): x = LocalSum of P and y; y = LocalSum of x and 1") (record { kind = Syntax; left = 9 }) refl refl refl refl;
  after_result = refused_row all_rows (codes "procedure Q(P): result = LocalSum of P and 1; y = LocalSum of P and 1") (record { kind = Syntax; left = 8 }) refl refl refl refl;
  same_parameter = refused_row all_rows (codes "procedure Q(P, P): result = LocalSum of P and 1") (record { kind = Syntax; left = 10 }) refl refl refl refl;
  same_inner = refused_row all_rows (codes "procedure Q(P): P = LocalSum of P and 1") (record { kind = Syntax; left = 7 }) refl refl refl refl;
}

language_rows : WorkedLanguages
unfolding line_at names_at parameters_at inner_at result_at named_inner_at statements_at procedure_at bytes_at label_at symbol_at define_at defined_at corners_at painted_at laid_at dropped_at looked_at paint_at new_at drop_at undo_at value_at any_line_at table_at model_at list_at quit_at term_after_at further_at optional_at nulls_at ignoring_at statistic_at pair_at two_at range_at rate_at with_at rating_at radius_at sight_at reaching_at focal_at friction_at costs_at spread_at given_at call_at plain_at body_at operation_named find_operation command_named find_command is_plain is_dotted is_reserved is_among number_text
language_rows = record {
  ignoring = line_row all_rows (codes "C = LocalSum of A and B ignoring nulls") _ refl refl refl refl;
  not_ignoring = refused_row first_rows (codes "C = LocalSum of A and B ignoring nulls") _ refl refl refl refl;
  ninth_ignoring = refused_row all_rows (codes "C = LocalSum of 1 and 2 and 3 and 4 and 5 and 6 and 7 and 8 and 9 ignoring nulls") _ refl refl refl refl;
  cut_ignoring = refused_row all_rows (codes "C = LocalSum of A and B ignoring") _ refl refl refl refl;
  ignoring_difference = refused_row all_rows (codes "C = LocalDifference of A and B ignoring nulls") _ refl refl refl refl;
  second = line_row all_rows (codes "model +2") _ refl refl refl refl;
  first = line_row all_rows (codes "model 01") _ refl refl refl refl;
  third = refused_row all_rows (codes "model 3") _ refl refl refl refl;
  no_version = refused_row all_rows (codes "model") _ refl refl refl refl;
  two_versions = refused_row all_rows (codes "model 1 2") _ refl refl refl refl;
  closed = refused_row first_rows (codes "model 2") _ refl refl refl refl;
}

branch_rows : WorkedBranches
unfolding line_at names_at parameters_at inner_at result_at named_inner_at statements_at procedure_at bytes_at label_at symbol_at define_at defined_at corners_at painted_at laid_at dropped_at looked_at item_at item_behind_at ended_at items_at branches_at most_items paint_at new_at drop_at undo_at value_at any_line_at table_at model_at list_at quit_at term_after_at further_at optional_at nulls_at ignoring_at statistic_at pair_at two_at range_at rate_at with_at rating_at radius_at sight_at reaching_at focal_at friction_at costs_at spread_at given_at call_at plain_at body_at operation_named find_operation command_named find_command is_plain is_dotted is_reserved is_among number_text
branch_rows = record {
  one = line_row all_rows (codes "branch drop A end") _ refl refl refl refl;
  two = line_row all_rows (codes "branch new B null; value A.b 1 2 branch paint B 1 2 3 4 5 end") _ refl refl refl refl;
  body_before_branch = line_row all_rows (codes "branch X = LocalSum of A and 1 branch drop X end") _ refl refl refl refl;
  no_item = refused_row all_rows (codes "branch end") _ refl refl refl refl;
  no_end = refused_row all_rows (codes "branch value A 1 1") _ refl refl refl refl;
  no_body = refused_row all_rows (codes "branch X = end") _ refl refl refl refl;
  no_row = refused_row all_rows (codes "branch value A 0 1 end") _ refl refl refl refl;
  seventeenth = refused_row all_rows (four_branches ++ four_branches ++ four_branches ++ four_branches ++ codes "branch drop A end") _ refl refl refl refl;
  no_label = refused_row all_rows (codes "branch label A 1 x end") _ refl refl refl refl;
  no_undo = refused_row all_rows (codes "branch undo end") _ refl refl refl refl;
  no_item_more = refused_row all_rows (codes "branch drop A; end") _ refl refl refl refl;
  after_end = refused_row all_rows (codes "branch drop A end x") _ refl refl refl refl;
  branch_not_yet = refused_row first_rows (codes "branch drop A end") _ refl refl refl refl;
}

pub rows : Worked
unfolding line_at names_at parameters_at inner_at result_at named_inner_at statements_at procedure_at bytes_at label_at symbol_at define_at defined_at corners_at painted_at laid_at dropped_at looked_at paint_at new_at drop_at undo_at value_at any_line_at table_at model_at list_at quit_at term_after_at further_at optional_at nulls_at ignoring_at statistic_at pair_at two_at range_at rate_at with_at rating_at radius_at sight_at reaching_at focal_at friction_at costs_at spread_at given_at call_at plain_at body_at operation_named find_operation command_named find_command is_plain is_dotted is_reserved is_among number_text
rows = record {
  empty = silent refl refl;
  note = silent refl refl;
  whole = line_row first_rows (codes "B = LocalSum of A and 3") _ refl refl refl refl;
  rated = line_row first_rows (codes "R = LocalRating of A with 9 for 1 to 3 with null for -5") _ refl refl refl refl;
  painted = line_row first_rows (codes "paint A 01 +1 2 2 -0") _ refl refl refl refl;
  fresh = line_row first_rows (codes "new C 1") _ refl refl refl refl;
  fresh_null = line_row first_rows (codes "new C null") _ refl refl refl refl;
  dotted = line_row first_rows (codes "grid A.result.b") _ refl refl refl refl;
  alone = refused_row first_rows (codes "foo") _ refl refl refl refl;
  unknown = refused_row first_rows (codes "C = LocalSun of A and 1") _ refl refl refl refl;
  cut = refused_row first_rows (codes "C = LocalSum of A and") _ refl refl refl refl;
  blanks = refused_row first_rows (codes "C = LocalSum of A and  ") _ refl refl refl refl;
  zero_row = refused_row first_rows (codes "paint A 0 1 1 1 1") _ refl refl refl refl;
  huge = refused_row first_rows (codes "B = LocalSum of A and 99999999999999999999") _ refl refl refl refl;
  reserved = refused_row first_rows (codes "C = of") _ refl refl refl refl;
  reserved_call = refused_row first_rows (codes "C = of(A)") _ refl refl refl refl;
  not_yet = refused_row first_rows (codes "C = FocalSum of A") _ refl refl refl refl;
  reserved_name = refused_row first_rows (codes "end = LocalSum of A and 1") _ refl refl refl refl;
  reserved_layer = refused_row first_rows (codes "new of 1") _ refl refl refl refl;
  beyond = refused_row first_rows (codes "new C 1000000000000001") _ refl refl refl refl;
  later_form = refused_row first_rows (codes "label C 1 x") _ refl refl refl refl;
  bad_byte = bad_byte refl refl refl;
  ninth = refused_row first_rows (codes "B = LocalSum of 1 and 2 and 3 and 4 and 5 and 6 and 7 and 8 and 9") _ refl refl refl refl;
  called_early = refused_row first_rows (codes "C = Twice(A, 3)") _ refl refl refl refl;
  not_yet_named = refused_row first_rows (codes "show A") _ refl refl refl refl;
  near = line_row all_rows (codes "C = FocalSum of A at 2") _ refl refl refl refl;
  sighted = line_row all_rows (codes "C = FocalSum of A radiating on B to 5") _ refl refl refl refl;
  spread = line_row all_rows (codes "C = FocalProximity of A spreading in 2 within 7") _ refl refl refl refl;
  nearest = line_row all_rows (codes "C = FocalNeighbor of A within 7") _ refl refl refl refl;
  called = line_row all_rows (codes "C=Twice(A,3)") _ refl refl refl refl;
  tabled = line_row all_rows (codes "table A.b C") _ refl refl refl refl;
  labelled = line_row all_rows (codes "label A 5=x  y ") _ refl refl refl refl;
  signed = line_row all_rows (codes "symbol A -1; ") _ refl refl refl refl;
  undone = line_row all_rows (codes " undo ") _ refl refl refl refl;
  undo_and_more = refused_row all_rows (codes "undo x") _ refl refl refl refl;
  undo_as_name = refused_row all_rows (codes "undo = LocalSum of A and 1") _ refl refl refl refl;
  undo_not_yet = refused_row first_rows (codes "undo") _ refl refl refl refl;
  joined_label = refused_row all_rows (codes "label A 5x") _ refl refl refl refl;
  no_text = refused_row all_rows (codes "label A 5 ") _ refl refl refl refl;
  longest_label = refused_row all_rows (codes "label A 5 0123456789012345678901234567890123456789012345678901234567890123 4") _ refl refl refl refl;
  two_signs = refused_row all_rows (codes "symbol A 1 a b") _ refl refl refl refl;
  no_sign = refused_row all_rows (codes "symbol A 1") _ refl refl refl refl;
  procedures = procedure_rows;
  languages = language_rows;
  branches = branch_rows;
  far = refused_row all_rows (codes "C = FocalMean of A at 33") _ refl refl refl refl;
  no_mean = refused_row all_rows (codes "C = FocalMean of A radiating on B") _ refl refl refl refl;
  no_product = refused_row all_rows (codes "C = FocalProduct of A") _ refl refl refl refl;
  named_call = refused_row all_rows (codes "C = FocalSum(A)") _ refl refl refl refl;
  no_call = refused_row all_rows (codes "C = Twice") _ refl refl refl refl;
  no_more = refused_row all_rows (codes "C = Twice(1, 2, 3, 4, 5, 6, 7, 8, 9)") _ refl refl refl refl;
}
