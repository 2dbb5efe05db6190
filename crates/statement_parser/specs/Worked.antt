-- Worked lines, where the first operations and commands are there, and where all are.
use Rattle.std.specs.Prelude.{pos, negsuc, true, false, [], ◌∷◌, ◌++◌, Some, None, codes}
use Rattle.map_nums.specs.declared.Stat.TheVariants as stats
use Rattle.map_words.specs.Bytes.{Text}
use Rattle.map_defs.specs.Ops.{layer_term, number_term, local_op, rating_op, focal_op, spread_op, nearest_op, sight_op}
use Rattle.map_defs.specs.Statements.{plain, call}
use Rattle.statement_parser.specs.Lines.{Manner, define, define_procedure, paint, new_layer, drop, put_label, put_symbol, make, look_at, ask_grid, ask_table, ask_branches, Line, blank, edit, undo, ask, model}
use Rattle.statement_parser.specs.Operations.{operations}
use Rattle.statement_parser.specs.Commands.{commands}
use Rattle.statement_parser.specs.declared.operation.Operation.TheVariants.{Rating}
use Rattle.statement_parser.specs.declared.command.Command.TheVariants.{Paint, New, Grid}
use Rattle.statement_parser.specs.declared.language.Language.TheVariants.{One, Two}
use Rattle.statement_parser.specs.Texts.{LineText, Refusal, syntax, operation, number, RefusedText}

abbrev pub first_rows : Manner
first_rows = record { operations = Rating ∷ []; commands = Paint ∷ New ∷ Grid ∷ []; sight = false; calls = false; ignoring = false }

abbrev pub all_rows : Manner
all_rows = record { operations = operations; commands = commands; sight = true; calls = true; ignoring = true }

abbrev pub Is : Text → Line → Type 0
Is bytes x = LineText first_rows bytes x

abbrev pub IsRefused : Text → Refusal → Type 0
IsRefused bytes r = RefusedText first_rows bytes r

abbrev pub IsOfAll : Text → Line → Type 0
IsOfAll bytes x = LineText all_rows bytes x

abbrev pub IsRefusedOfAll : Text → Refusal → Type 0
IsRefusedOfAll bytes r = RefusedText all_rows bytes r

-- lines of language 2, and those that set a language
pub record WorkedLanguages : Type 0 where
  pub ignoring : IsOfAll (codes "C = LocalSum of A and B ignoring nulls") (edit (define (codes "C") (plain (local_op stats.Sum true (layer_term (codes "A") ∷ layer_term (codes "B") ∷ [])))))
  pub not_ignoring : IsRefused (codes "C = LocalSum of A and B ignoring nulls") (syntax 25)
  pub ninth_ignoring : IsRefusedOfAll (codes "C = LocalSum of 1 and 2 and 3 and 4 and 5 and 6 and 7 and 8 and 9 ignoring nulls") (syntax 61)
  pub cut_ignoring : IsRefusedOfAll (codes "C = LocalSum of A and B ignoring") (syntax 33)
  pub ignoring_difference : IsRefusedOfAll (codes "C = LocalDifference of A and B ignoring nulls") (syntax 32)
  pub second : IsOfAll (codes "model +2") (model Two)
  pub first : IsOfAll (codes "model 01") (model One)
  pub third : IsRefusedOfAll (codes "model 3") (number 7)
  pub no_version : IsRefusedOfAll (codes "model") (syntax 6)
  pub two_versions : IsRefusedOfAll (codes "model 1 2") (syntax 9)
  pub closed : IsRefused (codes "model 2") (syntax 1)

-- lines of procedures
pub record WorkedProcedures : Type 0 where
  pub made : IsOfAll (codes "procedure Twice(P, K): x = LocalSum of P and K; result = LocalProduct of x and 2") (edit (define_procedure (record {
    name = codes "Twice";
    takes = codes "P" ∷ codes "K" ∷ [];
    body = record { name = codes "x"; written = plain (local_op stats.Sum false (layer_term (codes "P") ∷ layer_term (codes "K") ∷ [])) }
        ∷ record { name = codes "result"; written = plain (local_op stats.Product false (layer_term (codes "x") ∷ number_term (pos 2) ∷ [])) } ∷ [];
  })))
  pub no_result : IsRefusedOfAll (codes "procedure Q(P): x = LocalSum of P and 1") (syntax 40)
  pub no_result_yet : IsRefusedOfAll (codes "procedure Q(P): x = LocalSum of P and 1; ") (syntax 42)
  pub later_name : IsRefusedOfAll (codes "procedure Q(P): x = LocalSum of P and y; y = LocalSum of x and 1") (syntax 39)
  pub after_result : IsRefusedOfAll (codes "procedure Q(P): result = LocalSum of P and 1; y = LocalSum of P and 1") (syntax 45)
  pub same_parameter : IsRefusedOfAll (codes "procedure Q(P, P): result = LocalSum of P and 1") (syntax 16)
  pub same_inner : IsRefusedOfAll (codes "procedure Q(P): P = LocalSum of P and 1") (syntax 17)

-- four branches that go on
abbrev pub four_branches : Text
four_branches = codes "branch drop A branch drop A branch drop A branch drop A "

-- lines of branches
pub record WorkedBranches : Type 0 where
  pub one : IsOfAll (codes "branch drop A end") (ask (ask_branches ((make (drop (codes "A")) ∷ []) ∷ [])))
  pub two : IsOfAll (codes "branch new B null; value A.b 1 2 branch paint B 1 2 3 4 5 end") (ask (ask_branches (
      (make (new_layer (codes "B") None) ∷ look_at (codes "A.b") 1 2 ∷ []) ∷ (make (paint (codes "B") 1 2 3 4 (Some (pos 5))) ∷ []) ∷ [])))
  pub body_before_branch : IsOfAll (codes "branch X = LocalSum of A and 1 branch drop X end") (ask (ask_branches (
      (make (define (codes "X") (plain (local_op stats.Sum false (layer_term (codes "A") ∷ number_term (pos 1) ∷ [])))) ∷ []) ∷ (make (drop (codes "X")) ∷ []) ∷ [])))
  pub no_item : IsRefusedOfAll (codes "branch end") (syntax 8)
  pub no_end : IsRefusedOfAll (codes "branch value A 1 1") (syntax 19)
  pub no_body : IsRefusedOfAll (codes "branch X = end") (operation 12)
  pub no_row : IsRefusedOfAll (codes "branch value A 0 1 end") (number 16)
  pub seventeenth : IsRefusedOfAll (four_branches ++ four_branches ++ four_branches ++ four_branches ++ codes "branch drop A end") (syntax 225)
  pub no_label : IsRefusedOfAll (codes "branch label A 1 x end") (syntax 8)
  pub no_undo : IsRefusedOfAll (codes "branch undo end") (syntax 8)
  pub no_item_more : IsRefusedOfAll (codes "branch drop A; end") (syntax 16)
  pub after_end : IsRefusedOfAll (codes "branch drop A end x") (syntax 19)
  pub branch_not_yet : IsRefused (codes "branch drop A end") (syntax 1)

pub record Worked : Type 0 where
  pub empty : Is [] blank
  pub note : Is (codes "# note (") blank
  pub whole : Is (codes "B = LocalSum of A and 3") (edit (define (codes "B") (plain (local_op stats.Sum false (layer_term (codes "A") ∷ number_term (pos 3) ∷ [])))))
  pub rated : Is (codes "R = LocalRating of A with 9 for 1 to 3 with null for -5") (edit (define (codes "R") (plain (rating_op (layer_term (codes "A"))
      (record { low = pos 1; high = pos 3; give = Some (pos 9) } ∷ record { low = negsuc 4; high = negsuc 4; give = None } ∷ [])))))
  pub painted : Is (codes "paint A 01 +1 2 2 -0") (edit (paint (codes "A") 1 1 2 2 (Some (pos 0))))
  pub fresh : Is (codes "new C 1") (edit (new_layer (codes "C") (Some (pos 1))))
  pub fresh_null : Is (codes "new C null") (edit (new_layer (codes "C") None))
  pub dotted : Is (codes "grid A.result.b") (ask (ask_grid (codes "A.result.b")))
  pub alone : IsRefused (codes "foo") (syntax 4)
  pub unknown : IsRefused (codes "C = LocalSun of A and 1") (operation 5)
  pub cut : IsRefused (codes "C = LocalSum of A and") (syntax 22)
  pub blanks : IsRefused (codes "C = LocalSum of A and  ") (syntax 24)
  pub zero_row : IsRefused (codes "paint A 0 1 1 1 1") (number 9)
  pub huge : IsRefused (codes "B = LocalSum of A and 99999999999999999999") (number 23)
  pub reserved : IsRefused (codes "C = of") (operation 5)
  pub reserved_call : IsRefused (codes "C = of(A)") (syntax 5)
  pub not_yet : IsRefused (codes "C = FocalSum of A") (operation 5)
  pub reserved_name : IsRefused (codes "end = LocalSum of A and 1") (syntax 1)
  pub reserved_layer : IsRefused (codes "new of 1") (syntax 5)
  pub beyond : IsRefused (codes "new C 1000000000000001") (number 7)
  pub later_form : IsRefused (codes "label C 1 x") (syntax 1)
  pub bad_byte : IsRefused (codes "C = LocalSun of " ++ 127 ∷ []) (syntax 17)
  pub ninth : IsRefused (codes "B = LocalSum of 1 and 2 and 3 and 4 and 5 and 6 and 7 and 8 and 9") (syntax 61)
  pub called_early : IsRefused (codes "C = Twice(A, 3)") (syntax 5)
  pub not_yet_named : IsRefused (codes "show A") (syntax 1)
  pub near : IsOfAll (codes "C = FocalSum of A at 2") (edit (define (codes "C") (plain (focal_op stats.Sum (Some 2) (layer_term (codes "A"))))))
  pub sighted : IsOfAll (codes "C = FocalSum of A radiating on B to 5") (edit (define (codes "C") (plain (sight_op (record { from = pos 0; to = pos 5; reach = 64 }) (layer_term (codes "A")) (layer_term (codes "B"))))))
  pub spread : IsOfAll (codes "C = FocalProximity of A spreading in 2 within 7") (edit (define (codes "C") (plain (spread_op 7 (layer_term (codes "A")) (number_term (pos 2))))))
  pub nearest : IsOfAll (codes "C = FocalNeighbor of A within 7") (edit (define (codes "C") (plain (nearest_op 7 (layer_term (codes "A")) (number_term (pos 1))))))
  pub called : IsOfAll (codes "C=Twice(A,3)") (edit (define (codes "C") (call (codes "Twice") (layer_term (codes "A") ∷ number_term (pos 3) ∷ []))))
  pub tabled : IsOfAll (codes "table A.b C") (ask (ask_table (codes "A.b") (codes "C")))
  pub labelled : IsOfAll (codes "label A 5=x  y ") (edit (put_label (codes "A") (pos 5) (codes "=x  y")))
  pub signed : IsOfAll (codes "symbol A -1; ") (edit (put_symbol (codes "A") (negsuc 0) 59))
  pub undone : IsOfAll (codes " undo ") undo
  pub undo_and_more : IsRefusedOfAll (codes "undo x") (syntax 6)
  pub undo_as_name : IsRefusedOfAll (codes "undo = LocalSum of A and 1") (syntax 6)
  pub undo_not_yet : IsRefused (codes "undo") (syntax 1)
  pub joined_label : IsRefusedOfAll (codes "label A 5x") (syntax 9)
  pub no_text : IsRefusedOfAll (codes "label A 5 ") (syntax 11)
  pub longest_label : IsRefusedOfAll (codes "label A 5 0123456789012345678901234567890123456789012345678901234567890123 " ++ codes "4") (syntax 75)
  pub two_signs : IsRefusedOfAll (codes "symbol A 1 a b") (syntax 14)
  pub no_sign : IsRefusedOfAll (codes "symbol A 1") (syntax 11)
  pub procedures : WorkedProcedures
  pub languages : WorkedLanguages
  pub branches : WorkedBranches
  pub far : IsRefusedOfAll (codes "C = FocalMean of A at 33") (number 23)
  pub no_mean : IsRefusedOfAll (codes "C = FocalMean of A radiating on B") (syntax 20)
  pub no_product : IsRefusedOfAll (codes "C = FocalProduct of A") (operation 5)
  pub named_call : IsRefusedOfAll (codes "C = FocalSum(A)") (syntax 13)
  pub no_call : IsRefusedOfAll (codes "C = Twice") (operation 5)
  pub no_more : IsRefusedOfAll (codes "C = Twice(1, 2, 3, 4, 5, 6, 7, 8, 9)") (syntax 33)
