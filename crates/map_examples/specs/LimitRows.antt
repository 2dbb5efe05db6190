-- How many names, procedures, labels and symbols there may be.
use Rattle.std.specs.Prelude.{◌≡◌, ℕ, pos, List, [], ◌∷◌, ◌++◌, map, Option, Some, None, Result, Ok, Err, codes, decimal}
use Rattle.std.specs.List.{range_with_len}
use Rattle.map_nums.specs.declared.Stat.TheVariants.{Sum}
use Rattle.map_defs.specs.Ops.{Name, layer_term, number_term, zonal_op}
use Rattle.map_defs.specs.Statements.{Written, Procedure, plain}
use Rattle.map_edits.specs.Entries.{Entry, source, statement}
use Rattle.map_edits.specs.Refusals.{Refusal, beyond, sources, statements, zonals, procedures, labels, symbols}
use Rattle.map_edits.specs.EditForms.{new_layer, define}
use Rattle.map_edits.specs.Marks.{Mark}
use Rattle.map_edits.specs.WholeStates.{WholeState}
use Rattle.map_edits.specs.WholeEdits.{of_names, define_procedure, label, symbol}
use Rattle.map_edits.specs.Attempts.{attempted}
use Rattle.map_edits.specs.SessionWords.{cell, one_cell, with_number, twice, twice_of}

abbrev pub A : List ℕ
A = codes "A"

-- names N0, N1 and so on
abbrev pub numbered : ℕ → Name
numbered k = codes "N" ++ decimal k

abbrev pub given : ℕ → Entry
given k = record { name = numbered k; def = source (one_cell 1) }

abbrev pub added : Written → ℕ → Entry
added (plain op) k = record { name = numbered k; def = statement (plain op) (record { name = numbered k; op = op } ∷ []) }
added written k = given k

abbrev pub mark : ℕ → Mark
mark k = record { name = A; value = pos k; text = codes "t" }

abbrev pub procedure : ℕ → Procedure
procedure k = record { name = numbered k; takes = codes "P" ∷ []; body = record { name = codes "result"; written = with_number Sum (codes "P") 1 } ∷ [] }

-- a source A, so many further entries, procedures, labels and symbols
abbrev pub state : List Entry → List Procedure → List Mark → List Mark → WholeState
state es ps ls ss = record { names = record { size = cell; entries = record { name = A; def = source (one_cell 1) } ∷ es; number = 9 }; procedures = ps; labels = ls; symbols = ss; stamps = [] }

abbrev pub answer : Result WholeState Refusal → Option Refusal
answer (Ok t) = None
answer (Err r) = Some r

abbrev pub of_zone : Written
of_zone = plain (zonal_op Sum (number_term (pos 1)) (layer_term A))

pub record LimitRows : Type 0 where
  pub last_source : answer (attempted (state (map given (range_with_len 0 30)) [] [] []) (of_names (new_layer (codes "B") None))) ≡ None
  pub one_source_more : answer (attempted (state (map given (range_with_len 0 31)) [] [] []) (of_names (new_layer (codes "B") None))) ≡ Some (beyond sources)
  pub last_statement : answer (attempted (state (map (added (with_number Sum A 1)) (range_with_len 0 63)) [] [] []) (of_names (define (codes "B") (with_number Sum A 1)))) ≡ None
  -- a call counts as many as it has flat statements
  pub one_statement_more : answer (attempted (state (map (added (with_number Sum A 1)) (range_with_len 0 63)) (twice ∷ []) [] []) (of_names (define (codes "B") (twice_of A 1)))) ≡ Some (beyond statements)
  pub last_zonal : answer (attempted (state (map (added of_zone) (range_with_len 0 11)) [] [] []) (of_names (define (codes "B") of_zone))) ≡ None
  pub one_zonal_more : answer (attempted (state (map (added of_zone) (range_with_len 0 12)) [] [] []) (of_names (define (codes "B") of_zone))) ≡ Some (beyond zonals)
  -- a statement that is written again isn't counted twice
  pub zonal_again : answer (attempted (state (map (added of_zone) (range_with_len 0 12)) [] [] []) (of_names (define (codes "N7") of_zone))) ≡ None
  pub last_procedure : answer (attempted (state [] (map procedure (range_with_len 0 31)) [] []) (define_procedure twice)) ≡ None
  pub one_procedure_more : answer (attempted (state [] (map procedure (range_with_len 0 32)) [] []) (define_procedure twice)) ≡ Some (beyond procedures)
  pub last_label : answer (attempted (state [] [] (map mark (range_with_len 0 4095)) []) (label A (pos 5000) (codes "u"))) ≡ None
  pub one_label_more : answer (attempted (state [] [] (map mark (range_with_len 0 4096)) []) (label A (pos 5000) (codes "u"))) ≡ Some (beyond labels)
  -- one that replaces another isn't counted again
  pub label_again : answer (attempted (state [] [] (map mark (range_with_len 0 4096)) []) (label A (pos 4000) (codes "u"))) ≡ None
  pub one_symbol_more : answer (attempted (state [] [] [] (map mark (range_with_len 0 4096))) (symbol A (pos 5000) 126)) ≡ Some (beyond symbols)
