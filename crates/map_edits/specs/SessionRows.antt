-- What worked sessions answer, count, stamp and may read.
use Rattle.std.specs.Prelude.{◌≡◌, ℕ, pos, List, [], ◌∷◌, Some, None, codes}
use Rattle.map_nums.specs.declared.Stat.TheVariants as stats
use Rattle.map_defs.specs.Ops.{layer_term}
use Rattle.map_defs.specs.Statements.{call}
use Rattle.map_edits.specs.EngineStates.{value_of}
use Rattle.map_edits.specs.Faults.{overflow}
use Rattle.map_edits.specs.EditForms.{new_layer, paint, drop_name}
use Rattle.map_edits.specs.Refusals.{unknown, is_derived, exists_already, wrong_size, cycle, fault, no_procedure, wrong_terms}
use Rattle.map_edits.specs.WholeStates.{stamps_of, cells_of}
use Rattle.map_edits.specs.WholeEdits.{WholeEdit, of_names, define_procedure, label, symbol}
use Rattle.map_edits.specs.Allowances.{Reads, edit_reads}
use Rattle.map_edits.specs.SessionWords.{cell, one_cell, corner, beyond_corner, with_number, twice, twice_of, put, repaint, write}
use Rattle.map_edits.specs.Sessions.{ok, refused, played, after}

-- a source A, and B that is A and 3
abbrev pub summed : List WholeEdit
summed = put (codes "A") 1 ∷ write (codes "B") (with_number stats.Sum (codes "A") 3) ∷ []

-- and C that is B and 3
abbrev pub chained : List WholeEdit
chained = put (codes "A") 1 ∷ write (codes "B") (with_number stats.Sum (codes "A") 3) ∷ write (codes "C") (with_number stats.Sum (codes "B") 3) ∷ []

-- a change that stops
abbrev pub stopping : List WholeEdit
stopping = put (codes "A") 1 ∷ write (codes "B") (with_number stats.Maximum (codes "A") 9) ∷ repaint (codes "A") 5 ∷ []

abbrev pub called : List WholeEdit
called = put (codes "A") 1 ∷ define_procedure twice ∷ write (codes "B") (twice_of (codes "A") 3) ∷ []

abbrev pub reads : ℕ → ℕ → Reads
reads looks picks = record { looks = looks; picks = picks }

pub record SessionRows : Type 0 where
  -- A is B and 1; B is A and 1; B is B and 1, over a source S
  pub cycles : played (put (codes "S") 7 ∷ write (codes "A") (with_number stats.Sum (codes "B") 1) ∷ write (codes "B") (with_number stats.Sum (codes "A") 1) ∷ write (codes "B") (with_number stats.Sum (codes "B") 1) ∷ [])
      ≡ ok 1 1 1 0 ∷ ok 2 0 0 0 ∷ refused (cycle (codes "B")) ∷ refused (cycle (codes "B")) ∷ []
  -- a statement before its operand has no grid
  pub before_operand : value_of (after (put (codes "A") 7 ∷ write (codes "C") (with_number stats.Sum (codes "Q") 1) ∷ [])).names (codes "C") ≡ None
  -- A is A and 1; drop Q; paint Q; paint C; paint beyond the map
  pub refusals : played (put (codes "A") 7 ∷ write (codes "C") (with_number stats.Sum (codes "A") 1) ∷ write (codes "A") (with_number stats.Sum (codes "A") 1) ∷ of_names (drop_name (codes "Q"))
      ∷ of_names (paint (codes "Q") corner None) ∷ of_names (paint (codes "C") corner None) ∷ of_names (paint (codes "A") beyond_corner None) ∷ [])
      ≡ ok 1 1 1 0 ∷ ok 2 1 1 0 ∷ refused (exists_already (codes "A")) ∷ refused (unknown (codes "Q")) ∷ refused (unknown (codes "Q")) ∷ refused (is_derived (codes "C")) ∷ refused (wrong_size cell) ∷ []
  -- a paint is seen through a statement, and one that makes it overflow is refused
  pub repainted : value_of (after (put (codes "A") 7 ∷ write (codes "B") (with_number stats.Sum (codes "A") 3) ∷ repaint (codes "A") 5 ∷ [])).names (codes "B") ≡ Some (one_cell 8)
  pub overflows : played (put (codes "A") 7 ∷ write (codes "B") (with_number stats.Sum (codes "A") 3) ∷ repaint (codes "A") 1000000000000000 ∷ of_names (drop_name (codes "B")) ∷ [])
      ≡ ok 1 1 1 0 ∷ ok 2 1 1 0 ∷ refused (fault (overflow (codes "B") 1 1)) ∷ ok 3 0 0 0 ∷ []
  pub stops : played stopping ≡ ok 1 1 1 0 ∷ ok 2 1 1 0 ∷ ok 3 1 2 0 ∷ []
  pub stamp_moves : stamps_of (after stopping).stamps (codes "A") ≡ Some (3 ∷ [])
  pub stamp_stays : stamps_of (after stopping).stamps (codes "B") ≡ Some (2 ∷ [])
  -- B reads C, which comes, goes and comes again
  pub late : played (put (codes "A") 7 ∷ write (codes "B") (with_number stats.Sum (codes "C") 1) ∷ of_names (new_layer (codes "C") (Some (pos 1))) ∷ of_names (drop_name (codes "C")) ∷ of_names (new_layer (codes "C") (Some (pos 1))) ∷ [])
      ≡ ok 1 1 1 0 ∷ ok 2 0 0 0 ∷ ok 3 2 2 0 ∷ ok 4 0 0 0 ∷ ok 5 2 2 0 ∷ []
  -- the fault of least depth is told: C stands before B, and is deeper
  pub by_depth : played (put (codes "A") 0 ∷ write (codes "C") (with_number stats.Product (codes "B") 1000000000000000) ∷ write (codes "B") (with_number stats.Product (codes "A") 1000000000000000) ∷ repaint (codes "A") 2 ∷ repaint (codes "A") 1 ∷ repaint (codes "A") 0 ∷ [])
      ≡ ok 1 1 1 0 ∷ ok 2 0 0 0 ∷ ok 3 2 2 0 ∷ refused (fault (overflow (codes "B") 1 1)) ∷ refused (fault (overflow (codes "C") 1 1)) ∷ ok 4 0 1 0 ∷ []
  -- a call; the same call again is written anew, and nothing changes
  pub calls : played (put (codes "A") 1 ∷ define_procedure twice ∷ write (codes "B") (twice_of (codes "A") 3) ∷ write (codes "B") (twice_of (codes "A") 3) ∷ define_procedure twice ∷ [])
      ≡ ok 1 1 1 0 ∷ ok 2 0 0 0 ∷ ok 3 2 2 0 ∷ ok 4 0 2 0 ∷ refused (exists_already (codes "Twice")) ∷ []
  pub inner : cells_of (after called).names (codes "B.x") ≡ Some (Some (pos 4) ∷ [])
  pub result : cells_of (after called).names (codes "B") ≡ Some (Some (pos 8) ∷ [])
  pub wrong_calls : played (define_procedure twice ∷ write (codes "D") (call (codes "Twice") (layer_term (codes "A") ∷ [])) ∷ write (codes "D") (call (codes "Once") (layer_term (codes "A") ∷ [])) ∷ [])
      ≡ ok 1 0 0 0 ∷ refused (wrong_terms 1 2) ∷ refused (no_procedure (codes "Once")) ∷ []
  -- labels and symbols stay over a rewriting, and go with a drop
  pub marks : played (put (codes "A") 1 ∷ label (codes "A") (pos 1) (codes "dry land") ∷ symbol (codes "A") (pos 2) 126 ∷ label (codes "Q") (pos 1) (codes "wet") ∷ of_names (drop_name (codes "A")) ∷ [])
      ≡ ok 1 1 1 0 ∷ ok 2 0 0 0 ∷ ok 3 0 0 0 ∷ refused (unknown (codes "Q")) ∷ ok 4 0 0 0 ∷ []
  -- what a paint may read: a tile of A and one of B; as much where B overflows, since C is deeper
  pub paint_reads : edit_reads (after summed) (repaint (codes "A") 5) ≡ reads 128 0
  pub refused_reads : edit_reads (after chained) (repaint (codes "A") 1000000000000000) ≡ reads 128 0
  pub late_reads : edit_reads (after chained) (repaint (codes "A") 999999999999995) ≡ reads 192 0
  pub no_reads : edit_reads (after chained) (of_names (paint (codes "B") corner None)) ≡ reads 0 0
