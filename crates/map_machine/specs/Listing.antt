-- The list of what a state holds: procedures in order of definition, then names in order of place.
use Rattle.std.specs.Prelude.{ℕ, ◌+◌, List, ◌++◌, flat_map, length, codes}
use Rattle.map_defs.specs.Ops.{Name}
use Rattle.statement_parser.specs.Canonical.{written_text}
use Rattle.statement_parser.specs.ProcedureTexts.{procedure_text}
use Rattle.map_edits.specs.Entries.{Def, source, statement, Entry}
use Rattle.map_edits.specs.WholeStates.{WholeState}
use Rattle.map_machine.specs.Causes.{counted}

abbrev pub entry_line : Entry → List ℕ
entry_line e = of_def e.name e.def
  where
    of_def : Name → Def → List ℕ
    of_def n (source grid) = codes "source " ++ n ++ codes "\n"
    of_def n (statement written flats) = written_text n written ++ codes "\n"

abbrev pub list_reply : WholeState → List ℕ
list_reply s =
    counted (codes "list") (length s.procedures + length s.names.entries) ++ codes "\n"
    ++ flat_map (λ p. procedure_text p ++ codes "\n") s.procedures ++ flat_map entry_line s.names.entries
