-- The lines of a list.
use Rattle.std.specs.Prelude.{ℕ, List, ◌++◌, codes}
use Rattle.map_defs.specs.Statements.{Procedure}
use Rattle.statement_parser.specs.Canonical.{written_text}
use Rattle.statement_parser.specs.ProcedureTexts.{procedure_text}
use Rattle.live_engine.specs.Listed.{Listed, a_source, a_statement}

-- of a listed name
abbrev pub listed_line : Listed → List ℕ
listed_line (a_source n) = codes "source " ++ n ++ codes "\n"
listed_line (a_statement n w) = written_text n w ++ codes "\n"

abbrev pub procedure_line : Procedure → List ℕ
procedure_line p = procedure_text p ++ codes "\n"
