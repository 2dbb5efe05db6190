-- What procedures are, without where they lie in memory.
use Rattle.std.specs.Prelude.{List, map}
use Rattle.map_defs.specs.Statements as meant
use Rattle.statement_parser.specs.declared.procedure.Procedure.{Procedure}
pub use Rattle.statement_parser.specs.Views.{inner_view, body_view, procedure_view}

abbrev pub procedures_view : List Procedure → List meant.Procedure
procedures_view ps = map procedure_view ps
