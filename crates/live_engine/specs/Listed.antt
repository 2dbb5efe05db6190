-- A name as it is listed.
use Rattle.map_defs.specs.Ops.{Name}
use Rattle.map_defs.specs.Statements.{Written}
use Rattle.statement_parser.specs.Views.{written_view}
use Rattle.map_edits.specs.Entries.{Def, source, statement, Entry as StateEntry}
use Rattle.live_engine.specs.declared.engine.Entry.{Entry}
use Rattle.live_engine.specs.declared.engine.Entry.TheVariants.{Source, Statement}

-- that of a source, or a statement as it was written
pub data Listed : Type 0 where
  a_source : Name → Listed
  a_statement : Name → Written → Listed

abbrev pub listed_of : Entry → Listed
listed_of (Source n) = a_source n.now
listed_of (Statement n w) = a_statement n.now (written_view w.now)

abbrev pub listed : StateEntry → Listed
listed e = of_def e.name e.def
  where
    of_def : Name → Def → Listed
    of_def n (source grid) = a_source n
    of_def n (statement w flats) = a_statement n w
