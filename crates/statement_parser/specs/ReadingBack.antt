-- A printed procedure reads back as itself.
use Rattle.std.specs.Prelude.{IsTrue}
use Rattle.map_words.specs.Bytes.{Text}
use Rattle.map_defs.specs.Statements.{Procedure}
use Rattle.statement_parser.specs.Lines.{Manner, define_procedure, edit}
use Rattle.statement_parser.specs.Formed.{IsProcedure}
use Rattle.statement_parser.specs.There.{IsEditThere}
use Rattle.statement_parser.specs.Texts.{is_short, LineText}

-- the text of a formed procedure is its line where its rows are there and it is no longer than one
abbrev pub ReadsBack : Procedure → Text → Type 0
ReadsBack p text = (m : Manner) → IsProcedure p → IsEditThere m (define_procedure p) → IsTrue (is_short text) → LineText m text (edit (define_procedure p))
