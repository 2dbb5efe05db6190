-- Where the text of a statement or a procedure is read as itself.
use Rattle.std.specs.Prelude.{◌≡◌, Bool, true, false, IsTrue}
use Rattle.map_words.specs.Bytes.{Text}
use Rattle.map_words.specs.Names.{is_plain}
use Rattle.map_defs.specs.Statements.{Written, plain, Inner, Procedure}
use Rattle.std.specs.List.{list_any}
use Rattle.statement_parser.specs.Lines.{define, define_procedure, edit}
use Rattle.statement_parser.specs.Formed.{IsWritten, IsProcedure}
use Rattle.statement_parser.specs.Canonical.{written_text}
use Rattle.statement_parser.specs.ProcedureTexts.{procedure_text}
use Rattle.statement_parser.specs.There.{is_ignoring}
use Rattle.statement_parser.specs.Texts.{is_short, LineText}
use Rattle.statement_parser.specs.declared.language.Language.TheVariants.{Two}
use Rattle.statement_parser.specs.declared.language.Place.{Place}
use Rattle.map_lines.specs.Present.{rows_at}

-- nulls are ignored in it
abbrev pub ignores : Written → Bool
ignores (plain o) = is_ignoring o.head
ignores w = false

-- in language 2 each formed statement, and in language 1 each that ignores no nulls
abbrev pub ReadsStatements : Place → Type 0
ReadsStatements p = (n : Text) (w : Written) → IsTrue (is_plain n) → IsWritten w → (ignores w ≡ true → p.language ≡ Two)
    → IsTrue (is_short (written_text n w)) → LineText (rows_at p) (written_text n w) (edit (define n w))

abbrev pub ReadsProcedures : Place → Type 0
ReadsProcedures p = (q : Procedure) → IsProcedure q → (list_any (λ (i : Inner). ignores i.written) q.body ≡ true → p.language ≡ Two)
    → IsTrue (is_short (procedure_text q)) → LineText (rows_at p) (procedure_text q) (edit (define_procedure q))
