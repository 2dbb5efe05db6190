-- What printing appends.
use Rattle.std.specs.Prelude.{◌≡◌, List, ◌++◌, IsTrue}
use Rattle.map_words.specs.Bytes.{Text}
use Rattle.map_words.specs.Names.{is_plain}
use Rattle.map_defs.specs.Statements.{Written}
use Rattle.statement_parser.specs.Lines.{Manner, define, edit}
use Rattle.statement_parser.specs.Spacing.{spaced}
use Rattle.statement_parser.specs.Formed.{IsWritten}
use Rattle.statement_parser.specs.There.{IsWrittenThere}
use Rattle.statement_parser.specs.Texts.{is_short, LineText}

-- the bytes grew by these words, with a space before each
pub record Adds (old new : Text) (words : List Text) : Type 0 where
  pub grown : new ≡ old ++ spaced words

-- the bytes grew by these
pub record Grows (old new added : Text) : Type 0 where
  pub grown : new ≡ old ++ added

-- the text of a formed statement under a plain name is its line where its rows are there and it is no longer than one
abbrev pub ReadsBack : Text → Written → Text → Type 0
ReadsBack n w text = (m : Manner) → IsTrue (is_plain n) → IsWritten w → IsWrittenThere m w → IsTrue (is_short text) → LineText m text (edit (define n w))
