use Rattle.statement_parser.specs.Views.{texts_of, line_view, manner_of}
use Rattle.statement_parser.proofs.Whole.{words_read}
use Rattle.statement_parser.proofs.parsing.parse_words.Goals as goal

pub returns : goal.returns
returns c = words_read (manner_of c.args.rows.now) line_view (texts_of c.args.words.now) c.line.result c.line.ensures
