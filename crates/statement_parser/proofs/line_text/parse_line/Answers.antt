use Rattle.statement_parser.specs.Views.{line_view, manner_of}
use Rattle.statement_parser.proofs.LineParts.{formed_parsed, there_parsed}
use Rattle.statement_parser.proofs.LineOfLemmas.{parsed_read}
use Rattle.statement_parser.proofs.line_text.parse_line.Goals as goal

pub returns-clause-read : goal.returns-clause-read
returns-clause-read c = parsed_read (manner_of c.args.rows.now) line_view c.args.line.now c.read_line.result c.read_line.ensures

pub returns-clause-formed : goal.returns-clause-formed
returns-clause-formed c = formed_parsed (manner_of c.args.rows.now) line_view c.args.line.now c.read_line.result c.read_line.ensures

pub returns-clause-there : goal.returns-clause-there
returns-clause-there c = there_parsed (manner_of c.args.rows.now) line_view c.args.line.now c.read_line.result c.read_line.ensures
