use Rattle.statement_parser.specs.Views.{line_view, manner_of}
use Rattle.statement_parser.proofs.Whole.{line_is, refusal_is}
use Rattle.statement_parser.proofs.line_text.of_words.Goals as goal

pub returns-in-Ok : goal.returns-in-Ok
returns-in-Ok c = line_is (manner_of c.args.rows.now) c.args.line.now c.args.words.now c.requires.short c.requires.spoken c.requires.good c.requires.words (line_view c.in-Ok.read) c.in-Ok.ensures

pub returns-in-Err-Fault : goal.returns-in-Err-Fault
returns-in-Err-Fault c =
    let fault = c.in-Err-Fault.fault in
    refusal_is (manner_of c.args.rows.now) c.args.line.now c.args.words.now c.requires.short c.requires.spoken c.requires.good c.requires.words line_view fault.kind fault.left c.refusal.result
    (rw c.in-Err-Fault.field-0-is at c.in-Err-Fault.ensures) c.refusal.ensures
