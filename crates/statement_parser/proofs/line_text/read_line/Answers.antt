use Rattle.std.proofs.Common.{Some, length, sym, ap, ◌∙◌}
use Rattle.statement_parser.specs.Texts.{too_long, silent, bad_byte}
use Rattle.statement_parser.proofs.Whole.{not_short, not_long}
use Rattle.statement_parser.proofs.line_text.read_line.Goals as goal

pub returns-then-line-gt-LONGEST : goal.returns-then-line-gt-LONGEST
returns-then-line-gt-LONGEST c = too_long (not_short (length c.args.line.now) c.if-line-gt-LONGEST.true)

pub returns-then-is_silent : goal.returns-then-is_silent
returns-then-is_silent c = silent (not_long (length c.args.line.now) c.if-line-gt-LONGEST.false) (sym c.is_silent.ensures ∙ c.if-is_silent.true)

pub returns-in-Err-Byte : goal.returns-in-Err-Byte
returns-in-Err-Byte c = bad_byte (not_long (length c.args.line.now) c.if-line-gt-LONGEST.false) (sym c.is_silent.ensures ∙ c.if-is_silent.false) ((rw c.in-Err-Byte.field-0-is at c.in-Err-Byte.ensures.cut) ∙ ap Some (sym c.in-Err-Byte.at-is))
