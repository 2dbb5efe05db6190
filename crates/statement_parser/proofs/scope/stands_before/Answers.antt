use Rattle.std.proofs.Common.{sym, ◌∙◌}
use Rattle.statement_parser.specs.Views.{body_view}
use Rattle.statement_parser.proofs.ScopeFacts.{among_before, named_before, any_named}
use Rattle.statement_parser.proofs.scope.stands_before.Goals as goal

pub returns-then-is_among : goal.returns-then-is_among
returns-then-is_among c = among_before c.args.takes.now (body_view c.args.before.now) c.args.text.now (sym c.is_among.ensures ∙ c.if-is_among.true)

pub returns : goal.returns
returns c =
    c.is_named.ensures ∙ any_named c.args.before.now c.args.text.now
    ∙ named_before c.args.takes.now (body_view c.args.before.now) c.args.text.now (sym c.is_among.ensures ∙ c.if-is_among.false)
