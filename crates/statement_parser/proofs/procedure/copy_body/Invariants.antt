use Rattle.std.proofs.Common.{◌≡◌, take}
use Rattle.statement_parser.specs.Procedures.{body_view}
use Rattle.statement_parser.proofs.procedure.copy_body.Given as goal

abbrev pub invariant-loop-inner : goal.invariant-loop-inner
invariant-loop-inner l = body_view l.copies.items ≡ body_view (take l.inner-index l.body)
