use Rattle.std.proofs.Common.{◌≡◌, drop}
use Rattle.map_defs.specs.Calls.{wrong_call}
use Rattle.statement_parser.specs.Procedures.{procedures_view, body_view}
use Rattle.procedure_expand.proofs.checking.check_body.Given as goal

abbrev pub invariant-loop-inner : goal.invariant-loop-inner
invariant-loop-inner l = wrong_call (procedures_view l.procedures) (body_view (drop l.inner-index l.body)) ≡ wrong_call (procedures_view l.procedures) (body_view l.body)
