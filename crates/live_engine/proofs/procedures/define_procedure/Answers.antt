use Rattle.std.proofs.Common.{◌≡◌, Option, is_some, option_map, option_copied, Bor, refl, sym, ap, ◌∙◌, arith}
use Rattle.statement_parser.specs.declared.procedure.Procedure.{Procedure}
use Rattle.statement_parser.specs.Procedures.{procedure_view}
use Rattle.kept_map.specs.Maps.{seen}
use Rattle.live_engine.proofs.Accepting.{accept_refused}
use Rattle.live_engine.proofs.procedures.define_procedure.Goals as goal

some_seen : (o : Option (Bor Procedure)) → is_some (option_map procedure_view (option_copied o)) ≡ is_some o
some_seen o = grind arith

pub returns-then-is_some-clause-accepts : goal.returns-then-is_some-clause-accepts
returns-then-is_some-clause-accepts c =
    let there = ap is_some (sym c.find.ensures) ∙ some_seen c.find.result ∙ sym c.is_some.ensures ∙ c.if-is_some.true in
    (accept_refused (seen c.args.map.now) _ _ (rw there refl), refl)

pub returns-in-Err-clause-accepts : goal.returns-in-Err-clause-accepts
returns-in-Err-clause-accepts c = c.in-Err.ensures.refused (seen c.args.map.now) refl
