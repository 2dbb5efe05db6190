use Rattle.std.proofs.Common.{◌≤◌, length, arith}
use Rattle.std.proofs.lemmas.Result.{err_from_is_err_and}
use Rattle.statement_parser.specs.Procedures.{procedures_view}
use Rattle.procedure_expand.proofs.Checks.{wrong_next, wrong_stops, wrong_done}
use Rattle.procedure_expand.proofs.checking.check_body.Goals as goal

pub returns-in_err-check_written : goal.returns-in_err-check_written
returns-in_err-check_written c =
    let p = err_from_is_err_and c.from_residual.result c.from_residual.ensures.1 in
    rw (p.1, p.2)
    (wrong_stops (procedures_view c.args.procedures.now) c.args.body.now c.loop-inner.inner-index c.inner-item.result c.loop-inner-test.true c.inner-item.is c.loop-inner.invariant (Unit {0}) (Unit {0}) _ c.in_err-check_written.ensures)

pub loop-inner-preserved : goal.loop-inner-preserved
loop-inner-preserved c =
    wrong_next (procedures_view c.args.procedures.now) c.args.body.now c.loop-inner.inner-index c.inner-item.result c.loop-inner-test.true c.inner-item.is c.loop-inner.invariant c.in_ok-check_written.ensures

pub returns : goal.returns
returns c =
    let le : length c.args.body.now ≤ c.loop-inner.inner-index = omega arith in
    wrong_done (procedures_view c.args.procedures.now) c.args.body.now c.loop-inner.inner-index le c.loop-inner.invariant
