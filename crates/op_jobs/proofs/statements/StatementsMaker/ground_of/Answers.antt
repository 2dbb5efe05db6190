use Rattle.std.proofs.Common.{arith}
use Rattle.statement_parser.specs.Views.{op_view}
use Rattle.map_waves.specs.Keeping.{kept_now, was_of}
use Rattle.op_jobs.proofs.FreshOps.{grounding_fit}
use Rattle.op_jobs.proofs.ZonalParts.{none_was, all_found}
use Rattle.op_jobs.proofs.statements.StatementsMaker.ground_of.Goals as goal

pub returns-then-is_some-clause-fit : goal.returns-then-is_some-clause-fit
returns-then-is_some-clause-fit g c = let fit = grounding_fit c.args.extent (op_view c.args.op.now) (was_of (kept_now c.args.kept)) c.args.operands.now in omega (arith, fit)

pub returns-in_err-ground-clause-fit : goal.returns-in_err-ground-clause-fit
returns-in_err-ground-clause-fit g c = let fit = grounding_fit c.args.extent (op_view c.args.op.now) (was_of (kept_now c.args.kept)) c.args.operands.now in omega (arith, fit)

pub returns-in-Some-clause-fit : goal.returns-in-Some-clause-fit
returns-in-Some-clause-fit g c = let fit = grounding_fit c.args.extent (op_view c.args.op.now) (was_of (kept_now c.args.kept)) c.args.operands.now in omega (arith, fit)

pub returns-in-None-clause-fit : goal.returns-in-None-clause-fit
returns-in-None-clause-fit g c = let fit = grounding_fit c.args.extent (op_view c.args.op.now) (was_of (kept_now c.args.kept)) c.args.operands.now in omega (arith, fit)

pub returns-in-Some-clause-parts : goal.returns-in-Some-clause-parts
returns-in-Some-clause-parts g c = λ x r.
    all_found c.args.extent (op_view c.args.op.now) (was_of (kept_now c.args.kept)) c.args.operands.now c.from.result _ _ _ (none_was c.args.kept c.if-is_some.ensures) (omega (arith, c.from.ensures, c.if-parts-lt2.false)) c.ground_by.ensures.looks r
