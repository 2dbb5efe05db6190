use Rattle.std.proofs.Common.{arith}
use Rattle.statement_parser.specs.Views.{op_view}
use Rattle.map_waves.specs.Keeping.{kept_now, was_of}
use Rattle.op_jobs.proofs.Coming.{are_jobs}
use Rattle.op_jobs.proofs.FreshOps.{begun_rises, first_least}
use Rattle.op_jobs.proofs.statements.StatementsMaker.jobs_of.Goals as goal

pub returns-clause-jobs : goal.returns-clause-jobs
returns-clause-jobs g c =
    are_jobs
    (record { size = c.args.extent; op = c.args.op.now; operands = c.args.operands.now; kept = kept_now c.args.kept; count = c.count_of-count.result; own = c.in_ok-own.own })
    (record {
      size = c.tiles-size.ensures.size;
      edited = record { operands_are = record { formed = c.requires.formed; count = c.requires.terms; each = c.requires.operands }; right = c.requires.right };
      own_is = c.in_ok-own.ensures.answer;
      count_is = c.count_of-count.ensures;
    })

pub returns-in_err-own-clause-tally : goal.returns-in_err-own-clause-tally
returns-in_err-own-clause-tally g c = λ x r. begun_rises c.args.extent (op_view c.args.op.now) (was_of (kept_now c.args.kept)) c.args.operands.now _ _ x _ _ (omega arith) r c.own_of.ensures.looks

pub returns-clause-tally : goal.returns-clause-tally
returns-clause-tally g c = λ x r. begun_rises c.args.extent (op_view c.args.op.now) (was_of (kept_now c.args.kept)) c.args.operands.now _ _ x _ _ (omega arith) r c.own_of.ensures.looks

pub returns-clause-found : goal.returns-clause-found
returns-clause-found g c = λ x r. begun_rises c.args.extent (op_view c.args.op.now) (was_of (kept_now c.args.kept)) c.args.operands.now _ 0 x _ _ (first_least c.in_ok-own.own _) r c.own_of.ensures.looks
