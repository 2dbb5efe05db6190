use Rattle.map_waves.specs.Keeping.{kept_now, was_of}
use Rattle.op_jobs.proofs.Hits.{found_rises}
use Rattle.op_jobs.proofs.Owned.{plain_jobs}
use Rattle.op_jobs.proofs.owning.plain_own.Goals as goal

pub returns-in-Ok-clause-answer : goal.returns-in-Ok-clause-answer
returns-in-Ok-clause-answer g c = λ op is edited.
    plain_jobs c.args.extent c.args.operands.now (was_of (kept_now c.args.kept)) c.in-Ok.tiles op c.args.kernel c.felt_within.result is edited.operands_are.count c.felt_within.ensures c.in-Ok.ensures.list

pub returns-in-Ok-clause-looks : goal.returns-in-Ok-clause-looks
returns-in-Ok-clause-looks g c = λ op is edited. found_rises c.args.extent op c.args.operands.now (kept_now c.args.kept) _ _ edited c.felt_tiles.ensures.looks

pub returns-in-Err-clause-looks : goal.returns-in-Err-clause-looks
returns-in-Err-clause-looks g c = λ op is edited. found_rises c.args.extent op c.args.operands.now (kept_now c.args.kept) _ _ edited c.felt_tiles.ensures.looks
