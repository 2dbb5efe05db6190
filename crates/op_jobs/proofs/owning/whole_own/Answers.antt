use Rattle.std.proofs.Common.{sym, None}
use Rattle.map_waves.specs.Keeping.{kept_now}
use Rattle.op_jobs.specs.Grounds.{IsGroundOf, AreGrounded}
use Rattle.op_jobs.specs.Owning.{IsOwn}
use Rattle.op_jobs.proofs.Hits.{found_rises}
use Rattle.op_jobs.proofs.Owned.{both_some, at_some}
use Rattle.op_jobs.proofs.Repairing.{works}
use Rattle.op_jobs.proofs.ZonalParts.{none_was}
use Rattle.op_jobs.proofs.owning.whole_own.Goals as goal

pub returns-in-Ok-Some-clause-answer : goal.returns-in-Ok-Some-clause-answer
returns-in-Ok-Some-clause-answer g c = λ op of edited laid.
    let s = c.args.extent in
    let xs = c.args.operands.now in
    let found = both_some (λ q. IsGroundOf op q.0) (λ q. AreGrounded s xs q.0 q.1.items) c.args.found laid c.requires.found in
    rw (none_was c.args.kept (sym c.if-is_none.ensures)) (at_some (IsOwn s op xs None) c.in-Ok-Some.field-0 c.in-Ok-Some.own c.in-Ok-Some.field-0-is (c.in-Ok-Some.ensures.made op xs (works c.args.repair op.head of) edited.operands_are.formed found))

pub returns-in-Ok-clause-looks : goal.returns-in-Ok-clause-looks
returns-in-Ok-clause-looks g c = λ op of edited. found_rises c.args.extent op c.args.operands.now (kept_now c.args.kept) _ _ edited c.reached_tiles.ensures.looks

pub returns-clause-looks : goal.returns-clause-looks
returns-clause-looks g c = λ op of edited. found_rises c.args.extent op c.args.operands.now (kept_now c.args.kept) _ _ edited c.reached_tiles.ensures.looks
