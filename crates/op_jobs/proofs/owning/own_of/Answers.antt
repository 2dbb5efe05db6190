use Rattle.std.proofs.Common.{subst}
use Rattle.statement_parser.specs.Views.{op_view}
use Rattle.map_waves.specs.Found.{AreFound}
use Rattle.op_jobs.specs.Grounds.{AreGrounded, IsGrounded, IsPart}
use Rattle.op_jobs.specs.Repairs.{IsClassOf}
use Rattle.op_jobs.proofs.FreshOps.{grounded}
use Rattle.op_jobs.proofs.Owned.{for_some}
use Rattle.op_jobs.proofs.ZonalParts.{counts_found}
use Rattle.op_jobs.proofs.owning.own_of.Goals as goal

pub zonal_own-requires-clause-found : goal.zonal_own-requires-clause-found
zonal_own-requires-clause-found g c =
    let is = subst (IsClassOf (op_view c.args.op.now)) c.in-Zonal.is c.in-Ok.ensures in
    rw (c.parts_found-parts.ensures) (counts_found c.args.extent (op_view c.args.op.now) c.args.operands.now c.args.found c.in-Zonal.stat is.0 is.1 is.2 c.requires.found)

pub whole_own-requires-clause-found : goal.whole_own-requires-clause-found
whole_own-requires-clause-found g c =
    for_some (λ q. AreFound IsGrounded IsPart c.args.extent (op_view c.args.op.now) c.args.operands.now q.0 q.1.items) (λ q. AreGrounded c.args.extent c.args.operands.now q.0 q.1.items) c.args.found (λ q f. (grounded c.args.extent (op_view c.args.op.now) c.args.operands.now q.0 q.1.items f).1) c.requires.found

pub returns-in-Zonal-clause-answer : goal.returns-in-Zonal-clause-answer
returns-in-Zonal-clause-answer g c =
    let is = subst (IsClassOf (op_view c.args.op.now)) c.in-Zonal.is c.in-Ok.ensures in
    rw (is.2) (c.zonal_own.ensures.answer is.0 is.1)

pub returns-in-Zonal-clause-looks : goal.returns-in-Zonal-clause-looks
returns-in-Zonal-clause-looks g c =
    let is = subst (IsClassOf (op_view c.args.op.now)) c.in-Zonal.is c.in-Ok.ensures in
    rw (is.2) (c.zonal_own.ensures.looks is.0 is.1)

pub returns-in-Sight-clause-answer : goal.returns-in-Sight-clause-answer
returns-in-Sight-clause-answer g c =
    let is = subst (IsClassOf (op_view c.args.op.now)) c.in-Sight.is c.in-Ok.ensures in
    rw (is.2) (c.sight_own.ensures.answer is.0 is.1)

pub returns-in-Sight-clause-looks : goal.returns-in-Sight-clause-looks
returns-in-Sight-clause-looks g c =
    let is = subst (IsClassOf (op_view c.args.op.now)) c.in-Sight.is c.in-Ok.ensures in
    rw (is.2) (c.sight_own.ensures.looks is.0 is.1)
