use Rattle.std.proofs.Common.{refl, arith}
use Rattle.std.proofs.lemmas.Result.{err_from_is_err_and}
use Rattle.sight_lines.specs.Puts.{sighting_of}
use Rattle.map_waves.specs.Keeping.{kept_now, was_of}
use Rattle.op_jobs.proofs.Kept.{viewers_there}
use Rattle.op_jobs.proofs.Owned.{sight_jobs, looks_within}
use Rattle.op_jobs.proofs.owning.sight_own.Goals as goal

pub returns-in_err-viewers-clause-answer : goal.returns-in_err-viewers-clause-answer
returns-in_err-viewers-clause-answer g c = λ t u.
    let p = err_from_is_err_and c.from_residual.result c.from_residual.ensures.1 in
    rw (p.1, p.2) (c.in_err-viewers.ensures.halt (sighting_of c.args.sight) t u)

pub returns-in_err-viewers-clause-looks : goal.returns-in_err-viewers-clause-looks
returns-in_err-viewers-clause-looks g c = λ t u.
    let there = viewers_there (kept_now c.args.kept) c.viewers_of.result c.viewers_of.ensures c.requires.edited.2 in
    looks_within (c.sight_begin.ensures.looks (sighting_of c.args.sight) t u (was_of (kept_now c.args.kept)) refl there) (omega arith)

pub returns-clause-answer : goal.returns-clause-answer
returns-clause-answer g c = λ t u.
    let was = was_of (kept_now c.args.kept) in
    let there = viewers_there (kept_now c.args.kept) c.viewers_of.result c.viewers_of.ensures c.requires.edited.2 in
    let ok = c.in_ok-viewers.ensures in
    rw (ok.viewers) (sight_jobs c.args.extent c.args.operands.now was c.in_ok-viewers.tiles c.args.sight t u c.requires.edited.2 ok.few (ok.damage (sighting_of c.args.sight) t u was refl there))

pub returns-clause-looks : goal.returns-clause-looks
returns-clause-looks g c = λ t u.
    let there = viewers_there (kept_now c.args.kept) c.viewers_of.result c.viewers_of.ensures c.requires.edited.2 in
    looks_within (c.sight_begin.ensures.looks (sighting_of c.args.sight) t u (was_of (kept_now c.args.kept)) refl there) (omega arith)
