use Rattle.std.proofs.Common.{◌≡◌, length, rules}
use Rattle.std.proofs.lemmas.Result.{err_from_is_err_and}
use Rattle.kept_map.proofs.Planning.{rests}
use Rattle.kept_map.proofs.Replanning.{for_plan, replanned}
use Rattle.kept_map.proofs.preparing.prepare.Goals as goal

pub make_plan-requires : goal.make_plan-requires
make_plan-requires g c =
    let r = for_plan c.args.added c.requires.kept c.requires.set_up.2 c.requires.set_up.3 in
    record { acyclic = r.0; apart = r.1; few = r.2; sources = r.3; flats = r.4 }

pub returns-in_err-planned-clause-tally : goal.returns-in_err-planned-clause-tally
returns-in_err-planned-clause-tally g c e t set_up new = rests c.requires.kept set_up (g.M.Tally.counts c.args.tally.now)

pub repaired-requires-clause-planned : goal.repaired-requires-clause-planned
repaired-requires-clause-planned g c κs within =
    let r = c.requires.set_up in
    (r.0, r.1, _, replanned c.args.added c.requires.kept r.2 r.3 c.in_ok-planned.ensures)

pub returns-in_err-prepared-clause-halted : goal.returns-in_err-prepared-clause-halted
returns-in_err-prepared-clause-halted g c e t set_up new =
    let p = err_from_is_err_and c.from_residual-in_err-prepared.result c.from_residual-in_err-prepared.ensures.1 in
    rw (p.1, p.2) (c.in_err-prepared.ensures.halted e t _ (replanned c.args.added c.requires.kept set_up new c.in_ok-planned.ensures))

pub returns-in_err-prepared-clause-tally : goal.returns-in_err-prepared-clause-tally
returns-in_err-prepared-clause-tally g c e t set_up new = c.repaired.ensures.tally e t _ (replanned c.args.added c.requires.kept set_up new c.in_ok-planned.ensures)

pub returns-clause-prepared : goal.returns-clause-prepared
returns-clause-prepared g c e t set_up new = c.in_ok-prepared.ensures.prepared e t _ (replanned c.args.added c.requires.kept set_up new c.in_ok-planned.ensures)

pub returns-in_err-room-clause-tally : goal.returns-in_err-room-clause-tally
returns-in_err-room-clause-tally g c e t set_up new = c.repaired.ensures.tally e t _ (replanned c.args.added c.requires.kept set_up new c.in_ok-planned.ensures)

pub returns-clause-room : goal.returns-clause-room
returns-clause-room g c =
    let old : c.len.result ≡ length c.args.map.now.kept.items = search rules in
    let new : c.len-2.result ≡ length c.in_ok-planned.planned.steps.items = search rules in
    rw (← old, ← new) c.in_ok-room.ensures

pub returns-clause-tally : goal.returns-clause-tally
returns-clause-tally g c e t set_up new = c.repaired.ensures.tally e t _ (replanned c.args.added c.requires.kept set_up new c.in_ok-planned.ensures)
