use Rattle.std.proofs.Common.{arith}
use Rattle.std.proofs.lemmas.Result.{err_from_is_err_and}
use Rattle.kept_map.proofs.Planning.{few_steps, is_base, in_order, are_right, prepared_for, halted_for, rises_whole, rises_halted}
use Rattle.kept_map.proofs.preparing.repaired.Goals as goal

pub repair-requires-clause-base : goal.repair-requires-clause-base
repair-requires-clause-base g c κs within = is_base c.requires.kept c.requires.planned.3 c.as_slice.result c.as_slice-2.result c.as_slice.ensures.value c.as_slice-2.ensures.value

pub repair-requires-clause-planned : goal.repair-requires-clause-planned
repair-requires-clause-planned g c κs within = in_order c.requires.kept c.requires.planned.3 c.as_slice.result c.as_slice-2.result c.as_slice.ensures.value c.as_slice-2.ensures.value

pub repair-requires-clause-right : goal.repair-requires-clause-right
repair-requires-clause-right g c κs within = are_right c.requires.kept c.requires.planned.3 c.as_slice.result c.as_slice-2.result c.as_slice.ensures.value c.as_slice-2.ensures.value

pub repair-requires-clause-few : goal.repair-requires-clause-few
repair-requires-clause-few g c κs within =
    let few = few_steps c.requires.kept c.requires.planned.3 c.as_slice.result c.as_slice-2.result c.as_slice.ensures.value c.as_slice-2.ensures.value in
    omega (arith, few)

pub returns-in_err-prepared-clause-halted : goal.returns-in_err-prepared-clause-halted
returns-in_err-prepared-clause-halted g c e t sources plan =
    let p = err_from_is_err_and c.from_residual.result c.from_residual.ensures.1 in
    rw (p.1, p.2) (halted_for c.requires.kept plan c.as_slice.result c.as_slice-2.result c.as_slice.ensures.value c.as_slice-2.ensures.value
    c.in_err-prepared.field-0.0 c.in_err-prepared.ensures.halted)

pub returns-in_err-prepared-clause-tally : goal.returns-in_err-prepared-clause-tally
returns-in_err-prepared-clause-tally g c e t sources plan =
    let r = c.in_err-prepared.ensures.tally in
    rises_halted c.requires.kept plan c.as_slice.result c.as_slice-2.result c.as_slice.ensures.value c.as_slice-2.ensures.value
    c.in_err-prepared.field-0.0 r.0 c.in_err-prepared.ensures.halted r.1 (g.M.Tally.counts c.args.tally.now) (g.M.Tally.counts c.repair.new.tally) r.2

pub returns-clause-prepared : goal.returns-clause-prepared
returns-clause-prepared g c e t sources plan =
    let are = c.in_ok-prepared.ensures in
    prepared_for c.requires.kept plan c.as_slice.result c.as_slice-2.result c.as_slice.ensures.value c.as_slice-2.ensures.value
    c.in_ok-prepared.prepared are.count are.made are.faultless are.changed are.evaluated are.worked

pub returns-clause-tally : goal.returns-clause-tally
returns-clause-tally g c e t sources plan =
    let r = c.in_ok-prepared.ensures.tally in
    rises_whole c.requires.kept plan c.as_slice.result c.as_slice-2.result c.as_slice.ensures.value c.as_slice-2.ensures.value
    c.in_ok-prepared.ensures.faultless r.0 r.1 (g.M.Tally.counts c.args.tally.now) (g.M.Tally.counts c.repair.new.tally) r.2
