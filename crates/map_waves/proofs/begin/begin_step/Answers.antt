use Rattle.std.proofs.Common.{◌*◌, length, subst, arith}
use Rattle.layer_tiles.specs.Tallies.{RisesBy}
use Rattle.layer_tiles.proofs.Rising.{rises_within}
use Rattle.map_waves.specs.Keeping.{was_of}
use Rattle.map_waves.specs.Statements.{damage_by, work_by}
use Rattle.map_waves.proofs.Finding.{found_after}
use Rattle.map_waves.proofs.begin.begin_step.Goals as goal

pub returns-in_default-clause-tally : goal.returns-in_default-clause-tally
returns-in_default-clause-tally g c =
    let s = c.args.base.now.extent in
    let op = g.K.Maker.means c.args.step.now.op in
    subst (λ k. RisesBy (60 * length (damage_by s op (was_of k) c.args.operands.now)) (1000 * work_by s op (was_of k) c.args.operands.now) (g.M.Tally.counts c.args.tally.now) (g.M.Tally.counts c.found_of.new.tally)) c.repaired_from-kept.ensures
    (rises_within _ 0 _ _ _ _ c.in_default.ensures.fit (omega arith) c.in_default.ensures.looks)

pub returns-clause-tally : goal.returns-clause-tally
returns-clause-tally g c =
    let s = c.args.base.now.extent in
    let op = g.K.Maker.means c.args.step.now.op in
    subst (λ k. RisesBy (60 * length (damage_by s op (was_of k) c.args.operands.now)) (1000 * work_by s op (was_of k) c.args.operands.now) (g.M.Tally.counts c.args.tally.now) (g.M.Tally.counts c.jobs_of.new.tally)) c.repaired_from-kept.ensures
    (c.jobs_of.ensures.tally (g.M.Tally.counts c.args.tally.now) c.in-Ok.ensures.looks)

pub returns-clause-found : goal.returns-clause-found
returns-clause-found g c = found_after c.jobs_of.result _ (λ j x. RisesBy (g.K.Maker.first j) 0 x (g.M.Tally.counts c.jobs_of.new.tally)) (g.M.Tally.counts c.args.tally.now) c.in-Ok.ensures.looks c.jobs_of.ensures.found
