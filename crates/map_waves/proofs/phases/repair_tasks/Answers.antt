use Rattle.std.proofs.Common.{◌≤◌, List, length, sym, subst, arith}
use Rattle.std.specs.List.{All}
use Rattle.map_waves.specs.Jobs.{JobsState}
use Rattle.layer_tiles.specs.Tallies.{RisesBy}
use Rattle.map_waves.specs.Answers.{AreJobs}
use Rattle.map_waves.specs.Seating.{all_rises, AreAnswered}
use Rattle.map_waves.proofs.Depths.{begun_jobs, begun_short, stopped_rises, phase_rises, short_rises, is_stop, stop_as, ok_as}
use Rattle.map_waves.proofs.phases.repair_tasks.Given.{Over}
use Rattle.map_waves.proofs.phases.repair_tasks.Goals as goal
use Rattle.map_waves.proofs.phases.repair_tasks.Goals.{After-do_jobs}

-- the rise of the jobs that were done
done : (g : Over) (c : After-do_jobs g) → RisesBy (all_rises g.K.Maker.looks c.in-Ok.begun.0.items) (all_rises g.K.Maker.picks c.in-Ok.begun.0.items) (g.M.Tally.counts c.begin_all.new.tally) (g.M.Tally.counts c.do_jobs.new.tally)
done g c =
    let k = g.K.Maker in
    subst (λ (js : List (JobsState _ _ _)). RisesBy (all_rises k.looks js) (all_rises k.picks js) (g.M.Tally.counts c.begin_all.new.tally) (g.M.Tally.counts c.do_jobs.new.tally)) c.deref.ensures.value c.do_jobs.ensures.tally

pub returns-in_default-clause-tally : goal.returns-in_default-clause-tally
returns-in_default-clause-tally g c =
    let k = g.K.Maker in
    let d = c.args.depth.now in
    short_rises k.means k.formed k.suits k.sound k.first k.looks k.picks k.pieces c.args.base.now c.args.steps.now d.first d.end d.tasks.now _ _ c.requires.tasks (omega arith) c.in_default.ensures.short

pub do_jobs-requires-clause-jobs : goal.do_jobs-requires-clause-jobs
do_jobs-requires-clause-jobs g c ks lives =
    let k = g.K.Maker in
    let jobs = begun_jobs k.means k.formed k.suits k.sound k.first k.looks k.picks k.pieces c.args.base.now c.args.steps.now c.args.depth.now.tasks.now c.in-Ok.begun.0.items c.in-Ok.ensures.begun in
    subst (λ js. All (AreJobs k.means k.sound k.first k.looks k.picks k.pieces) js) (sym c.deref.ensures.value) jobs

pub stop_of-requires-clause-few : goal.stop_of-requires-clause-few
stop_of-requires-clause-few g c =
    let k = g.K.Maker in
    let ts = c.args.depth.now.tasks.now in
    let few = begun_short k.means k.formed k.suits k.sound k.first k.looks k.picks k.pieces c.args.base.now c.args.steps.now ts c.in-Ok.begun.0.items c.in-Ok.ensures.begun in
    subst (λ (js : List (JobsState _ _ _)). length js ≤ length ts) (sym c.deref-2.ensures.value) few

pub returns-in_default-do_jobs-clause-tally : goal.returns-in_default-do_jobs-clause-tally
returns-in_default-do_jobs-clause-tally g c =
    let k = g.K.Maker in
    let d = c.args.depth.now in
    stopped_rises k.means k.formed k.suits k.sound k.first k.looks k.picks k.pieces c.args.base.now c.args.steps.now d.first d.end d.tasks.now c.in-Ok.begun.0.items c.in-Ok.begun.1 _ _ _
    c.requires.tasks (omega arith) c.in-Ok.ensures.begun c.in-Ok.ensures.halted c.in-Ok.ensures.rises (done g (goal.at.returns-in_default-do_jobs-clause-tally g c).After-do_jobs)

pub returns-in-Some-clause-tally : goal.returns-in-Some-clause-tally
returns-in-Some-clause-tally g c =
    let k = g.K.Maker in
    let d = c.args.depth.now in
    stopped_rises k.means k.formed k.suits k.sound k.first k.looks k.picks k.pieces c.args.base.now c.args.steps.now d.first d.end d.tasks.now c.in-Ok.begun.0.items c.in-Ok.begun.1 _ _ _
    c.requires.tasks (omega arith) c.in-Ok.ensures.begun c.in-Ok.ensures.halted c.in-Ok.ensures.rises (done g (goal.at.returns-in-Some-clause-tally g c).After-do_jobs)

pub returns-in-Some-clause-phase : goal.returns-in-Some-clause-phase
returns-in-Some-clause-phase g c =
    let k = g.K.Maker in
    let d = c.args.depth.now in
    let js = c.in-Ok.begun.0.items in
    let rs = c.in-Ok-do_jobs.answers.items in
    let answered = subst (λ (js : List (JobsState _ _ _)). AreAnswered k.pieces js rs) c.deref.ensures.value c.in-Ok-do_jobs.ensures.answers in
    is_stop k.means k.formed k.suits k.sound k.first k.looks k.picks k.pieces c.args.base.now c.args.steps.now d.first d.end d.tasks.now js rs c.requires.tasks c.in-Ok.ensures.begun answered c.in-Ok.begun.1 c.in-Some.stop c.in-Ok.ensures.halted
    (stop_as d.tasks.now js c.deref-2.result.now rs c.deref-3.result.now c.deref-2.ensures.value c.deref-3.ensures.value c.in-Ok.begun.1 c.in-Some.stop c.in-Some.ensures)

pub finish_all-requires-clause-ok : goal.finish_all-requires-clause-ok
finish_all-requires-clause-ok g c ks lives =
    ok_as c.args.depth.now.tasks.now c.in-Ok.begun.0.items c.deref-2.result.now c.in-Ok-do_jobs.answers.items c.deref-3.result.now c.deref-2.ensures.value c.deref-3.ensures.value c.in_default-stop_of.ensures.1

pub returns-in-Ok-finish_all-clause-tally : goal.returns-in-Ok-finish_all-clause-tally
returns-in-Ok-finish_all-clause-tally g c =
    let k = g.K.Maker in
    let d = c.args.depth.now in
    phase_rises k.means k.formed k.suits k.sound k.first k.looks k.picks k.pieces c.args.base.now c.args.steps.now d.first d.end d.tasks.now c.in-Ok.begun.0.items c.in-Ok.begun.1 _ _ _ _
    c.requires.tasks (omega arith) c.in-Ok.ensures.begun c.in-Ok.ensures.halted c.in-Ok.ensures.rises (done g (goal.at.returns-in-Ok-finish_all-clause-tally g c).After-do_jobs) c.in-Ok-finish_all.ensures.tally

pub returns-in-Err-clause-tally : goal.returns-in-Err-clause-tally
returns-in-Err-clause-tally g c =
    let k = g.K.Maker in
    let d = c.args.depth.now in
    phase_rises k.means k.formed k.suits k.sound k.first k.looks k.picks k.pieces c.args.base.now c.args.steps.now d.first d.end d.tasks.now c.in-Ok.begun.0.items c.in-Ok.begun.1 _ _ _ _
    c.requires.tasks (omega arith) c.in-Ok.ensures.begun c.in-Ok.ensures.halted c.in-Ok.ensures.rises (done g (goal.at.returns-in-Err-clause-tally g c).After-do_jobs) c.in-Err.ensures.tally
