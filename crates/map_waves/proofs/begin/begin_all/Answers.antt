use Rattle.std.proofs.Common.{◌≡◌, List, [], ◌∷◌, ◌++◌, length, Result, Ok, Err, Some, slice_get, refl, sym, ap, subst, ◌∙◌, arith}
use Rattle.std.specs.Prelude.{IfErr, sum_by}
use Rattle.std.proofs.lemmas.List.{length_push}
use Rattle.std.proofs.lemmas.Option.{slice_get_read}
use Rattle.layer_tiles.specs.Operands.{cells_after}
use Rattle.layer_tiles.specs.Tallies.{RisesBy}
use Rattle.map_waves.specs.Jobs.{JobsState}
use Rattle.map_waves.specs.Answers.{LacksJobs}
use Rattle.map_waves.specs.Tasks.{IsTask}
use Rattle.map_waves.specs.Begun.{AreBegun}
use Rattle.map_waves.proofs.Making.{all_get}
use Rattle.map_waves.proofs.Depths.{begun_more, halted_fault, firsts_more, halted_rises, short_next}
use Rattle.map_waves.proofs.begin.begin_all.Given.{Over}
use Rattle.map_waves.proofs.begin.begin_all.Goals as goal
use Rattle.map_waves.proofs.begin.begin_all.Goals.{After-index-steps-task}

if_err : {A E : Type 0} (P : Type 0) (r : Result A E) → P → IfErr r (λ _. P)
if_err P (Ok a) h = tt
if_err P (Err e) h = h

-- ---- the task whose turn it is

at : (g : Over) (c : After-index-steps-task g) → slice_get c.args.tasks.now (length c.loop-task.jobs.items) ≡ Some c.task-item.result
at g c =
    let ts = c.args.tasks.now in
    ap (slice_get ts) c.loop-task.invariant.count ∙ slice_get_read ts (length ts) c.loop-task.task-index c.task-item.result refl c.loop-task-test.true c.task-item.is

there : (g : Over) (c : After-index-steps-task g) → slice_get c.args.steps.now c.task-item.result.place ≡ Some c.index-steps-task.result
there g c =
    let k = g.K.Maker in
    let steps = c.args.steps.now in
    let t = c.task-item.result in
    let task = all_get (IsTask k.means k.formed k.suits c.args.base.now steps) c.args.tasks.now c.requires.tasks (length c.loop-task.jobs.items) t (at g c) in
    slice_get_read steps (length steps) t.place c.index-steps-task.result refl task.below c.index-steps-task.is

pub returns-in_err-push-in-Ok-clause-short : goal.returns-in_err-push-in-Ok-clause-short
returns-in_err-push-in-Ok-clause-short g c =
    let k = g.K.Maker in
    let d = (goal.at.returns-in_err-push-in-Ok-clause-short g c).After-index-steps-task in
    if_err _ c.from_residual.result (short_next k.means k.formed k.suits k.sound k.first k.looks k.picks k.pieces c.args.base.now c.args.steps.now c.args.tasks.now c.loop-task.jobs.items c.task-item.result c.index-steps-task.result _ _ _
    c.requires.tasks c.loop-task.invariant.begun (at g d) (there g d) c.loop-task.invariant.tally c.in-Ok.ensures.tally)

pub returns-in_err-count-in-Err-clause-short : goal.returns-in_err-count-in-Err-clause-short
returns-in_err-count-in-Err-clause-short g c =
    let k = g.K.Maker in
    let d = (goal.at.returns-in_err-count-in-Err-clause-short g c).After-index-steps-task in
    if_err _ c.from_residual-in_err-count-in-Err.result (short_next k.means k.formed k.suits k.sound k.first k.looks k.picks k.pieces c.args.base.now c.args.steps.now c.args.tasks.now c.loop-task.jobs.items c.task-item.result c.index-steps-task.result _ _ _
    c.requires.tasks c.loop-task.invariant.begun (at g d) (there g d) c.loop-task.invariant.tally c.in-Err.ensures.tally)

pub returns-in-Err-clause-rises : goal.returns-in-Err-clause-rises
returns-in-Err-clause-rises g c =
    let k = g.K.Maker in
    let d = (goal.at.returns-in-Err-clause-rises g c).After-index-steps-task in
    halted_rises k.means k.formed k.suits k.sound k.first k.looks k.picks k.pieces c.args.base.now c.args.steps.now c.args.tasks.now c.loop-task.jobs.items c.task-item.result c.index-steps-task.result _ _ _
    c.requires.tasks (at g d) (there g d) c.loop-task.invariant.tally c.in-Err.ensures.tally

pub returns-in-Err-clause-halted : goal.returns-in-Err-clause-halted
returns-in-Err-clause-halted g c =
    let k = g.K.Maker in
    let base = c.args.base.now in
    let t = c.task-item.result in
    let x = c.index-steps-task.result in
    let d = (goal.at.returns-in-Err-clause-halted g c).After-index-steps-task in
    let lacks = subst (LacksJobs base.extent (k.means x.op) (cells_after t.operands)) c.in_ok-count-in-Err.ensures.viewers c.in-Err.ensures.halt in
    halted_fault k.means k.formed k.suits k.sound k.first k.looks k.picks k.pieces base c.args.steps.now c.args.tasks.now (length c.loop-task.jobs.items) t x c.in_ok-count-in-Err.count c.requires.tasks (at g d) (there g d) lacks

pub loop-task-preserved : goal.loop-task-preserved
loop-task-preserved g c =
    let k = g.K.Maker in
    let base = c.args.base.now in
    let steps = c.args.steps.now in
    let ts = c.args.tasks.now in
    let js = c.loop-task.jobs.items in
    let own = c.in-Ok.own in
    let d = (goal.at.loop-task-preserved g c).After-index-steps-task in
    let items : c.push.new.self.items ≡ js ++ own ∷ [] = c.in_ok-push-in-Ok.ensures.items in
    let begun = begun_more k.means k.formed k.suits k.sound k.first k.looks k.picks k.pieces base steps ts js c.task-item.result own c.index-steps-task.result c.loop-task.invariant.begun (at g d) (there g d) c.in-Ok.ensures.jobs c.in-Ok.ensures.over in
    let tally = firsts_more k.means k.formed k.suits k.sound k.first k.looks k.picks k.pieces base steps js own _ _ _ c.loop-task.invariant.tally c.in-Ok.ensures.found in
    record {
      count = omega (arith, c.loop-task.invariant.count, ap (λ (js : List (JobsState _ _ _)). length js) items ∙ length_push js own);
      begun = subst (AreBegun k.means k.sound k.first k.looks k.picks k.pieces base steps ts) (sym items) begun;
      tally = subst (λ (js : List (JobsState _ _ _)). RisesBy (sum_by k.first js) 0 (g.M.Tally.counts c.args.tally.now) (g.M.Tally.counts c.begin_step.new.tally)) (sym items) tally;
    }
