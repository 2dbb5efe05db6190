use Rattle.std.proofs.Common.{◌≡◌, ◌+◌, ◌*◌, ◌≤◌, length, drop, take, Some, slice_get, refl, sym, ap, subst, ◌∙◌, arith}
use Rattle.std.specs.Prelude.{sum_by}
use Rattle.std.specs.Vec.Iter.{into_iter_items, into_iter_len}
use Rattle.std.proofs.lemmas.Option.{slice_get_read}
use Rattle.layer_tiles.specs.Tallies.{RisesBy}
use Rattle.layer_tiles.proofs.Rising.{rises_none}
use Rattle.map_waves.specs.Answers.{AllOk}
use Rattle.map_waves.specs.Plans.{damage_at}
use Rattle.map_waves.specs.Bases.{plan_of}
use Rattle.map_waves.specs.Tasks.{places_of}
use Rattle.map_waves.proofs.Gathering.{none_finished, place_above, finished_more, finished_all, tally_most, tally_more, damage_here, IsNext, next_of, IsTurn, turn_of}
use Rattle.map_waves.proofs.gather.finish_all.Given.{Over}
use Rattle.map_waves.proofs.gather.finish_all.Goals as goal
use Rattle.map_waves.proofs.gather.finish_all.Goals.{In-Some, After-index-tasks-place, After-index-steps-task, After-finish_step}

-- ---- the turn of a statement

next_is : (g : Over) (c : In-Some g) → IsNext c.args.jobs.items (into_iter_items c.next.new.self) c.turns.place c.in-Some.own
next_is g c = next_of c.args.jobs.items (into_iter_items c.turns.queue) (into_iter_items c.next.new.self) c.turns.place c.in-Some.own c.turns.invariant.queue c.in-Some.ensures.items

turn : (g : Over) (c : After-index-tasks-place g)
    → IsTurn g.K.Maker.means g.K.Maker.formed g.K.Maker.suits g.K.Maker.sound g.K.Maker.first g.K.Maker.looks g.K.Maker.picks g.K.Maker.pieces c.args.base.now c.args.steps.now c.args.depth.now.tasks.now c.args.jobs.items c.args.answers.items c.turns.place c.index-tasks-place.result c.in-Some.own
turn g c =
    let k = g.K.Maker in
    let d = c.args.depth.now in
    turn_of k.means k.formed k.suits k.sound k.first k.looks k.picks k.pieces c.args.base.now c.args.steps.now d.tasks.now c.args.jobs.items (into_iter_items c.next.new.self) c.args.answers.items d.first d.end c.turns.place c.index-tasks-place.result c.in-Some.own
    c.requires.tasks c.requires.begun c.requires.all c.requires.answered (next_is g (goal.at.After-index-tasks-place g c).In-Some) c.index-tasks-place.is

above : (g : Over) (c : After-index-tasks-place g) → c.args.depth.now.first + length c.turns.more.items ≤ c.index-tasks-place.result.place
above g c =
    let k = g.K.Maker in
    let d = c.args.depth.now in
    place_above k.means k.formed k.suits c.args.base.now c.args.steps.now d.first d.end d.tasks.now c.turns.place c.turns.more.items c.turns.invariant.finished c.index-tasks-place.result (turn g c).at

there : (g : Over) (c : After-index-steps-task g) → slice_get c.args.steps.now c.index-tasks-place.result.place ≡ Some c.index-steps-task.result
there g c =
    slice_get_read c.args.steps.now (length c.args.steps.now) c.index-tasks-place.result.place c.index-steps-task.result refl (turn g (goal.at.After-index-steps-task g c).After-index-tasks-place).task.below c.index-steps-task.is

-- the looks with those at this statement
looks_more : (g : Over) (c : After-finish_step g)
    → RisesBy (2 * sum_by (λ i. length (damage_at (plan_of g.K.Maker.means c.args.base.now c.args.steps.now) i)) (places_of (take (c.turns.place + 1) c.args.depth.now.tasks.now))) 0 (g.M.Tally.counts c.args.tally.now) (g.M.Tally.counts c.finish_step.new.tally)
looks_more g c =
    let k = g.K.Maker in
    let t = turn g (goal.at.After-finish_step g c).After-index-tasks-place in
    let x = there g (goal.at.After-finish_step g c).After-index-steps-task in
    tally_more (plan_of k.means c.args.base.now c.args.steps.now) c.turns.place c.args.depth.now.tasks.now c.index-tasks-place.result _ _ _ _ t.at
    (damage_here k.means k.formed k.suits c.args.base.now c.args.steps.now c.index-tasks-place.result t.task c.index-steps-task.result x c.in-Some.own.operands t.operands) c.turns.invariant.tally c.finish_step.ensures.tally

pub bounds-tasks-place : goal.bounds-tasks-place
bounds-tasks-place g c = omega (arith, (next_is g (goal.at.bounds-tasks-place g c).In-Some).within, c.requires.all)

pub overflow_sub-task : goal.overflow_sub-task
overflow_sub-task g c = omega (arith, above g (goal.at.overflow_sub-task g c).After-index-tasks-place)

pub fill-requires : goal.fill-requires
fill-requires g c = omega (arith, above g (goal.at.fill-requires g c).After-index-tasks-place)

pub take_pieces-requires-clause-some : goal.take_pieces-requires-clause-some
take_pieces-requires-clause-some g c =
    let t = turn g (goal.at.take_pieces-requires-clause-some g c).After-index-tasks-place in
    omega (arith, t.some (into_iter_len c.turns.rest) c.turns.invariant.left, c.count_of-count.ensures)

pub take_pieces-requires-clause-ok : goal.take_pieces-requires-clause-ok
take_pieces-requires-clause-ok g c =
    let n = next_is g (goal.at.take_pieces-requires-clause-ok g c).In-Some in
    let t = turn g (goal.at.take_pieces-requires-clause-ok g c).After-index-tasks-place in
    subst (λ n. AllOk (take n (into_iter_items c.turns.rest))) (sym c.count_of-count.ensures) (t.ok (into_iter_items c.turns.rest) c.turns.invariant.rest (c.requires.ok c.turns.place n.within))

pub bounds-steps-task : goal.bounds-steps-task
bounds-steps-task g c = (turn g (goal.at.bounds-steps-task g c).After-index-tasks-place).task.below

pub offset_bounds-steps-task : goal.offset_bounds-steps-task
offset_bounds-steps-task g c = omega (arith, (turn g (goal.at.offset_bounds-steps-task g c).After-index-tasks-place).task.below)

pub finish_step-requires-clause-jobs : goal.finish_step-requires-clause-jobs
finish_step-requires-clause-jobs g c ks lives = (turn g (goal.at.finish_step-requires-clause-jobs g c).After-index-tasks-place).jobs

pub finish_step-requires-clause-over : goal.finish_step-requires-clause-over
finish_step-requires-clause-over g c ks lives =
    let d = goal.at.finish_step-requires-clause-over g c in
    (turn g d.After-index-tasks-place).over c.index-steps-task.result (there g d.After-index-steps-task)

pub finish_step-requires-clause-each : goal.finish_step-requires-clause-each
finish_step-requires-clause-each g c ks lives =
    let t = turn g (goal.at.finish_step-requires-clause-each g c).After-index-tasks-place in
    t.each (into_iter_items c.turns.rest) c.turns.invariant.rest c.in_ok-pieces.pieces.items (c.in_ok-pieces.ensures.count ∙ c.count_of-count.ensures) c.in_ok-pieces.ensures.each

pub finish_step-requires-clause-faultless : goal.finish_step-requires-clause-faultless
finish_step-requires-clause-faultless g c ks lives =
    let d = goal.at.finish_step-requires-clause-faultless g c in
    (turn g d.After-index-tasks-place).faultless c.index-steps-task.result (there g d.After-index-steps-task) (c.requires.ok c.turns.place (next_is g d.In-Some).within)

-- ---- the looks

pub returns-in_err-fill-clause-tally : goal.returns-in_err-fill-clause-tally
returns-in_err-fill-clause-tally g c = tally_most (plan_of g.K.Maker.means c.args.base.now c.args.steps.now) c.turns.place c.args.depth.now.tasks.now _ _ c.turns.invariant.tally

pub returns-in_err-pieces-clause-tally : goal.returns-in_err-pieces-clause-tally
returns-in_err-pieces-clause-tally g c = tally_most (plan_of g.K.Maker.means c.args.base.now c.args.steps.now) c.turns.place c.args.depth.now.tasks.now _ _ c.turns.invariant.tally

pub returns-in_err-fill-2-clause-tally : goal.returns-in_err-fill-2-clause-tally
returns-in_err-fill-2-clause-tally g c = tally_most (plan_of g.K.Maker.means c.args.base.now c.args.steps.now) c.turns.place c.args.depth.now.tasks.now _ _ c.turns.invariant.tally

pub returns-clause-tally : goal.returns-clause-tally
returns-clause-tally g c = tally_most (plan_of g.K.Maker.means c.args.base.now c.args.steps.now) c.turns.place c.args.depth.now.tasks.now _ _ c.turns.invariant.tally

pub returns-in_err-made-clause-tally : goal.returns-in_err-made-clause-tally
returns-in_err-made-clause-tally g c = tally_most (plan_of g.K.Maker.means c.args.base.now c.args.steps.now) (c.turns.place + 1) c.args.depth.now.tasks.now _ _ (looks_more g (goal.at.returns-in_err-made-clause-tally g c).After-finish_step)

pub returns-in_err-push-clause-tally : goal.returns-in_err-push-clause-tally
returns-in_err-push-clause-tally g c = tally_most (plan_of g.K.Maker.means c.args.base.now c.args.steps.now) (c.turns.place + 1) c.args.depth.now.tasks.now _ _ (looks_more g (goal.at.returns-in_err-push-clause-tally g c).After-finish_step)

-- ---- all turns

pub turns-init : goal.turns-init
turns-init g c =
    let k = g.K.Maker in
    let d = c.args.depth.now in
    record {
      queue = c.into_iter-queue.ensures.rest;
      waiting = omega (arith, c.into_iter-queue.ensures.len);
      finished = none_finished k.means k.formed k.suits c.args.base.now c.args.steps.now d.first d.end d.tasks.now c.requires.tasks c.requires.some c.new-more.result.items c.new-more.ensures.items;
      rest = c.into_iter-rest.ensures.rest;
      left = omega (arith, c.into_iter-rest.ensures.len);
      tally = rises_none _;
    }

pub overflow_add-place : goal.overflow_add-place
overflow_add-place g c = omega (arith, (next_is g (goal.at.overflow_add-place g c).In-Some).within, c.args.jobs.small)

pub turns-preserved : goal.turns-preserved
turns-preserved g c =
    let k = g.K.Maker in
    let depth = c.args.depth.now in
    let d = goal.at.turns-preserved g c in
    let t = turn g d.After-index-tasks-place in
    let finished =
    finished_more k.means k.formed k.suits c.args.base.now c.args.steps.now depth.first depth.end depth.tasks.now c.turns.place c.turns.more.items c.turns.invariant.finished c.index-tasks-place.result t.at t.task c.index-steps-task.result
    (there g d.After-index-steps-task) c.fill.new.list.items c.push.new.self.items c.in_ok-made.made c.in_ok-fill.ensures c.in-Some.own.operands t.operands c.in_ok-made.ensures.made c.in_ok-push.ensures.items in
    record {
      queue = (next_is g d.In-Some).rest;
      waiting = omega (arith, c.turns.invariant.waiting, c.in-Some.ensures.cases.1);
      finished = finished;
      rest = t.rest (into_iter_items c.turns.rest) (into_iter_items c.take_pieces.new.answers) c.turns.invariant.rest (c.in_ok-pieces.ensures.rest ∙ ap (λ n. drop n (into_iter_items c.turns.rest)) c.count_of-count.ensures);
      left = t.left (into_iter_len c.turns.rest) (into_iter_len c.take_pieces.new.answers) c.turns.invariant.left (omega (arith, c.in_ok-pieces.ensures.left, c.count_of-count.ensures));
      tally = looks_more g d.After-finish_step;
    }

pub returns-clause-prepared : goal.returns-clause-prepared
returns-clause-prepared g c =
    let k = g.K.Maker in
    let d = c.args.depth.now in
    let past : length d.tasks.now ≤ c.turns.place = omega (arith, c.requires.all, c.turns.invariant.waiting, c.in_default.ensures.cases.0) in
    finished_all k.means k.formed k.suits c.args.base.now c.args.steps.now d.first d.end d.tasks.now c.turns.place c.turns.more.items c.turns.invariant.finished past c.fill-2.new.list.items c.requires.some c.in_ok-fill-2.ensures
