use Rattle.std.proofs.Common.{◌≡◌, ℕ, suc, ◌+◌, ◌-◌, ◌*◌, ◌≤◌, length, ap, ◌∙◌, sym, subst, arith}
use Rattle.std.specs.Int.{from_bool}
use Rattle.map_nums.specs.Grids.{cells_in}
use Rattle.layer_tiles.proofs.Rising.{rises_then, rises_within}
use Rattle.tile_work.specs.Working.{base_of, copies}
use Rattle.least_costs.specs.Ranks.{changed, arrived}
use Rattle.least_costs.specs.Queue.{IsDue, falls, rises, is_first}
use Rattle.least_costs.proofs.Queues.{popped_length}
use Rattle.least_costs.proofs.Takes.{changed_most}
use Rattle.least_costs.proofs.Steps.{Went, went, all_least, due_on_way, fewer}
use Rattle.friction_spread.specs.Costs.{values, net_of}
use Rattle.friction_spread.proofs.Grounds.{net_closed, net_costs, no_loop}
use Rattle.friction_spread.proofs.Settling.{key_below, same_then, moved_same, due_moved, caused_then, allowed, picks_next, enough_next, picks_last, on_err}
use Rattle.friction_spread.proofs.settle.settle.Given.{Over}
use Rattle.friction_spread.proofs.settle.settle.Goals as goal
use Rattle.friction_spread.proofs.settle.settle.Goals.{After-from-moved}

went_here : (g : Over) (c : After-from-moved g) → Went (net_of c.args.ground.now) (values c.args.ground.now.limit (base_of c.args.labels.now.before)) (values c.args.ground.now.limit c.loop-key.labels.cells) c.loop-key.queue c.loop-key.moved (values c.args.ground.now.limit c.deal.new.labels.cells) c.deal.new.queue (c.loop-key.moved + c.from-moved.result) (falls c.in_ok-dealt.dealt.outcome) (rises c.in_ok-dealt.dealt.outcome)
went_here g c =
    let gr = c.args.ground.now in
    let old = values gr.limit (base_of c.args.labels.now.before) in
    let d = values gr.limit c.loop-key.labels.cells in
    let d' = values gr.limit c.deal.new.labels.cells in
    let b : base_of c.loop-key.labels.before ≡ base_of c.args.labels.now.before = ap base_of c.loop-key.invariant.same.before in
    let e : c.from-moved.result ≡ from_bool (is_first old d c.in-Some.at c.in_ok-dealt.dealt.outcome) =
    c.from-moved.ensures ∙ ap from_bool (c.in_ok-dealt.ensures.first ∙ ap (λ xs. is_first (values gr.limit xs) d c.in-Some.at c.in_ok-dealt.dealt.outcome) b) in
    let P : ℕ → Type 0 = λ n. Went (net_of gr) old d c.loop-key.queue c.loop-key.moved d' c.deal.new.queue (c.loop-key.moved + n) (falls c.in_ok-dealt.dealt.outcome) (rises c.in_ok-dealt.dealt.outcome) in
    subst P (sym e)
    (went (net_of gr) (net_closed gr) (net_costs gr) (no_loop gr) old d c.loop-key.queue c.pop.new.self c.loop-key.moved c.in-Some.key c.in-Some.at c.loop-key.invariant.repairing c.in-Some.ensures.entry c.in-Some.ensures.least d' c.deal.new.queue c.in_ok-dealt.dealt.outcome c.in_ok-dealt.ensures.did)

pub deal-requires-clause-least : goal.deal-requires-clause-least
deal-requires-clause-least g c = let gr = c.args.ground.now in key_below (net_of gr) (values gr.limit c.loop-key.labels.cells) c.loop-key.queue c.in-Some.key c.in-Some.at (c.loop-key.invariant.repairing.queued c.in-Some.at) c.in-Some.ensures.least

pub overflow_add-moved : goal.overflow_add-moved
overflow_add-moved g c =
    let gr = c.args.ground.now in
    let m = (went_here g (goal.at.overflow_add-moved g c).After-from-moved).repairing.moved_is in
    let n = changed_most (values gr.limit (base_of c.args.labels.now.before)) (values gr.limit c.deal.new.labels.cells) (cells_in gr.size) in
    omega (arith, m, n, c.extent-extent.ensures.ground.size.most_cells)

pub loop-key-smaller : goal.loop-key-smaller
loop-key-smaller g c = (went_here g (goal.at.loop-key-smaller g c).After-from-moved).smaller

pub loop-key-preserved : goal.loop-key-preserved
loop-key-preserved g c =
    let e = (goal.at.loop-key-preserved g c).After-from-moved in
    let gr = c.args.ground.now in
    let la = c.args.labels.now in
    let lb = c.loop-key.labels in
    let lc = c.deal.new.labels in
    let w = went_here g e in
    let old = values gr.limit (base_of la.before) in
    let n = length c.loop-key.queue in
    let n' = length c.deal.new.queue in
    let m = c.loop-key.moved in
    let m' = c.loop-key.moved + c.from-moved.result in
    let r = arrived (suc gr.limit) old (values gr.limit lb.cells) (cells_in gr.size) in
    let r' = arrived (suc gr.limit) old (values gr.limit lc.cells) (cells_in gr.size) in
    let q = 21 * length c.args.queue.now in
    let fell = falls c.in_ok-dealt.dealt.outcome in
    let rose = rises c.in_ok-dealt.dealt.outcome in
    record {
      same = same_then la lb lc c.loop-key.invariant.same c.deal.ensures.same;
      costs = c.in_ok-dealt.ensures.costs;
      repairing = w.repairing;
      caused = caused_then gr lb lc c.in-Some.at (IsDue (net_of gr) (values gr.limit lb.cells) c.in-Some.key c.in-Some.at) (c.loop-key.invariant.same.size ∙ c.requires.size) c.deal.ensures.same c.deal.ensures.copied
          (λ h. let x = due_moved gr la.before (values gr.limit lb.cells) c.loop-key.queue c.pop.new.self c.loop-key.moved c.in-Some.key c.in-Some.at c.loop-key.invariant.repairing c.in-Some.ensures.entry c.in-Some.ensures.least (h) in (x.0, moved_same gr la.before lb.before c.in-Some.at c.loop-key.invariant.same.before x.1))
          c.loop-key.invariant.caused;
      enough = enough_next q n n' m m' r r' fell rose w.len w.leave w.arrive c.loop-key.invariant.enough;
      more = omega (arith, c.loop-key.invariant.more, c.deal.ensures.more);
      tally = rises_within (copies lb.copied - copies la.copied + (copies lc.copied - copies lb.copied)) (q + allowed m r - 21 * n + (21 + (20 * fell + 209 * rose))) (copies lc.copied - copies la.copied) (q + allowed m' r' - 21 * n') _ _ (omega (arith, c.loop-key.invariant.more, c.deal.ensures.more)) (picks_next q n n' m m' r r' fell rose w.len w.leave w.arrive c.loop-key.invariant.enough)
          (rises_then (copies lb.copied - copies la.copied) (q + allowed m r - 21 * n) (copies lc.copied - copies lb.copied) (21 + (20 * fell + 209 * rose)) _ _ _ c.loop-key.invariant.tally c.in_ok-dealt.ensures.tally);
    }

pub returns-clause-least : goal.returns-clause-least
returns-clause-least g c =
    let gr = c.args.ground.now in
    all_least (net_of gr) (net_costs gr) (values gr.limit (base_of c.args.labels.now.before)) (values gr.limit c.loop-key.labels.cells) c.loop-key.queue c.loop-key.moved c.loop-key.invariant.repairing c.in_default.ensures.none

pub returns-clause-tally : goal.returns-clause-tally
returns-clause-tally g c = λ w are_least.
    let gr = c.args.ground.now in
    let old = values gr.limit (base_of c.args.labels.now.before) in
    let d = values gr.limit c.loop-key.labels.cells in
    let k = fewer (net_of gr) old d c.loop-key.queue c.loop-key.moved c.loop-key.invariant.repairing w are_least in
    rises_within (copies c.loop-key.labels.copied - copies c.args.labels.now.copied) (21 * length c.args.queue.now + allowed c.loop-key.moved (arrived (suc gr.limit) old d (cells_in gr.size)) - 21 * length c.loop-key.queue) (copies c.loop-key.labels.copied - copies c.args.labels.now.copied) (21 * length c.args.queue.now + 628 * changed old w (cells_in gr.size)) _ _ (omega arith) (omega (arith, k.left, k.arrived)) c.loop-key.invariant.tally

pub returns-in_err-dealt-clause-caused : goal.returns-in_err-dealt-clause-caused
returns-in_err-dealt-clause-caused g c =
    let gr = c.args.ground.now in
    let la = c.args.labels.now in
    let lb = c.loop-key.labels in
    let old = values gr.limit (base_of la.before) in
    caused_then gr lb c.deal.new.labels c.in-Some.at (IsDue (net_of gr) (values gr.limit lb.cells) c.in-Some.key c.in-Some.at) (c.loop-key.invariant.same.size ∙ c.requires.size) c.deal.ensures.same c.deal.ensures.copied
    (λ h. let x = due_moved gr la.before (values gr.limit lb.cells) c.loop-key.queue c.pop.new.self c.loop-key.moved c.in-Some.key c.in-Some.at c.loop-key.invariant.repairing c.in-Some.ensures.entry c.in-Some.ensures.least (h) in (x.0, moved_same gr la.before lb.before c.in-Some.at c.loop-key.invariant.same.before x.1))
    c.loop-key.invariant.caused

pub returns-in_err-dealt-clause-wanted : goal.returns-in_err-dealt-clause-wanted
returns-in_err-dealt-clause-wanted g c =
    let gr = c.args.ground.now in
    let la = c.args.labels.now in
    let lb = c.loop-key.labels in
    let lc = c.deal.new.labels in
    let old = values gr.limit (base_of la.before) in
    let n = length c.loop-key.queue in
    let m = c.loop-key.moved in
    let r = arrived (suc gr.limit) old (values gr.limit lb.cells) (cells_in gr.size) in
    let q = 21 * length c.args.queue.now in
    let some : 1 ≤ n = omega (arith, popped_length _ _ _ c.in-Some.ensures.entry) in
    on_err c.from_residual.result (λ w are_least.
    let k = due_on_way (net_of gr) (net_closed gr) (net_costs gr) (no_loop gr) old (values gr.limit lb.cells) c.loop-key.queue c.pop.new.self c.loop-key.moved c.in-Some.key c.in-Some.at c.loop-key.invariant.repairing c.in-Some.ensures.entry c.in-Some.ensures.least c.in_err-dealt.ensures.due w are_least in
    let few = fewer (net_of gr) old (values gr.limit lb.cells) c.loop-key.queue c.loop-key.moved c.loop-key.invariant.repairing w are_least in
    rises_within (copies lb.copied - copies la.copied + (copies lc.copied - copies lb.copied + 1)) (q + allowed m r - 21 * n + 230) (copies lc.copied - copies la.copied + 1) (q + 628 * changed old w (cells_in gr.size)) _ _ (omega (arith, c.loop-key.invariant.more, c.deal.ensures.more)) (picks_last q n m r (changed old w (cells_in gr.size)) some k few c.loop-key.invariant.enough)
    (rises_then (copies lb.copied - copies la.copied) (q + allowed m r - 21 * n) (copies lc.copied - copies lb.copied + 1) 230 _ _ _ c.loop-key.invariant.tally c.in_err-dealt.ensures.wanted))

pub returns-in_err-dealt-clause-due : goal.returns-in_err-dealt-clause-due
returns-in_err-dealt-clause-due g c =
    let gr = c.args.ground.now in
    let la = c.args.labels.now in
    let lb = c.loop-key.labels in
    let old = values gr.limit (base_of la.before) in
    let x = due_moved gr la.before (values gr.limit lb.cells) c.loop-key.queue c.pop.new.self c.loop-key.moved c.in-Some.key c.in-Some.at c.loop-key.invariant.repairing c.in-Some.ensures.entry c.in-Some.ensures.least c.in_err-dealt.ensures.due in
    on_err c.from_residual.result (c.in-Some.at, x.0, x.1)
