use Rattle.std.proofs.Common.{◌≡◌, ◌<◌, [], true, refl, arith, sym, ◌∙◌, ap}
use Rattle.std.specs.Prelude.{is_some}
use Rattle.map_nums.specs.Grids.{cell_at}
use Rattle.map_defs.specs.Spread.{friction_at}
use Rattle.least_costs.proofs.Queues.{pushed_kept, pushed_there}
use Rattle.least_costs.proofs.Fills.{lowered}
use Rattle.friction_spread.specs.Costs.{net_of}
use Rattle.friction_spread.specs.Flat.{costs_of}
use Rattle.friction_spread.proofs.Flats.{cost_set}
use Rattle.friction_spread.proofs.Grounds.{base_source, base_barrier, base_other}
use Rattle.friction_spread.proofs.first.begin_at.Goals as goal
use Rattle.friction_spread.proofs.first.begin_at.Goals.{After-is_some-begins}

begins : (c : After-is_some-begins) → c.is_some-begins.result ≡ is_some (cell_at c.args.ground.now.sources c.args.at)
begins c = c.is_some-begins.ensures ∙ ap is_some (c.get.ensures.value ∙ c.requires.source)

pub returns-clause-filling : goal.returns-clause-filling
returns-clause-filling c =
    let gr = c.args.ground.now in
    let s : is_some (cell_at gr.sources c.args.at) ≡ true = sym (begins (goal.at.returns-clause-filling c).After-is_some-begins) ∙ c.if-not-begins.false in
    let f : 0 < friction_at gr.friction c.args.at = omega (arith, c.friction-friction.ensures.value, c.if-friction-eq0.false) in
    lowered (net_of gr) (costs_of gr c.args.costs.now) _ c.args.queue.now c.push.new.self c.args.at 0 [] (base_source gr c.args.at c.requires.within f s) (omega arith) (cost_set gr c.args.costs.now _ c.args.at 0 (omega arith) refl) (pushed_kept _ _ _ c.in_ok-push.ensures) (pushed_there _ _ _ c.in_ok-push.ensures) c.requires.filling

pub returns-then-not-begins-clause-begun : goal.returns-then-not-begins-clause-begun
returns-then-not-begins-clause-begun c = omega (arith, base_other c.args.ground.now c.args.at (sym (begins (goal.at.returns-then-not-begins-clause-begun c).After-is_some-begins) ∙ c.if-not-begins.true), c.requires.filling.most c.args.at)

pub returns-then-friction-eq0-clause-begun : goal.returns-then-friction-eq0-clause-begun
returns-then-friction-eq0-clause-begun c = omega (arith, base_barrier c.args.ground.now c.args.at (sym c.friction-friction.ensures.value ∙ c.if-friction-eq0.true), c.requires.filling.most c.args.at)
