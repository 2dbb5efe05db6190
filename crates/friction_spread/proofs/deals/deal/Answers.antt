use Rattle.std.proofs.Common.{◌<◌, ℕ, ap, ◌∙◌, subst, arith}
use Rattle.map_nums.specs.Grids.{cells_in}
use Rattle.map_defs.proofs.Nets.{equation_is}
use Rattle.least_costs.specs.Queue.{IsSetTo}
use Rattle.friction_spread.specs.Costs.{values, net_of}
use Rattle.friction_spread.proofs.Grounds.{values_within}
use Rattle.friction_spread.proofs.Rounds.{kept_then}
use Rattle.friction_spread.proofs.Taking.{falls, raises}
use Rattle.friction_spread.proofs.deals.deal.Given.{Over}
use Rattle.friction_spread.proofs.deals.deal.Goals as goal
use Rattle.friction_spread.proofs.deals.deal.Goals.{After-equation-other}

within : (g : Over) (c : After-equation-other g) → c.args.at < cells_in c.args.ground.now.size
within g c = omega (arith, c.if-at-cells.false, c.cells.ensures.cells, ap cells_in c.extent.ensures.extent)

pub returns-then-other-value-clause-did : goal.returns-then-other-value-clause-did
returns-then-other-value-clause-did g c =
    let e = (goal.at.returns-then-other-value-clause-did g c).After-equation-other in
    let gr = c.args.ground.now in
    falls gr (values gr.limit c.args.labels.now.cells) (values gr.limit c.write.new.labels.cells) c.args.queue.now c.offer_round.new.queue c.args.key c.args.at c.spot-spot.result.at c.cost_at-value.result c.equation-other.result c.spot-spot.ensures.at (within g e) c.cost_at-value.ensures.value c.equation-other.ensures.value (omega (arith, c.min.ensures, c.if-min-key.false)) c.in_ok-offer_round.ensures.kept c.in_ok-offer_round.ensures.len
    c.if-other-value.true c.in_ok-write.ensures.set c.in_ok-offer_round.ensures.offered

pub returns-clause-did : goal.returns-clause-did
returns-clause-did g c =
    let e = (goal.at.returns-clause-did g c).After-equation-other in
    let gr = c.args.ground.now in
    let d = values gr.limit c.args.labels.now.cells in
    let d' = values gr.limit c.write-2.new.labels.cells in
    let w = values_within gr c.args.labels.now.cells c.cost_at-value.ensures.count in
    let w' = values_within gr c.write-2.new.labels.cells (c.write-2.ensures.same.count ∙ c.cost_at-value.ensures.count) in
    let P : ℕ → Type 0 = λ v. IsSetTo d c.args.at v d' in
    raises gr d d' c.args.queue.now c.raise_round.new.queue c.args.key c.args.at c.spot-spot.result.at c.cost_at-value.result c.equation-other.result c.spot-spot.ensures.at (within g e) c.cost_at-value.ensures.value c.equation-other.ensures.value (omega (arith, c.min.ensures, c.if-min-key.false))
    (kept_then c.args.queue.now c.offer_cost.new.queue c.raise_round.new.queue c.in_ok-offer_cost.ensures.kept c.in_ok-raise_round.ensures.kept)
    (omega (arith, c.in_ok-offer_cost.ensures.len, c.in_ok-raise_round.ensures.len)) w w' (equation_is (net_of gr) d' w' c.args.at).capped
    c.if-value-other.false (omega (arith, c.if-other-value.false)) (subst P c.top-top.ensures.top c.in_ok-write-2.ensures.set)
    (λ m. c.in_ok-raise_round.ensures.kept _ (c.in_ok-offer_cost.ensures.there (omega (arith, m, c.top-top.ensures.top)))) c.in_ok-raise_round.ensures.risen
