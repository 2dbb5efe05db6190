use Rattle.std.proofs.Common.{◌≡◌, ℕ, ◌<◌, ◌∷◌, length, sym, ◌∙◌, ap, subst, arith}
use Rattle.map_nums.specs.Grids.{cells_in}
use Rattle.least_costs.specs.Filling.{IsFilling}
use Rattle.least_costs.proofs.Fills.{done_with}
use Rattle.friction_spread.specs.Costs.{net_of}
use Rattle.friction_spread.specs.Flat.{costs_of}
use Rattle.friction_spread.proofs.Flats.{cost_read, cost_past}
use Rattle.friction_spread.proofs.fills.reach.Goals as goal

pub returns-then-at-cells-clause-filling : goal.returns-then-at-cells-clause-filling
returns-then-at-cells-clause-filling c =
    let gr = c.args.ground.now in
    let n : c.cells-cells.result ≡ cells_in gr.size = c.cells-cells.ensures.cells ∙ ap cells_in c.extent.ensures.extent in
    let p = cost_past gr c.args.costs.now c.args.at (omega (arith, n, c.if-at-cells.true, c.requires.count)) in
    done_with (net_of gr) (costs_of gr c.args.costs.now) c.args.key c.args.at c.args.queue.now (λ e i l. omega (arith, p, c.requires.filling.most i)) c.requires.filling

pub returns-then-cost-key-clause-filling : goal.returns-then-cost-key-clause-filling
returns-then-cost-key-clause-filling c =
    let gr = c.args.ground.now in
    let n : c.cells-cells.result ≡ cells_in gr.size = c.cells-cells.ensures.cells ∙ ap cells_in c.extent.ensures.extent in
    let within : c.args.at < length c.args.costs.now = omega (arith, n, c.if-at-cells.false, c.requires.count) in
    done_with (net_of gr) (costs_of gr c.args.costs.now) c.args.key c.args.at c.args.queue.now (λ e i l. absurd (omega (arith, e, cost_read gr c.args.costs.now c.args.at within, c.if-cost-key.true))) c.requires.filling

pub offer_round-requires-clause-value : goal.offer_round-requires-clause-value
offer_round-requires-clause-value c =
    let gr = c.args.ground.now in
    let P : ℕ → Type 0 = λ i. c.args.key ≡ costs_of gr c.args.costs.now i in
    subst P (sym c.spot.ensures.at) (omega (arith, cost_read gr c.args.costs.now c.args.at (omega arith), c.if-cost-key.false))

pub returns-clause-filling : goal.returns-clause-filling
returns-clause-filling c =
    let gr = c.args.ground.now in
    let ok = c.in_ok-offer_round.ensures in
    let P : ℕ → Type 0 = λ i. IsFilling (net_of gr) (costs_of gr c.args.costs.now) ((c.args.key, i) ∷ c.args.queue.now) in
    done_with (net_of gr) (costs_of gr c.offer_round.new.costs) c.args.key c.spot.result.at c.offer_round.new.queue (λ e. ok.relaxed) (ok.offered.filling (subst P (sym c.spot.ensures.at) c.requires.filling))

pub returns-clause-falls : goal.returns-clause-falls
returns-clause-falls c = c.in_ok-offer_round.ensures.offered.falls

pub returns-clause-less : goal.returns-clause-less
returns-clause-less c = c.in_ok-offer_round.ensures.offered.less
