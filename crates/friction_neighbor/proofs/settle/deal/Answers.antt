use Rattle.std.proofs.Common.{◌≡◌, ◌≢◌, ◌+◌, ◌<◌, length, sym, ◌∙◌, ap, arith}
use Rattle.std.specs.Prelude.{slice_set}
use Rattle.std.proofs.lemmas.Bool.{both_ways}
use Rattle.map_nums.specs.Grids.{cell_at, cells_in}
use Rattle.tile_work.specs.Working.{WorkState}
use Rattle.friction_neighbor.specs.Fields.{cost_at}
use Rattle.friction_neighbor.specs.Gathers.{IsLeastHere}
use Rattle.friction_neighbor.specs.Repairs.{IsDue}
use Rattle.friction_neighbor.proofs.Settling.{dealt_same, dealt_known, dealt_told, copied_at, least_at}
use Rattle.friction_neighbor.proofs.settle.deal.Given.{Over}
use Rattle.friction_neighbor.proofs.settle.deal.Goals as goal
use Rattle.friction_neighbor.proofs.settle.deal.Goals.{In_ok-set}

least : (g : Over) (c : In_ok-set g) → IsLeastHere c.args.field.now.field c.args.values.now.cells c.args.at c.least_value-value.result
least g c = least_at c.args.field.now.field c.args.values.now.cells c.front-front.result.spot.at c.args.at c.least_value-value.result c.front-front.ensures.at c.least_value-value.ensures.least

other : (g : Over) (c : In_ok-set g) → cell_at c.args.values.now.cells c.args.at ≢ c.least_value-value.result
other g c e = both_ways c.same.result c.if-same.false (c.same.ensures.1 (c.get.ensures.cell ∙ e))

full : (g : Over) (c : In_ok-set g) → c.args.at < length c.args.values.now.cells
full g c = omega (arith, c.requires.within, c.extent-extent.ensures.count, ap cells_in c.requires.size)

pub returns-then-same-clause-dealt : goal.returns-then-same-clause-dealt
returns-then-same-clause-dealt g c =
    dealt_same c.args.field.now c.args.at c.args.values.now.cells c.args.queue.now c.args.seen.now c.least_value-value.result
    (least_at c.args.field.now.field c.args.values.now.cells c.front-front.result.spot.at c.args.at c.least_value-value.result c.front-front.ensures.at c.least_value-value.ensures.least)
    (sym c.get.ensures.cell ∙ c.same.ensures.0 c.if-same.true)

cells_set : (g : Over) (c : In_ok-set g) → c.set.new.self.cells ≡ slice_set c.args.values.now.cells c.args.at c.least_value-value.result
cells_set g c = ap (λ (w : WorkState). w.cells) c.in_ok-set.ensures.ok

pub returns-then-has_new_cost-clause-dealt : goal.returns-then-has_new_cost-clause-dealt
returns-then-has_new_cost-clause-dealt g c =
    let e = (goal.at.returns-then-has_new_cost-clause-dealt g c).In_ok-set in
    dealt_known c.args.field.now c.args.at c.args.values.now.cells c.set.new.self.cells c.args.queue.now c.args.queue.now c.args.seen.now c.args.seen.now c.least_value-value.result (full g e) (least g e) (other g e) (cells_set g e) (sym c.has_new_cost.ensures.differs ∙ c.if-has_new_cost.true)

pub returns-clause-dealt : goal.returns-clause-dealt
returns-clause-dealt g c =
    let e = (goal.at.returns-clause-dealt g c).In_ok-set in
    let ok = c.in_ok-put_round.ensures in
    dealt_told c.args.field.now c.args.at c.args.values.now.cells c.set.new.self.cells c.args.queue.now c.put_round.new.queue c.args.seen.now c.put_round.new.seen c.least_value-value.result (full g e) (least g e) (other g e) (cells_set g e) (sym c.has_new_cost.ensures.differs ∙ c.if-has_new_cost.false) ok.put ok.len c.front-front.result.spot.at (c.args.cost + 1) c.front-front.ensures.at (ap (λ n. n + 1) (c.requires.cost ∙ ap (cost_at c.args.field.now.field) (sym c.front-front.ensures.at))) ok.marked

pub returns-clause-copied : goal.returns-clause-copied
returns-clause-copied g c =
    let e = (goal.at.returns-clause-copied g c).In_ok-set in
    copied_at c.args.values.now c.set.new.self c.args.at c.least_value-value.result (IsDue c.args.field.now.field c.args.values.now.cells c.args.at) c.in_ok-set.ensures.ok (c.least_value-value.result, least g e, other g e)
