use Rattle.std.proofs.Common.{◌≡◌, ◌∙◌, ap, arith}
use Rattle.map_nums.specs.Grids.{cells_in}
use Rattle.friction_spread.proofs.Showing.{costs_most, shown_counted}
use Rattle.friction_spread.proofs.first.work_of.Goals as goal

pub count_costs-requires-clause-most : goal.count_costs-requires-clause-most
count_costs-requires-clause-most c = λ k. omega (arith, costs_most c.args.ground.now c.args.costs.now c.requires.count c.requires.least k, c.limit.ensures.limit)

pub overflow_add-result : goal.overflow_add-result
overflow_add-result c = omega (arith, c.count_costs.ensures.few, c.requires.count, c.cells.ensures.cells, ap cells_in c.extent.ensures.extent, c.extent.ensures.ground.size.most_cells)

pub returns : goal.returns
returns c =
    let gr = c.args.ground.now in
    let e : c.cells.result ≡ cells_in gr.size = c.cells.ensures.cells ∙ ap cells_in c.extent.ensures.extent in
    omega (arith, e, shown_counted gr c.args.costs.now c.requires.count c.requires.least c.limit.result c.count_costs.result c.limit.ensures.limit c.count_costs.ensures.counted)
