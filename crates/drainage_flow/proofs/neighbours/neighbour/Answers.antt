use Rattle.std.proofs.Common.{arith}
use Rattle.drainage_flow.proofs.Places.{moved_within}
use Rattle.drainage_flow.proofs.neighbours.neighbour.Goals as goal

pub overflow_mul-result : goal.overflow_mul-result
overflow_mul-result c =
    let h = moved_within c.args.extent c.rows-rows.result c.columns-columns.result c.in-Some.row c.in-Some-stepped.column _ _ c.rows-rows.ensures.rows c.columns-columns.ensures.columns c.in-Some.ensures c.in-Some-stepped.ensures in
    let k = c.rows-rows.ensures.size.most_cells in
    omega (arith, h, k)

pub overflow_add-result : goal.overflow_add-result
overflow_add-result c =
    let h = moved_within c.args.extent c.rows-rows.result c.columns-columns.result c.in-Some.row c.in-Some-stepped.column _ _ c.rows-rows.ensures.rows c.columns-columns.ensures.columns c.in-Some.ensures c.in-Some-stepped.ensures in
    let k = c.rows-rows.ensures.size.most_cells in
    omega (arith, h, k)

pub returns-clause-within : goal.returns-clause-within
returns-clause-within c =
    moved_within c.args.extent c.rows-rows.result c.columns-columns.result c.in-Some.row c.in-Some-stepped.column _ _ c.rows-rows.ensures.rows c.columns-columns.ensures.columns c.in-Some.ensures c.in-Some-stepped.ensures
