use Rattle.std.proofs.Common.{arith}
use Rattle.std.specs.Prelude.{is_some}
use Rattle.std.proofs.lemmas.List.FromFn.{length-range_with_len}
use Rattle.map_nums.specs.Grids.{cell_at, cells_in, places}
use Rattle.changed_cells.proofs.Joining.{filter_most}
use Rattle.region_labels.proofs.repair.first_labels.Goals as goal

pub overflow_add-worked : goal.overflow_add-worked
overflow_add-worked g c =
    let s = c.extent-extent.result in
    omega (arith, c.in_ok-labels.ensures.count, filter_most (λ i. is_some (cell_at c.in_ok-labels.labels.items i)) (places s), length-range_with_len 0 (cells_in s), c.cells.ensures.cells, c.cells.ensures.size.most_cells)
