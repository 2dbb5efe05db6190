use Rattle.std.proofs.Common.{◌≡◌, ◌+◌, ℕ, length, ◌∙◌, ap, arith}
use Rattle.std.specs.Prelude.{filter, is_some}
use Rattle.std.specs.List.{range_with_len}
use Rattle.std.proofs.lemmas.List.FromFn.{length-range_with_len}
use Rattle.map_nums.specs.Grids.{cell_at, places}
use Rattle.changed_cells.proofs.Joining.{filter_most}
use Rattle.drainage_flow.proofs.Ends.{first_worked}
use Rattle.drainage_flow.proofs.repairs.first_flow_work.Goals as goal

pub overflow_add-result : goal.overflow_add-result
overflow_add-result c =
    let cells = c.args.surface.now in
    omega (arith, c.cells.ensures.cells, c.cells.ensures.size.most_cells, c.count_some.ensures, filter_most (λ i. is_some (cell_at cells i)) (range_with_len 0 (length cells)), length-range_with_len 0 (length cells), c.requires)

pub returns : goal.returns
returns c = λ weights.
    let s = c.args.extent in
    let cells = c.args.surface.now in
    let counted : c.count_some.result ≡ length (filter (λ i. is_some (cell_at cells i)) (places s)) = c.count_some.ensures ∙ ap (λ (m : ℕ). length (filter (λ i. is_some (cell_at cells i)) (range_with_len 0 m))) c.requires in
    ap (λ (m : ℕ). m + c.count_some.result) c.cells.ensures.cells ∙ first_worked s cells weights c.count_some.result counted
