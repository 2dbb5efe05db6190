use Rattle.std.proofs.Common.{◌≡◌, ◌+◌, ◌*◌, ◌≤◌, ◌+ℤ◌}
use Rattle.map_nums.specs.Grids.{cell_at}
use Rattle.zonal_totals.specs.declared.pairs.Pair.{Pair}
use Rattle.zonal_totals.specs.Steps.{net_in, weight}
use Rattle.zonal_totals.specs.Sums.{sum_to, shift}
use Rattle.zonal_totals.proofs.rows.compare_values.Given as goal

abbrev pub invariant-loop-r : goal.invariant-loop-r
invariant-loop-r l = record {
  net : (p : Pair) → net_in l.steps.items p ≡ net_in l.initial.steps.items p +ℤ sum_to (λ k. shift p (cell_at l.zones_before.cells k) (cell_at l.values_before.cells k) (cell_at l.zones.cells k) (cell_at l.values.cells k)) (l.r * l.width);
  weight : weight l.steps.items ≤ weight l.initial.steps.items + 2 * (l.r * l.width);
}
