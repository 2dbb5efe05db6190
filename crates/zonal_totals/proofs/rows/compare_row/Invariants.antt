use Rattle.std.proofs.Common.{◌≡◌, ◌+◌, ◌*◌, ◌≤◌, ◌+ℤ◌}
use Rattle.map_nums.specs.Grids.{cell_at}
use Rattle.zonal_totals.specs.declared.pairs.Pair.{Pair}
use Rattle.zonal_totals.specs.Steps.{net_in, weight}
use Rattle.zonal_totals.specs.Sums.{sum_to, shift}
use Rattle.zonal_totals.proofs.rows.compare_row.Given as goal

abbrev pub invariant-loop-c : goal.invariant-loop-c
invariant-loop-c l = record {
  net : (p : Pair) → net_in l.steps.items p ≡ net_in l.initial.steps.items p +ℤ sum_to (λ c. shift p (cell_at l.zones_before c) (cell_at l.keys_before c) (cell_at l.zones c) (cell_at l.keys c)) l.c;
  weight : weight l.steps.items ≤ weight l.initial.steps.items + 2 * l.c;
}
