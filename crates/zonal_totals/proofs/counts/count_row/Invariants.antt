use Rattle.std.proofs.Common.{◌≡◌, ◌+◌, ◌≤◌, ◌+ℤ◌}
use Rattle.map_nums.specs.Grids.{cell_at}
use Rattle.zonal_totals.specs.declared.pairs.Pair.{Pair}
use Rattle.zonal_totals.specs.Running.{steps_of}
use Rattle.zonal_totals.specs.Steps.{net_in, weight}
use Rattle.zonal_totals.specs.Sums.{sum_to, held, pair_at}
use Rattle.zonal_totals.proofs.counts.count_row.Given as goal

abbrev pub invariant-loop-c : goal.invariant-loop-c
invariant-loop-c l = record {
  net : (p : Pair) → net_in (steps_of l.counts) p ≡ net_in (steps_of l.initial.counts) p +ℤ sum_to (λ c. held p (pair_at (cell_at l.zones c) (cell_at l.keys c))) l.c;
  weight : weight (steps_of l.counts) ≤ weight (steps_of l.initial.counts) + l.c;
}
