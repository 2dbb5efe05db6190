use Rattle.std.proofs.Common.{◌≡◌, ◌+◌, ◌*◌, ◌≤◌, ◌+ℤ◌}
use Rattle.map_nums.specs.Grids.{cell_at}
use Rattle.zonal_totals.specs.declared.pairs.Pair.{Pair}
use Rattle.zonal_totals.specs.Running.{steps_of}
use Rattle.zonal_totals.specs.Steps.{net_in, weight}
use Rattle.zonal_totals.specs.Sums.{sum_to, held, pair_at}
use Rattle.zonal_totals.proofs.counts.count_zones.Given as goal

abbrev pub invariant-loop-r : goal.invariant-loop-r
invariant-loop-r l = record {
  net : (p : Pair) → net_in (steps_of l.counts) p ≡ net_in (steps_of l.initial.counts) p +ℤ sum_to (λ k. held p (pair_at (cell_at l.zones.cells k) (cell_at l.keys 0))) (l.r * l.width);
  weight : weight (steps_of l.counts) ≤ weight (steps_of l.initial.counts) + l.r * l.width;
}
