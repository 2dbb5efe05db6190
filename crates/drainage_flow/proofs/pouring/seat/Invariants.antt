use Rattle.std.proofs.Common.{ℕ, ◌+◌, ◌<◌, length, drop}
use Rattle.drainage_flow.specs.FlowBands.{all_downs, counts_of, IsSeat}
use Rattle.drainage_flow.proofs.pouring.seat.Given as goal

abbrev pub invariant-loop-k : goal.invariant-loop-k
invariant-loop-k l = record {
  within : l.rest < length (all_downs (drop l.k l.bands));
  seat : (m i : ℕ) → IsSeat (counts_of (drop l.k l.bands)) l.rest m i → IsSeat (counts_of l.bands) l.at (l.k + m) i;
}
