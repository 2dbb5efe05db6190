use Rattle.std.proofs.Common.{◌≡◌, ◌≤◌, length}
use Rattle.std.specs.Prelude.{filter, is_some}
use Rattle.std.specs.List.{range_with_len}
use Rattle.map_nums.specs.Grids.{cell_at}
use Rattle.drainage_flow.proofs.whole.count_some.Given as goal

abbrev pub invariant-loop-k : goal.invariant-loop-k
invariant-loop-k l = record {
  few : l.count ≤ l.k;
  counted : l.count ≡ length (filter (λ i. is_some (cell_at l.cells i)) (range_with_len 0 l.k));
}
