use Rattle.std.proofs.Common.{◌≡◌, ℕ, ◌<◌, length}
use Rattle.map_nums.specs.Grids.{cell_at, near}
use Rattle.drainage_flow.specs.Steepest.{offset_at}
use Rattle.drainage_flow.proofs.bands.around_in.Given as goal

abbrev pub invariant-loop-k : goal.invariant-loop-k
invariant-loop-k l = record {
  room : length l.around ≡ 8;
  found : (u : ℕ) → u < l.k → cell_at l.around u ≡ near l.extent l.surface l.at (offset_at u);
}
