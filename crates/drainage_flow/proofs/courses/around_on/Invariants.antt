use Rattle.std.proofs.Common.{◌≡◌, ℕ, ◌<◌, length}
use Rattle.map_nums.specs.Grids.{cell_at, near}
use Rattle.layer_tiles.specs.Tallies.{RisesBy}
use Rattle.drainage_flow.specs.Sides.{cells_on}
use Rattle.drainage_flow.specs.Steepest.{offset_at}
use Rattle.drainage_flow.proofs.courses.around_on.Given as goal

abbrev pub invariant-loop-k : goal.invariant-loop-k
invariant-loop-k g l = record {
  room : length l.around ≡ 8;
  found : (u : ℕ) → u < l.k → cell_at l.around u ≡ near l.surface.size (cells_on l.surface l.side) l.at (offset_at u);
  picks : RisesBy 0 l.k (g.M.Tally.counts l.initial.tally) (g.M.Tally.counts l.tally);
}
