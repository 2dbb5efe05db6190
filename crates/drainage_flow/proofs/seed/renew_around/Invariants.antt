use Rattle.std.proofs.Common.{◌≡◌, ℕ, ◌+◌, ◌*◌, ◌<◌, true, Some}
use Rattle.map_nums.specs.Grids.{moved}
use Rattle.layer_tiles.specs.Tallies.{RisesBy}
use Rattle.drainage_flow.specs.Steepest.{offset_at}
use Rattle.drainage_flow.specs.Seeding.{IsSeededOf, is_marked, StaysMarked}
use Rattle.drainage_flow.proofs.seed.renew_around.Given as goal

abbrev pub invariant-loop-k : goal.invariant-loop-k
invariant-loop-k g l = record {
  size : l.seeds.marks.size ≡ l.surface.size;
  seeded : IsSeededOf l.surface l.weights l.old.cells l.seeds.queue l.seeds.marks.marks;
  marked : is_marked l.seeds.marks.marks l.at ≡ true;
  around : (k j : ℕ) → k < l.k → moved l.surface.size l.at (offset_at k) ≡ Some j → is_marked l.seeds.marks.marks j ≡ true;
  stays : StaysMarked l.fn.seeds.marks.marks l.seeds.marks.marks;
  picks : RisesBy 0 (26 + 26 * l.k) (g.M.Tally.counts l.fn.tally) (g.M.Tally.counts l.tally);
}
