use Rattle.std.proofs.Common.{ℕ, ℤ, ◌≤◌, ◌-◌, ◌*◌}
use Rattle.layer_tiles.specs.Tallies.{RisesBy}
use Rattle.tile_work.specs.Working.{copies, IsSameWork}
use Rattle.drainage_flow.specs.Showing.{IsWorked, AreCopiedFor, AreGrounded}
use Rattle.drainage_flow.proofs.showing.show_grounds.Given as goal

abbrev pub invariant-loop-at : goal.invariant-loop-at
invariant-loop-at g l = record {
  same : IsSameWork l.fn.flows l.flows;
  worked : IsWorked l.surface.size l.old.cells l.flows l.worked;
  grounded : AreGrounded l.surface.size l.surface.cells l.old.cells l.changed l.at-index l.flows.cells;
  copied : (flow : ℕ → ℤ) → AreCopiedFor l.surface.size l.surface.cells l.old.cells flow l.fn.flows → AreCopiedFor l.surface.size l.surface.cells l.old.cells flow l.flows;
  more : copies l.fn.flows.copied ≤ copies l.flows.copied;
  rises : RisesBy (copies l.flows.copied - copies l.fn.flows.copied) (4 * l.at-index) (g.M.Tally.counts l.fn.tally) (g.M.Tally.counts l.tally);
}
