use Rattle.std.proofs.Common.{◌≡◌, ℕ, ℤ, ◌≤◌, ◌<◌, ◌-◌, ◌*◌, take}
use Rattle.map_nums.specs.Grids.{cell_at, cells_in}
use Rattle.layer_tiles.specs.Tallies.{RisesBy}
use Rattle.tile_work.specs.Working.{copies, IsSameWork}
use Rattle.drainage_flow.specs.Mending.{now_at}
use Rattle.drainage_flow.specs.Settling.{number_at}
use Rattle.drainage_flow.specs.Showing.{shown_at, IsWorked, AreCopiedFor, ArePlaced}
use Rattle.drainage_flow.proofs.showing.show_flows.Given as goal

abbrev pub invariant-loop-put : goal.invariant-loop-put
invariant-loop-put g l = record {
  same : IsSameWork l.fn.flows l.flows;
  worked : IsWorked l.surface.size l.fn.old.cells l.flows l.worked;
  cells : (c : ℕ) → c < cells_in l.surface.size → cell_at l.flows.cells c ≡ shown_at l.surface.cells (now_at (number_at l.fn.old.cells) (take l.put-index l.puts)) c;
  copied : (flow : ℕ → ℤ) → ArePlaced l.surface.size l.fn.old.cells l.puts flow → AreCopiedFor l.surface.size l.surface.cells l.fn.old.cells flow l.fn.flows → AreCopiedFor l.surface.size l.surface.cells l.fn.old.cells flow l.flows;
  more : copies l.fn.flows.copied ≤ copies l.flows.copied;
  rises : RisesBy (copies l.flows.copied - copies l.fn.flows.copied) (3 * l.put-index) (g.M.Tally.counts l.fn.tally) (g.M.Tally.counts l.tally);
}
