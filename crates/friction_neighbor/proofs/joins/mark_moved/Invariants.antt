use Rattle.std.proofs.Common.{◌≡◌, ◌≢◌, ℕ, ◌+◌, ◌*◌, ◌<◌}
use Rattle.friction_spread.specs.Flat.{costs_of}
use Rattle.friction_neighbor.specs.Fields.{cost_at}
use Rattle.friction_neighbor.specs.Puts.{ArePut, RoundMarked}
use Rattle.friction_neighbor.proofs.joins.mark_moved.Given as goal

abbrev pub invariant-loop-k : goal.invariant-loop-k
invariant-loop-k l =
    let w = l.field.ground.size.columns in
    record {
      size : l.seen.size ≡ l.field.ground.size;
      put : ArePut l.field l.fn.queue l.fn.seen l.queue l.seen;
      moved : (m : ℕ) → m < l.k → cost_at l.field (l.first * w + m) ≢ costs_of l.field.ground l.band.costs.items (l.band.above * w + m) → RoundMarked l.field 0 l.seen (l.first * w + m);
    }
