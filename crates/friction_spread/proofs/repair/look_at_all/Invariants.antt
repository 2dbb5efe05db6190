use Rattle.std.proofs.Common.{ℕ, ◌+◌, ◌*◌, ◌<◌, ◌≤◌, length, get_or}
use Rattle.layer_tiles.specs.Tallies.{RisesBy}
use Rattle.friction_spread.specs.Costs.{values, net_of}
use Rattle.friction_spread.proofs.repair.look_at_all.Given as goal
use Rattle.friction_spread.specs.Near.{AreSeen}
use Rattle.friction_spread.specs.Rows.{RoundQueued}

abbrev pub invariant-loop-at : goal.invariant-loop-at
invariant-loop-at g l = record {
  queued : (k : ℕ) → k < l.at-index → RoundQueued (net_of l.ground) l.ground.size (values l.ground.limit l.labels.cells) l.queue (get_or l.changed k 0);
  seen : AreSeen l.ground (values l.ground.limit l.labels.cells) l.queue l.seen;
  len : length l.queue ≤ length l.initial.queue + 9 * l.at-index;
  picks : RisesBy 0 (189 * l.at-index) (g.M.Tally.counts l.initial.tally) (g.M.Tally.counts l.tally);
}
