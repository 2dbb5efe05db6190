use Rattle.std.proofs.Common.{◌≡◌, ◌+◌, ◌<◌, ℕ, Some}
use Rattle.drainage_flow.specs.Nets.{Net}
use Rattle.drainage_flow.specs.Pouring.{Places, ArePools}
use Rattle.drainage_flow.specs.FlowBands.{all_downs, all_waits, all_flows, counts_of, AreEven}
use Rattle.drainage_flow.proofs.Pooling.{left_in}
use Rattle.drainage_flow.proofs.pouring.run_down.Given as goal

abbrev pub invariant-loop-next : goal.invariant-loop-next
invariant-loop-next l = record {
  even : AreEven l.bands;
  counts : counts_of l.bands ≡ counts_of l.initial.bands;
  within : l.at < l.fn.count;
  pools : (g : Net) (r : Places) (n end : ℕ) → ArePools g r l.fn.first n end (Some (l.fn.first + l.fn.start)) (all_downs l.initial.bands) (all_waits l.initial.bands) (all_flows l.initial.bands) → ArePools g r l.fn.first n end (Some (l.fn.first + l.at)) (all_downs l.bands) (all_waits l.bands) (all_flows l.bands);
}

abbrev pub decreases-loop-next : goal.decreases-loop-next
decreases-loop-next l = left_in (all_downs l.bands)
