use Rattle.std.proofs.Common.{◌≡◌, ◌+◌, ℕ, None}
use Rattle.drainage_flow.specs.Nets.{Net}
use Rattle.drainage_flow.specs.Pouring.{Places, ArePools}
use Rattle.drainage_flow.specs.FlowBands.{all_downs, all_waits, all_flows, counts_of, AreEven}
use Rattle.drainage_flow.proofs.pouring.run_band.Given as goal

abbrev pub invariant-loop-i : goal.invariant-loop-i
invariant-loop-i l = record {
  even : AreEven l.bands;
  counts : counts_of l.bands ≡ counts_of l.initial.bands;
  at : l.at ≡ l.fn.start + l.i;
  pools : (g : Net) (r : Places) (n : ℕ) → ArePools g r l.fn.first n l.fn.start None (all_downs l.initial.bands) (all_waits l.initial.bands) (all_flows l.initial.bands) → ArePools g r l.fn.first n l.at None (all_downs l.bands) (all_waits l.bands) (all_flows l.bands);
}
