use Rattle.std.proofs.Common.{◌≡◌, ℕ, None, take}
use Rattle.std.specs.List.{sum_by}
use Rattle.drainage_flow.specs.Nets.{Net}
use Rattle.drainage_flow.specs.Pouring.{Places, ArePools}
use Rattle.drainage_flow.specs.FlowBands.{all_downs, all_waits, all_flows, counts_of, AreEven}
use Rattle.drainage_flow.proofs.pouring.run_all.Given as goal

abbrev pub invariant-loop-k : goal.invariant-loop-k
invariant-loop-k l = record {
  even : AreEven l.bands;
  counts : counts_of l.bands ≡ counts_of l.initial.bands;
  at : l.at ≡ sum_by (λ n. n) (take l.k (counts_of l.bands));
  pools : (g : Net) (r : Places) (n : ℕ) → ArePools g r l.fn.first n 0 None (all_downs l.initial.bands) (all_waits l.initial.bands) (all_flows l.initial.bands) → ArePools g r l.fn.first n l.at None (all_downs l.bands) (all_waits l.bands) (all_flows l.bands);
}
