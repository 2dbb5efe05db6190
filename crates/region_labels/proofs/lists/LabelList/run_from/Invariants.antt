use Rattle.std.proofs.Common.{◌≡◌, ℕ, ◌+◌, ◌<◌, ◌≤◌, length, get_or}
use Rattle.region_labels.proofs.lists.LabelList.run_from.Given as goal

abbrev pub invariant-loop-count : goal.invariant-loop-count
invariant-loop-count l = record {
  within : l.head + l.count ≤ length l.self.found;
  each : (k : ℕ) → k < l.count → get_or l.self.found (l.head + k) 0 ≡ get_or l.self.found l.head 0 + k;
}
