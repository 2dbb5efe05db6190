use Rattle.std.proofs.Common.{◌≡◌, ◌+◌, ◌≤◌, drop}
use Rattle.map_nums.specs.Stats.{variety_of}
use Rattle.map_nums.proofs.runs.run_count.Given as goal

abbrev pub invariant-loop-i : goal.invariant-loop-i
invariant-loop-i l = (l.count ≤ l.i) × (l.count + variety_of (drop l.i l.sorted) ≡ variety_of l.sorted)
