use Rattle.std.proofs.Common.{◌≡◌, ℕ, ◌<◌, ◌≤◌, true}
use Rattle.std.specs.Prelude.{is_some}
use Rattle.map_nums.specs.Grids.{cell_at}
use Rattle.region_labels.proofs.lists.LabelList.bare_from.Given as goal

abbrev pub invariant-loop-j : goal.invariant-loop-j
invariant-loop-j l = (k : ℕ) → l.at ≤ k → k < l.j → is_some (cell_at l.self.labels k) ≡ true
