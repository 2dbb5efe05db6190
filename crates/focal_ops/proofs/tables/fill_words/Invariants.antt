use Rattle.std.proofs.Common.{ℕ, ◌+◌, ◌<◌, get_or, slice_range, pos}
use Rattle.map_nums.specs.Grids.{numbers_in}
use Rattle.focal_ops.specs.Extremes.{IsMost}
use Rattle.focal_ops.proofs.tables.fill_words.Given as goal

abbrev pub invariant-loop-m : goal.invariant-loop-m
invariant-loop-m l = (j : ℕ) → j < l.m → IsMost l.least (numbers_in (slice_range l.square j (j + 1))) (get_or l.tables j (pos 0))
