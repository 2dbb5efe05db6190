use Rattle.std.proofs.Common.{ℕ, ℤ, List, ◌+◌, ◌≤◌, ◌++◌, take, filter}
use Rattle.sight_lines.specs.Found.{IsTaken, is_between}
use Rattle.sight_lines.proofs.searches.add_kept.Given as goal

abbrev pub invariant-loop-k : goal.invariant-loop-k
invariant-loop-k l = record {
  few : l.found ≤ l.count + l.k;
  found : (all : List (ℕ × ℤ)) → IsTaken all l.initial.pairs.items l.count → IsTaken (all ++ filter (is_between l.from l.to) (take l.k l.kept)) l.pairs.items l.found;
}
