-- The number that leads a list by how often it occurs.
use Rattle.std.specs.Prelude.{◌≡◌, ℕ, ◌+◌, ◌<◌, Bool, List, ℤ, pos, nat_lt, length, slice_index_or, Option, Some, None, if◌then◌else◌}
use Rattle.map_nums.specs.Stats.{majority_of, minority_of}
use Rattle.map_nums.specs.declared.runs.Run.{Run}
use Rattle.map_nums.specs.declared.runs.Wanted.{Wanted}
use Rattle.map_nums.specs.declared.runs.Wanted.TheVariants.{Most, Least}

-- m occurrences lead n
abbrev pub prefers : Wanted → ℕ → ℕ → Bool
prefers Most m n = nat_lt n m
prefers Least m n = nat_lt m n

abbrev pub leader_of : Wanted → List ℤ → Option ℤ
leader_of Most xs = majority_of xs
leader_of Least xs = minority_of xs

-- the run that leads, the earlier one where neither does
abbrev pub better_run : Wanted → Option Run → Run → Option Run
better_run w None run = Some run
better_run w (Some old) run = if prefers w run.count old.count then Some run else Some old

-- the element at i + 1 is there and equals that at i
abbrev pub IsSameAsNext : List ℤ → ℕ → Type 0
IsSameAsNext xs i = (i + 1 < length xs) × (slice_index_or xs (i + 1) (pos 0) ≡ slice_index_or xs i (pos 0))
