-- When a call of the outside may answer a fault: only where the count of faults rose. No other answer moves the count.
use Rattle.std.specs.Prelude.{ℕ, ◌≡◌, Result, Ok, Err}
use Rattle.map_nums.specs.Counts.{Rose}
use Rattle.map_outside.specs.declared.sources.Failed.{Failed}
use Rattle.map_outside.specs.declared.shelves.FetchFault.{FetchFault}
use Rattle.map_outside.specs.declared.shelves.FetchFault.TheVariants.{Failed as FetchFailed, Long, NoMemory as FetchNoMemory}
use Rattle.map_outside.specs.declared.sinks.PutFault.{PutFault}
use Rattle.map_outside.specs.declared.sinks.PutFault.TheVariants.{Failed as PutFailed, NoMemory as PutNoMemory}

abbrev pub FetchCounts : {T : Type 0} → ℕ → ℕ → Result T FetchFault → Type 0
FetchCounts before now (Ok x) = now ≡ before
FetchCounts before now (Err FetchFailed) = Rose before now
FetchCounts before now (Err Long) = now ≡ before
FetchCounts before now (Err FetchNoMemory) = now ≡ before

abbrev pub TakeCounts : ℕ → ℕ → Result ℕ Failed → Type 0
TakeCounts before now (Ok n) = now ≡ before
TakeCounts before now (Err e) = Rose before now

abbrev pub PutCounts : {T : Type 0} → ℕ → ℕ → Result T PutFault → Type 0
PutCounts before now (Ok x) = now ≡ before
PutCounts before now (Err PutFailed) = Rose before now
PutCounts before now (Err PutNoMemory) = now ≡ before
