-- Refusals among the answers of jobs.
use Rattle.std.specs.Prelude.{◌≡◌, ℕ, ◌<◌, List, length, slice_get, Option, Some, None, min, Result, Err}
use Rattle.layer_tiles.specs.declared.kernels.KernelRefusal.{KernelRefusal}
use Rattle.layer_tiles.specs.declared.kernels.KernelRefusal.TheVariants.{Overflow, NoMemory}
use Rattle.map_waves.specs.Jobs.{JobsState}
use Rattle.map_waves.specs.Answers.{IsLeastOverflow, AllOk}
use Rattle.map_waves.specs.Seating.{row_of}

-- nothing where all are there; else want of memory, where one tells it, or the least overflow
abbrev pub IsRefusalOf : {R : Type 0} → List (Result R KernelRefusal) → Option KernelRefusal → Type 0
IsRefusalOf {R} rs None = AllOk rs
IsRefusalOf {R} rs (Some (Overflow at)) = IsLeastOverflow rs at
IsRefusalOf {R} rs (Some NoMemory) = (k : ℕ) × (slice_get rs k ≡ Some (Err NoMemory))

abbrev pub lesser_of : Option ℕ → ℕ → ℕ
lesser_of None at = at
lesser_of (Some b) at = min b at

-- while answers are looked through: all are there so far, or the least overflow so far
abbrev pub IsSoFar : {R : Type 0} → List (Result R KernelRefusal) → Option ℕ → Type 0
IsSoFar {R} rs None = AllOk rs
IsSoFar {R} rs (Some at) = IsLeastOverflow rs at

module _ {O B W R : Type 0} where
  -- the statements before place i have all their pieces
  abbrev pub AllOkTo : List (JobsState O B W) → List (Result R KernelRefusal) → ℕ → Type 0
  AllOkTo js rs i = (j : ℕ) → j < i → AllOk (row_of js rs j)

  -- the first statement with a refusal, and what it is
  abbrev pub IsFirstRefusal : List (JobsState O B W) → List (Result R KernelRefusal) → Option (ℕ × KernelRefusal) → Type 0
  IsFirstRefusal js rs None = AllOkTo js rs (length js)
  IsFirstRefusal js rs (Some q) = (q.0 < length js) × IsRefusalOf (row_of js rs q.0) (Some q.1) × AllOkTo js rs q.0
