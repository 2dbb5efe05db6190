-- The answers of jobs.
use Rattle.std.specs.Prelude.{◌≡◌, ◌≢◌, ℕ, ◌+◌, ◌*◌, ◌≤◌, ◌<◌, ◌^◌, List, length, Some, None, slice_get, Result, Err, IsOk, sum_by}
use Rattle.std.specs.List.{range_with_len}
use Rattle.map_nums.specs.Grids.{Size, Cells}
use Rattle.map_defs.specs.Ops.{Op}
use Rattle.layer_tiles.specs.Operands.{cells_after}
use Rattle.layer_tiles.specs.declared.kernels.KernelRefusal.{KernelRefusal}
use Rattle.layer_tiles.specs.declared.kernels.KernelRefusal.TheVariants.{Overflow, NoMemory as no_memory}
use Rattle.map_waves.specs.Statements.{damage_by, work_by, wide_at, too_many, fault_in}
use Rattle.map_waves.specs.Jobs.{JobsState, was_in}
use Rattle.map_waves.specs.declared.halts.NoJobs.{NoJobs}
use Rattle.map_waves.specs.declared.halts.NoJobs.TheVariants.{Viewers, NoMemory}

-- the least place that overflows among answers, none of which wants memory
pub record IsLeastOverflow {R : Type 0} (rs : List (Result R KernelRefusal)) (at : ℕ) : Type 0 where
  pub place : ℕ
  pub is : slice_get rs place ≡ Some (Err (Overflow at))
  pub least : (k b : ℕ) → slice_get rs k ≡ Some (Err (Overflow b)) → at ≤ b
  pub enough : (k : ℕ) → slice_get rs k ≢ Some (Err no_memory)

-- no job was refused
abbrev pub AllOk : {R : Type 0} → List (Result R KernelRefusal) → Type 0
AllOk {R} rs = (k : ℕ) (d : Result R KernelRefusal) → slice_get rs k ≡ Some d → IsOk d

-- the answers of a statement's jobs
pub record AreAnswers {O B W R : Type 0} (pieces : JobsState O B W → ℕ → Result R KernelRefusal → Type 0) (j : JobsState O B W) (rs : List (Result R KernelRefusal)) : Type 0 where
  pub count : length rs ≡ j.count
  pub each : (k : ℕ) (d : Result R KernelRefusal) → slice_get rs k ≡ Some d → pieces j k d

-- the sum over all jobs of a statement
abbrev pub total_of : (ℕ → ℕ) → ℕ → ℕ
total_of f n = sum_by f (range_with_len 0 n)

-- what the jobs of a statement rest on and come to: their reads, and no fault where none is refused, else one at the least cell that one tells
pub record AreJobs {O B W R : Type 0} (means : O → Op) (sound : JobsState O B W → Type 0) (first : JobsState O B W → ℕ) (looks picks : JobsState O B W → ℕ → ℕ) (pieces : JobsState O B W → ℕ → Result R KernelRefusal → Type 0) (j : JobsState O B W) : Type 0 where
  pub is_sound : ∥ sound j ∥₁
  pub few : j.count < 2 ^ 31
  pub looks_fit : first j + total_of (looks j) j.count ≤ 60 * length (damage_by j.size (means j.op) (was_in j) j.operands)
  pub picks_fit : total_of (picks j) j.count ≤ 1000 * work_by j.size (means j.op) (was_in j) j.operands
  pub none_wide : (rs : List (Result R KernelRefusal)) → AreAnswers pieces j rs → AllOk rs → fault_in j.size (means j.op) (cells_after j.operands) ≡ None
  pub least_wide : (rs : List (Result R KernelRefusal)) (at : ℕ) → AreAnswers pieces j rs → IsLeastOverflow rs at → fault_in j.size (means j.op) (cells_after j.operands) ≡ Some (wide_at at)

-- why a statement has no jobs: too many viewers; want of memory is free
abbrev pub LacksJobs : Size → Op → List Cells → NoJobs → Type 0
LacksJobs s op operands (Viewers n) = fault_in s op operands ≡ Some (too_many n)
LacksJobs s op operands NoMemory = Unit {0}
