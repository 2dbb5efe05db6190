-- What stops the statements of a depth.
use Rattle.std.specs.Prelude.{◌≡◌, ℕ, ◌<◌, List, length, Option, Some, None, slice_get, Result}
use Rattle.layer_tiles.specs.declared.kernels.KernelRefusal.{KernelRefusal}
use Rattle.layer_tiles.specs.declared.kernels.KernelRefusal.TheVariants as kernels
use Rattle.map_waves.specs.Jobs.{JobsState}
use Rattle.map_waves.specs.Seating.{row_of}
use Rattle.map_waves.specs.Refusals.{IsRefusalOf, AllOkTo}
use Rattle.map_waves.specs.declared.halts.Stop.{Stop}
use Rattle.map_waves.specs.declared.halts.Stop.TheVariants.{Viewers, Overflow, NoMemory}
use Rattle.map_waves.specs.declared.tasks.Task.{Task}

abbrev pub refused_at : ℕ → KernelRefusal → Stop
refused_at k (kernels.Overflow at) = Overflow k at
refused_at k kernels.NoMemory = NoMemory

module _ {O B W R : Type 0} (tasks : List Task) (js : List (JobsState O B W)) (rs : List (Result R KernelRefusal)) where
  -- the first statement with a refusal stops all
  pub record IsRefused (stop : Stop) : Type 0 where
    pub place : ℕ
    pub task : Task
    pub refusal : KernelRefusal
    pub at : slice_get tasks place ≡ Some task
    pub within : place < length js
    pub is : stop ≡ refused_at task.place refusal
    pub row : IsRefusalOf (row_of js rs place) (Some refusal)
    pub before : AllOkTo js rs place

  -- else a statement with too many viewers does
  pub data IsStopBy (halted : Option (ℕ × ℕ)) (stop : Stop) : Type 0 where
    by_job : IsRefused stop → IsStopBy halted stop
    by_viewers : (k n : ℕ) → halted ≡ Some (k, n) → stop ≡ Viewers k n → AllOkTo js rs (length js) → IsStopBy halted stop

  abbrev pub IsStopOf : Option (ℕ × ℕ) → Option Stop → Type 0
  IsStopOf halted None = (halted ≡ None) × AllOkTo js rs (length js)
  IsStopOf halted (Some stop) = IsStopBy halted stop
