-- The jobs of statements that are at work.
use Rattle.std.specs.Prelude.{◌≡◌, ℕ, ◌*◌, List, [], ◌∷◌, length, Option, Some, None, slice_get, Result}
use Rattle.map_defs.specs.Ops.{Op}
use Rattle.layer_tiles.specs.declared.kernels.KernelRefusal.{KernelRefusal}
use Rattle.map_waves.specs.Statements.{too_many}
use Rattle.map_waves.specs.Plans.{Plan, damage_at, work_at, fault_at}
use Rattle.map_waves.specs.Jobs.{JobsState, AreOver}
use Rattle.map_waves.specs.Answers.{AreJobs}
use Rattle.map_waves.specs.Tasks.{reckoned_kept}
use Rattle.map_waves.specs.declared.tasks.Task.{Task}
use Rattle.map_waves.specs.declared.plans.Step.{Step}
use Rattle.map_waves.specs.declared.plans.Base.{Base}

module _ {O B W R : Type 0} (means : O → Op) (sound : JobsState O B W → Type 0) (first : JobsState O B W → ℕ) (looks picks : JobsState O B W → ℕ → ℕ) (pieces : JobsState O B W → ℕ → Result R KernelRefusal → Type 0) (base : Base B) (steps : List (Step O)) where
  -- the jobs of one statement
  pub record IsBegun (t : Task) (j : JobsState O B W) : Type 0 where
    pub jobs : AreJobs means sound first looks picks pieces j
    pub over : (x : Step O) → slice_get steps t.place ≡ Some x → AreOver j base.extent x.op t.operands (reckoned_kept base x)

  -- the jobs of the first statements at work
  abbrev pub AreBegun : List Task → List (JobsState O B W) → Type 0
  AreBegun ts [] = Unit {0}
  AreBegun [] (j ∷ js) = ⊥
  AreBegun (t ∷ ts) (j ∷ js) = IsBegun t j × AreBegun ts js

-- so many jobs were begun: all, or those before a statement with too many viewers
abbrev pub IsHalted : Plan → List Task → ℕ → Option (ℕ × ℕ) → Type 0
IsHalted p tasks n None = n ≡ length tasks
IsHalted p tasks n (Some q) = (t : Task) × (slice_get tasks n ≡ Some t) × (q.0 ≡ t.place) × (fault_at p q.0 ≡ Some (too_many q.1))

-- what the statement with too many viewers adds
abbrev pub halted_looks : Plan → Option (ℕ × ℕ) → ℕ
halted_looks p None = 0
halted_looks p (Some q) = 60 * length (damage_at p q.0)

abbrev pub halted_picks : Plan → Option (ℕ × ℕ) → ℕ
halted_picks p None = 0
halted_picks p (Some q) = 1000 * work_at p q.0
