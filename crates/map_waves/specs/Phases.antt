-- Statements of one depth, and all statements depth by depth.
use Rattle.std.specs.Prelude.{◌≡◌, ℕ, ◌-◌, ◌<◌, ◌≤◌, List, length, Option, Some, None, slice_get, Result, Ok, Err, Vec}
use Rattle.std.specs.declared.alloc.Global.{Global}
use Rattle.map_nums.specs.Grids.{Size, Cells}
use Rattle.map_defs.specs.Ops.{Op}
use Rattle.map_waves.specs.Statements.{Fault, too_many, wide_at}
use Rattle.map_waves.specs.Plans.{Plan, fault_at}
use Rattle.map_waves.specs.Bases.{plan_of}
use Rattle.map_waves.specs.Prepared.{ArePrepared}
use Rattle.map_waves.specs.declared.keeping.Aside.{Aside}
use Rattle.map_waves.specs.declared.keeping.Made.{Made}
use Rattle.map_waves.specs.declared.halts.Stop.{Stop}
use Rattle.map_waves.specs.declared.halts.Stop.TheVariants.{Viewers, Overflow, NoMemory}
use Rattle.map_waves.specs.declared.plans.Step.{Step}
use Rattle.map_waves.specs.declared.plans.Base.{Base}

-- statement k has this fault, and none from place `first` on has one before it
pub record IsFirstFault (p : Plan) (first end k : ℕ) (fault : Fault) : Type 0 where
  pub from : first ≤ k
  pub below : k < end
  pub is : fault_at p k ≡ Some fault
  pub none : (j : ℕ) → first ≤ j → j < k → fault_at p j ≡ None

-- why the statements from place `first` to before `end` are not prepared; want of memory is free
abbrev pub IsStop : Plan → ℕ → ℕ → Stop → Type 0
IsStop p first end (Viewers k n) = IsFirstFault p first end k (too_many n)
IsStop p first end (Overflow k at) = IsFirstFault p first end k (wide_at at)
IsStop p first end NoMemory = Unit {0}

-- no fault from one place to before another
abbrev pub AreFaultless : Plan → ℕ → ℕ → Type 0
AreFaultless p first end = (k : ℕ) → first ≤ k → k < end → fault_at p k ≡ None

module _ {O : Type 0} where
  -- the statements from place `first` to before `end` have the depth of the first one
  abbrev pub AreAlike : List (Step O) → ℕ → ℕ → Type 0
  AreAlike steps first end = (k : ℕ) (x y : Step O) → first ≤ k → k < end → slice_get steps first ≡ Some y → slice_get steps k ≡ Some x → x.depth ≡ y.depth

  -- statement k and those after it to before `end` have one depth
  abbrev pub EndsDepth : List (Step O) → ℕ → ℕ → Type 0
  EndsDepth steps k end = (k < end) × (end ≤ length steps) × AreAlike steps k end

  -- the statements to before `end` were looked at: those up to the end of the depth of a fault; for want of memory, up to the end of
  -- some depth before which there is no fault
  abbrev pub IsReachedAt : Plan → List (Step O) → Stop → ℕ → Type 0
  IsReachedAt p steps (Viewers k n) end = EndsDepth steps k end
  IsReachedAt p steps (Overflow k at) end = EndsDepth steps k end
  IsReachedAt p steps NoMemory end = (k : ℕ) × AreFaultless p 0 k × EndsDepth steps k end

module _ {O B : Type 0} where
  -- what becomes of the statements from place `first` to before `end`
  abbrev pub IsPhase : (O → Op) → (Size → Op → List Cells → Aside B → Type 0) → Base B → List (Step O) → ℕ → ℕ → Result (Vec (Option (Made B)) Global) Stop → Type 0
  IsPhase means suits base steps first end (Ok rs) = (length rs.items ≡ end - first) × ArePrepared means suits base steps first rs.items
  IsPhase means suits base steps first end (Err stop) = IsStop (plan_of means base steps) first end stop

  -- the statements that were looked at, or all
  abbrev pub IsReached : Plan → List (Step O) → Result (Vec (Option (Made B)) Global) Stop → ℕ → Type 0
  IsReached p steps (Ok rs) end = end ≡ length steps
  IsReached p steps (Err stop) end = IsReachedAt p steps stop end
