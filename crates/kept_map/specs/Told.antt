-- What is wrong with a statement, told by its name.
use Rattle.std.specs.Prelude.{◌≡◌, ℕ, suc, List, length, Some, Result, Ok, Err, slice_get}
use Rattle.map_nums.specs.Grids.{Size, row_of, column_of}
use Rattle.map_defs.specs.Ops.{Name}
use Rattle.statement_parser.specs.declared.op.Op.{Op as Given}
use Rattle.map_waves.specs.Statements.{Fault, too_many, wide_at}
use Rattle.map_waves.specs.Plans.{Plan}
use Rattle.map_waves.specs.Phases.{IsFirstFault, EndsDepth, AreFaultless}
use Rattle.map_waves.specs.declared.plans.Step.{Step}
use Rattle.map_waves.specs.declared.halts.Stop.{Stop}
use Rattle.map_waves.specs.declared.halts.Stop.TheVariants as stops
use Rattle.kept_map.specs.declared.halts.Halt.{Halt}
use Rattle.kept_map.specs.declared.halts.Halt.TheVariants.{Viewers, Overflow, NoMemory}

-- what stopped all statements, with the name of the one at its place; want of memory is free
abbrev pub IsToldOf : Size → List Name → Stop → Halt → Type 0
IsToldOf s names stop NoMemory = Unit {0}
IsToldOf s names (stops.Viewers k c) (Viewers n count) = (slice_get names k ≡ Some n) × (count ≡ c)
IsToldOf s names (stops.Overflow k at) (Overflow n row column) = (slice_get names k ≡ Some n) × (row ≡ suc (row_of s at)) × (column ≡ suc (column_of s at))
IsToldOf s names stop halt = ⊥

-- a statement of this name is the first with a fault
pub record IsFirstNamed (p : Plan) (names : List Name) (n : Name) (f : Fault) : Type 0 where
  pub place : ℕ
  pub named : slice_get names place ≡ Some n
  pub first : IsFirstFault p 0 (length names) place f

abbrev pub IsTold : Size → Plan → List Name → Halt → Type 0
IsTold s p names (Viewers n count) = IsFirstNamed p names n (too_many count)
IsTold s p names (Overflow n row column) = (at : ℕ) × IsFirstNamed p names n (wide_at at) × (row ≡ suc (row_of s at)) × (column ≡ suc (column_of s at))
IsTold s p names NoMemory = Unit {0}

abbrev pub IsToldHalt : {V : Type 0} → Size → Plan → List Name → Result V Halt → Type 0
IsToldHalt s p names (Ok _) = Unit {0}
IsToldHalt s p names (Err halt) = IsTold s p names halt

-- all statements were looked at, or those up to the end of the depth of a fault; for want of memory, up to the end of some depth before
-- which there is no fault
abbrev pub IsReachedAt : Plan → List Name → List (Step Given) → Halt → ℕ → Type 0
IsReachedAt p names steps (Viewers n count) end = (k : ℕ) × (slice_get names k ≡ Some n) × IsFirstFault p 0 (length names) k (too_many count) × EndsDepth steps k end
IsReachedAt p names steps (Overflow n row column) end = (k : ℕ) × (at : ℕ) × (slice_get names k ≡ Some n) × IsFirstFault p 0 (length names) k (wide_at at) × EndsDepth steps k end
IsReachedAt p names steps NoMemory end = (k : ℕ) × AreFaultless p 0 k × EndsDepth steps k end

abbrev pub IsReachedBy : {V : Type 0} → Plan → List Name → List (Step Given) → Result V Halt → ℕ → Type 0
IsReachedBy p names steps (Ok _) end = end ≡ length steps
IsReachedBy p names steps (Err halt) end = IsReachedAt p names steps halt end
