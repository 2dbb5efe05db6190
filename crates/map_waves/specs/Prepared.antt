-- What is prepared of the first statements.
use Rattle.std.specs.Prelude.{◌≡◌, ℕ, ◌+◌, ◌^◌, ◌<◌, List, length, Option, Some, None, slice_get}
use Rattle.map_nums.specs.Grids.{Size, Cells, cells_in}
use Rattle.map_defs.specs.Ops.{Op}
use Rattle.layer_tiles.specs.Changes.{ChangeState, same_change, patched_change, fresh_change, constant_change}
use Rattle.layer_tiles.specs.Operands.{cells_after}
use Rattle.layer_tiles.specs.Patches.{HoldsAll}
use Rattle.map_waves.specs.Statements.{made, damage_by, work_by, fault_in}
use Rattle.map_waves.specs.Plans.{StepDef, Plan, change_by, reckoned, operands_at}
use Rattle.map_waves.specs.Keeping.{aside_of, CanPut, IsPut}
use Rattle.map_waves.specs.Bases.{kept_by, plan_of}
use Rattle.map_waves.specs.declared.keeping.Aside.{Aside}
use Rattle.map_waves.specs.declared.keeping.Kept.{Kept}
use Rattle.map_waves.specs.declared.keeping.Made.{Made}
use Rattle.map_waves.specs.declared.plans.Step.{Step}
use Rattle.map_waves.specs.declared.plans.Base.{Base}

module _ {B : Type 0} where
  -- the change that a reader is shown
  abbrev pub shown : Size → Option (Kept B) → Option (Made B) → ChangeState
  shown s None None = constant_change s None
  shown s None (Some m) = fresh_change m.patch
  shown s (Some k) None = same_change k.layer
  shown s (Some k) (Some m) = patched_change k.layer m.patch

  -- it can be shown
  abbrev pub IsReady : Size → Option (Kept B) → Option (Made B) → Type 0
  IsReady s None None = ⊥
  IsReady s None (Some m) = (m.patch.size ≡ s) × HoldsAll m.patch × CanPut None m.beside
  IsReady s (Some k) None = Unit {0}
  IsReady s (Some k) (Some m) = (m.patch.size ≡ s) × (k.layer.size ≡ s) × CanPut (Some k.beside) m.beside

  -- what stands beside the layer then: what comes of what was made, else what was kept
  abbrev pub IsBesideAfter : Option (Kept B) → Option (Made B) → Aside B → Type 0
  IsBesideAfter own (Some m) now = IsPut (aside_of own) m.beside now
  IsBesideAfter (Some k) None now = now ≡ k.beside
  IsBesideAfter None None now = ⊥

  -- the numbers of a statement that is left as it was are 0
  abbrev pub changed_in : Option (Made B) → ℕ
  changed_in None = 0
  changed_in (Some m) = length m.patch.tiles

  abbrev pub evaluated_in : Option (Made B) → ℕ
  evaluated_in None = 0
  evaluated_in (Some m) = m.evaluated

  abbrev pub worked_in : Option (Made B) → ℕ
  worked_in None = 0
  worked_in (Some m) = m.worked

  -- what is prepared of one statement
  pub record IsMade (suits : Size → Op → List Cells → Aside B → Type 0) (s : Size) (x : StepDef) (operands : List ChangeState) (own : Option (Kept B)) (r : Option (Made B)) : Type 0 where
    pub ready : IsReady s own r
    pub count : length (made s x.op (cells_after operands)) ≡ cells_in s
    pub change : shown s own r ≡ change_by s x operands
    pub beside : (b : Aside B) → IsBesideAfter own r b → suits s x.op (cells_after operands) b
    pub evaluated : evaluated_in r ≡ length (damage_by s x.op (reckoned x) operands)
    pub worked : worked_in r ≡ work_by s x.op (reckoned x) operands
    pub little : worked_in r < 2 ^ 32
    pub faultless : fault_in s x.op (cells_after operands) ≡ None

  abbrev pub IsPrepared : (Size → Op → List Cells → Aside B → Type 0) → Plan → ℕ → Option (Kept B) → Option (Made B) → Type 0
  IsPrepared suits p k own r = IsMade suits p.size (p.step k) (operands_at p k) own r

-- what is prepared of the statements from place `first` on
abbrev pub ArePrepared : {O B : Type 0} → (O → Op) → (Size → Op → List Cells → Aside B → Type 0) → Base B → List (Step O) → ℕ → List (Option (Made B)) → Type 0
ArePrepared {O} {B} means suits base steps first rs = (i : ℕ) (x : Step O) (r : Option (Made B)) → slice_get steps (first + i) ≡ Some x → slice_get rs i ≡ Some r
    → IsPrepared suits (plan_of means base steps) (first + i) (kept_by base x.kept) r
