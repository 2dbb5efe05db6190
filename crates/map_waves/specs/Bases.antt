-- What statements are repaired over, seen as a plan.
use Rattle.std.specs.Prelude.{◌≡◌, ℕ, ◌+◌, ◌<◌, ◌≤◌, ◌==◌, List, [], length, pos, Option, Some, None, slice_get, if◌then◌else◌, false}
use Rattle.std.specs.List.{All}
use Rattle.map_nums.specs.Grids.{Size, Cells}
use Rattle.map_defs.specs.Ops.{Op, region_op, number_term}
use Rattle.layer_tiles.specs.Changes.{ChangeState, same_change, patched_change, constant_change}
use Rattle.layer_tiles.specs.Layers.{LayerState, IsLayer}
use Rattle.map_waves.specs.Operands.{IsOperand}
use Rattle.map_waves.specs.Keeping.{was_of, IsRightOver}
use Rattle.map_waves.specs.Plans.{StepDef, Plan, operands_at}
use Rattle.map_waves.specs.declared.keeping.Aside.{Aside}
use Rattle.map_waves.specs.declared.keeping.Kept.{Kept}
use Rattle.map_waves.specs.declared.plans.Ref.{Ref}
use Rattle.map_waves.specs.declared.plans.Ref.TheVariants.{Source, Statement, Number}
use Rattle.map_waves.specs.declared.plans.Step.{Step}
use Rattle.map_waves.specs.declared.plans.Shift.{Shift}
use Rattle.map_waves.specs.declared.plans.Shift.TheVariants.{Nothing, Painted, Loaded}
use Rattle.map_waves.specs.declared.plans.Base.{Base}

-- ---- sources

abbrev pub source_by : Size → Shift → ℕ → Option LayerState → ChangeState
source_by s Nothing i (Some l) = same_change l
source_by s Nothing i None = constant_change s None
source_by s (Painted j patch) i (Some l) = if j == i then patched_change l patch.now else same_change l
source_by s (Painted j patch) i None = constant_change s None
source_by s (Loaded new) i (Some l) = same_change l
source_by s (Loaded new) i None = same_change new.now

abbrev pub source_in : {B : Type 0} → Base B → ℕ → ChangeState
source_in {B} base i = source_by base.extent base.shift i (slice_get base.sources.now i)

abbrev pub new_sources : Shift → ℕ
new_sources Nothing = 0
new_sources (Painted j patch) = 0
new_sources (Loaded new) = 1

-- a patch or a layer of this size
abbrev pub IsShift : Size → Shift → Type 0
IsShift s Nothing = Unit {0}
IsShift s (Painted j patch) = patch.now.size ≡ s
IsShift s (Loaded new) = new.now.size ≡ s

pub record IsBase {B : Type 0} (base : Base B) : Type 0 where
  pub sources : All (λ l. l.size ≡ base.extent) base.sources.now
  pub kept : All (λ (k : Kept B). (k.layer.size ≡ base.extent) × IsLayer k.layer) base.kept.now
  pub shift : IsShift base.extent base.shift
  pub operands : (i : ℕ) → IsOperand base.extent (source_in base i)

-- ---- statements

-- what is kept of a statement
abbrev pub kept_by : {B : Type 0} → Base B → Option ℕ → Option (Kept B)
kept_by {B} base None = None
kept_by {B} base (Some i) = slice_get base.kept.now i

abbrev pub step_of : {O B : Type 0} → (O → Op) → Base B → Step O → StepDef
step_of {O} {B} means base x = record { op = means x.op; refs = x.refs.items; was = was_of (kept_by base x.kept); written = x.written }

abbrev pub no_step : StepDef
no_step = record { op = region_op (number_term (pos 0)); refs = []; was = None; written = false }

abbrev pub step_by : {O B : Type 0} → (O → Op) → Base B → Option (Step O) → StepDef
step_by {O} {B} means base None = no_step
step_by {O} {B} means base (Some x) = step_of means base x

abbrev pub plan_of : {O B : Type 0} → (O → Op) → Base B → List (Step O) → Plan
plan_of {O} {B} means base steps = record { size = base.extent; source = source_in base; step = λ k. step_by means base (slice_get steps k) }

-- a source, or a statement before place k
abbrev pub IsRef : {B : Type 0} → Base B → ℕ → Ref → Type 0
IsRef {B} base k (Source i) = i < length base.sources.now + new_sources base.shift
IsRef {B} base k (Statement j) = j < k
IsRef {B} base k (Number c) = Unit {0}

-- the operands stand before a place, and are as many as the operation has terms
pub record IsStep {O B : Type 0} (means : O → Op) (formed : O → Type 0) (base : Base B) (first : ℕ) (x : Step O) : Type 0 where
  pub op : formed x.op
  pub refs : All (IsRef base first) x.refs.items
  pub terms : length x.refs.items ≡ length ((means x.op).terms)
  pub few : length x.refs.items ≤ 8
  pub kept : (i : ℕ) → x.kept ≡ Some i → i < length base.kept.now

-- the operands of each statement stand before the first one of its depth
abbrev pub ArePlanned : {O B : Type 0} → (O → Op) → (O → Type 0) → Base B → List (Step O) → Type 0
ArePlanned {O} {B} means formed base steps = (first k : ℕ) (x y : Step O) → first ≤ k → slice_get steps first ≡ Some y → slice_get steps k ≡ Some x → x.depth ≡ y.depth → IsStep means formed base first x

-- what is kept of each statement that the edit didn't write is right for its operands before
abbrev pub AreRight : {O B : Type 0} → (O → Op) → (Size → Op → List Cells → Aside B → Type 0) → Base B → List (Step O) → Type 0
AreRight {O} {B} means suits base steps = (k : ℕ) (x : Step O) (own : Kept B) → slice_get steps k ≡ Some x → kept_by base x.kept ≡ Some own → x.written ≡ false
    → IsRightOver suits base.extent (means x.op) (operands_at (plan_of means base steps) k) own
