-- The statements of a depth that are at work, and those that stay as they were.
use Rattle.std.specs.Prelude.{◌≡◌, ℕ, suc, ◌<◌, ◌≤◌, List, [], ◌∷◌, map, length, Option, Some, None, slice_get, if◌then◌else◌}
use Rattle.std.specs.List.{All}
use Rattle.map_nums.specs.Grids.{Size, Cells}
use Rattle.map_defs.specs.Ops.{Op}
use Rattle.layer_tiles.specs.Changes.{ChangeState}
use Rattle.map_waves.specs.Operands.{IsOperand}
use Rattle.map_waves.specs.Keeping.{IsRightKept}
use Rattle.map_waves.specs.Plans.{operands_at}
use Rattle.map_waves.specs.Bases.{kept_by, plan_of}
use Rattle.map_waves.specs.Prepared.{IsPrepared}
use Rattle.map_waves.specs.declared.keeping.Aside.{Aside}
use Rattle.map_waves.specs.declared.keeping.Kept.{Kept}
use Rattle.map_waves.specs.declared.tasks.Task.{Task}
use Rattle.map_waves.specs.declared.plans.Step.{Step}
use Rattle.map_waves.specs.declared.plans.Base.{Base}

-- the places ascend from `low` on, below `end`, and each other number there stays
abbrev pub AreBetween : (ℕ → Type 0) → ℕ → ℕ → List ℕ → Type 0
AreBetween stays low end [] = (k : ℕ) → low ≤ k → k < end → stays k
AreBetween stays low end (x ∷ xs) = (low ≤ x) × (x < end) × ((k : ℕ) → low ≤ k → k < x → stays k) × AreBetween stays (suc x) end xs

abbrev pub places_of : List Task → List ℕ
places_of tasks = map (λ (t : Task). t.place) tasks

-- statement k stays as it was
abbrev pub StaysAt : {O B : Type 0} → (O → Op) → (Size → Op → List Cells → Aside B → Type 0) → Base B → List (Step O) → ℕ → Type 0
StaysAt {O} {B} means suits base steps k = (x : Step O) → slice_get steps k ≡ Some x → IsPrepared suits (plan_of means base steps) k (kept_by base x.kept) None

-- what a statement is repaired from; none where the edit wrote it
abbrev pub reckoned_kept : {O B : Type 0} → Base B → Step O → Option (Kept B)
reckoned_kept {O} {B} base x = if x.written then None else kept_by base x.kept

-- a statement of an operation can be repaired over these operands
pub record IsFit {O B : Type 0} (means : O → Op) (formed : O → Type 0) (suits : Size → Op → List Cells → Aside B → Type 0) (base : Base B) (operands : List ChangeState) (x : Step O) : Type 0 where
  pub op : formed x.op
  pub terms : length operands ≡ length ((means x.op).terms)
  pub right : IsRightKept suits base.extent (means x.op) operands (reckoned_kept base x)

-- a statement with its operands
pub record IsTask {O B : Type 0} (means : O → Op) (formed : O → Type 0) (suits : Size → Op → List Cells → Aside B → Type 0) (base : Base B) (steps : List (Step O)) (t : Task) : Type 0 where
  pub below : t.place < length steps
  pub is : t.operands ≡ operands_at (plan_of means base steps) t.place
  pub operands : All (IsOperand base.extent) t.operands
  pub fit : (x : Step O) → slice_get steps t.place ≡ Some x → IsFit means formed suits base t.operands x

-- the statements from place `first` to before `end` that don't stay
pub record AreTasks {O B : Type 0} (means : O → Op) (formed : O → Type 0) (suits : Size → Op → List Cells → Aside B → Type 0) (base : Base B) (steps : List (Step O)) (first end : ℕ) (tasks : List Task) : Type 0 where
  pub between : AreBetween (StaysAt means suits base steps) first end (places_of tasks)
  pub each : All (IsTask means formed suits base steps) tasks
