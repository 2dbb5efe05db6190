-- A flow that was put right after an edit, in the words of operations, damage and work.
use Rattle.std.specs.Prelude.{◌≡◌, ℕ, List, [], ◌∷◌, Option, Some, None, IsSome}
use Rattle.map_nums.specs.Grids.{Cells}
use Rattle.map_defs.specs.Ops.{Term, flow_op}
use Rattle.map_defs.specs.Flow.{flow_grid}
use Rattle.map_defs.specs.Damage.{op_damage}
use Rattle.map_defs.specs.Work.{op_work}
use Rattle.layer_tiles.specs.Changes.{ChangeState, cells_before}
use Rattle.layer_tiles.specs.Layers.{LayerState}
use Rattle.layer_tiles.specs.Patches.{PatchState}
use Rattle.layer_tiles.specs.declared.kernels.KernelRefusal.{KernelRefusal}
use Rattle.layer_tiles.specs.declared.kernels.KernelRefusal.TheVariants.{Overflow, NoMemory}
use Rattle.tile_work.specs.Working.{IsPatchTo}
use Rattle.drainage_flow.specs.Overflows.{IsOverflow}

-- the operands before the edit, and after it
abbrev pub were : ChangeState → ChangeState → List Cells
were surface weights = cells_before surface ∷ cells_before weights ∷ []

abbrev pub are : ChangeState → ChangeState → List Cells
are surface weights = surface.cells ∷ weights.cells ∷ []

-- the flow after the edit
abbrev pub flow_now : ChangeState → ChangeState → Cells
flow_now surface weights = (flow_grid surface.size surface.cells weights.cells).cells

-- the tiles that the edit damages, and the work of the repair
abbrev pub flow_damage : Term → Term → ChangeState → ChangeState → Option Cells → List ℕ
flow_damage t u surface weights was = op_damage (flow_op t u) surface.size (were surface weights) (are surface weights) was (flow_now surface weights)

abbrev pub flow_work : Term → Term → ChangeState → ChangeState → Option Cells → ℕ
flow_work t u surface weights was = op_work (flow_op t u) surface.size (were surface weights) (are surface weights) was (flow_now surface weights)

-- there is no flow from before, or it is that of the operands before
abbrev pub IsFlowBefore : ChangeState → ChangeState → Option LayerState → Type 0
IsFlowBefore surface weights None = Unit {0}
IsFlowBefore surface weights (Some l) = (l.size ≡ surface.size) × IsSome surface.before × IsSome weights.before × (l.cells ≡ (flow_grid surface.size (cells_before surface) (cells_before weights)).cells)

-- the patch makes the flow after the edit, and holds the changed tiles alone, or all where there was no flow; no flow is out of range
pub record IsFlowRepair (surface weights : ChangeState) (was : Option Cells) (patch : PatchState) (n : ℕ) : Type 0 where
  pub size : patch.size ≡ surface.size
  pub flow : IsPatchTo surface.size was (flow_now surface weights) patch.tiles
  pub worked : (t u : Term) → n ≡ flow_work t u surface weights was
  pub in_range : IsOverflow surface.size surface.cells weights.cells None

-- some flow is out of range, the first one at that cell; want of memory is free
abbrev pub IsFlowRefusal : ChangeState → ChangeState → KernelRefusal → Type 0
IsFlowRefusal surface weights (Overflow at) = IsOverflow surface.size surface.cells weights.cells (Some at)
IsFlowRefusal surface weights NoMemory = Unit {0}
