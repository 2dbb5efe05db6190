-- A statement whose layer is repaired whole: flow, spreading, regions, nearest sources.
use Rattle.std.specs.Prelude.{◌≡◌, ℕ, List, Option, Some, None, IsSome, Result, Ok, Err, ⊤}
use Rattle.std.specs.List.{All, position}
use Rattle.map_nums.specs.Answers.{is_wide}
use Rattle.map_nums.specs.Grids.{Size, Cells}
use Rattle.map_defs.specs.Ops.{Op}
use Rattle.layer_tiles.specs.Changes.{ChangeState}
use Rattle.layer_tiles.specs.Operands.{cells_after}
use Rattle.layer_tiles.specs.Layers.{LayerState}
use Rattle.layer_tiles.specs.Patches.{PatchState}
use Rattle.layer_tiles.specs.declared.kernels.KernelRefusal.{KernelRefusal}
use Rattle.layer_tiles.specs.declared.kernels.KernelRefusal.TheVariants.{Overflow, NoMemory}
use Rattle.map_waves.specs.Statements.{cells_were, made}
use Rattle.op_jobs.specs.Pieces.{IsWholeMade}

-- the layer is the operation's over the operands before, which were all there
pub record IsRightLayer (s : Size) (op : Op) (operands : List ChangeState) (l : LayerState) : Type 0 where
  pub size : l.size ≡ s
  pub there : All (λ c. IsSome c.before) operands
  pub right : l.cells ≡ made s op (cells_were operands)

-- where there is one
abbrev pub IsRightBefore : Size → Op → List ChangeState → Option LayerState → Type 0
IsRightBefore s op operands None = Unit {0}
IsRightBefore s op operands (Some l) = IsRightLayer s op operands l

-- exactly the tiles that changed, and the work; or the least cell that is out of range. Want of memory is free
abbrev pub IsWholeAnswer : Size → Op → Option Cells → List ChangeState → Result (PatchState × ℕ) KernelRefusal → Type 0
IsWholeAnswer s op was operands (Ok r) = IsWholeMade s op was operands r.0 r.1
IsWholeAnswer s op was operands (Err (Overflow at)) = position is_wide (made s op (cells_after operands)) ≡ Some at
IsWholeAnswer s op was operands (Err NoMemory) = ⊤
