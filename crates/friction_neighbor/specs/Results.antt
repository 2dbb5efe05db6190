-- What a repair of costs and values starts from, and how much it reads.
use Rattle.std.specs.Prelude.{◌≡◌, ℕ, ◌*◌, List, [], ◌∷◌, length, Option, Some, None}
use Rattle.map_nums.specs.Grids.{Cells}
use Rattle.map_defs.specs.Damage.{op_damage}
use Rattle.map_defs.specs.Nearest.{AreNearest}
use Rattle.map_defs.specs.Ops.{Term, nearest_op}
use Rattle.map_defs.specs.Work.{op_work}
use Rattle.layer_tiles.specs.Changes.{ChangeState, cells_before}
use Rattle.layer_tiles.specs.ChangeFacts.{HoldsNoUnchanged}
use Rattle.layer_tiles.specs.Layers.{LayerState}
use Rattle.layer_tiles.specs.Tallies.{TallyState, RisesBy}
use Rattle.friction_spread.specs.Repairs.{IsRightBefore}
use Rattle.friction_neighbor.specs.declared.repair.Nearest.{Nearest}

-- the layers that there were
abbrev pub costs_of : Option Nearest → Option LayerState
costs_of None = None
costs_of (Some old) = Some old.cost.now

abbrev pub values_of : Option Nearest → Option LayerState
values_of None = None
values_of (Some old) = Some old.value.now

-- they have the least costs and the numbers of the nearest sources for the operands before
pub record AreRightBefore (sources friction : ChangeState) (limit : ℕ) (old : Nearest) : Type 0 where
  pub costs : IsRightBefore sources friction limit old.cost.now
  pub size : old.value.now.size ≡ sources.size
  pub values : AreNearest sources.size (cells_before sources) (cells_before friction) limit old.value.now.cells

-- if there are layers, they have
abbrev pub AreOldFor : ChangeState → ChangeState → ℕ → Option Nearest → Type 0
AreOldFor sources friction limit None = Unit {0}
AreOldFor sources friction limit (Some old) = AreRightBefore sources friction limit old

-- the operands before and after
abbrev pub befores : ChangeState → ChangeState → List Cells
befores sources friction = cells_before sources ∷ cells_before friction ∷ []

abbrev pub afters : ChangeState → ChangeState → List Cells
afters sources friction = sources.cells ∷ friction.cells ∷ []

-- at most so many looks for each tile of the damage and so many picks for each unit of work, where each touched tile of an operand differs
abbrev pub NearestReadsWithin : ℕ → ℕ → ChangeState → ChangeState → ℕ → Option Cells → TallyState → TallyState → Type 0
NearestReadsWithin looks picks sources friction limit was x y =
    HoldsNoUnchanged sources → HoldsNoUnchanged friction → (t u : Term) (cells : Cells) → AreNearest sources.size sources.cells friction.cells limit cells → RisesBy (looks * length (op_damage (nearest_op limit t u) sources.size (befores sources friction) (afters sources friction) was cells)) (picks * op_work (nearest_op limit t u) sources.size (befores sources friction) (afters sources friction) was cells) x y
