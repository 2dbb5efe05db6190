-- What a repair starts from and gives.
use Rattle.std.specs.Prelude.{◌≡◌, ◌≢◌, ◌↔◌, ℕ, ◌*◌, ◌<◌, List, [], ◌∷◌, length, Option, Some, None, IsSome}
use Rattle.map_nums.specs.Grids.{Size, Cells}
use Rattle.map_defs.specs.Damage.{op_damage}
use Rattle.map_defs.specs.Ops.{Term, spread_op}
use Rattle.map_defs.specs.Spread.{IsSpread}
use Rattle.map_defs.specs.Work.{op_work}
use Rattle.layer_tiles.specs.Tiles.{Block, tiles_in, tile_cells}
use Rattle.layer_tiles.specs.Patches.{patch_get, patched, HoldsAll}
use Rattle.layer_tiles.specs.Layers.{LayerState}
use Rattle.layer_tiles.specs.Changes.{ChangeState, cells_before}
use Rattle.layer_tiles.specs.ChangeFacts.{HoldsNoUnchanged}
use Rattle.layer_tiles.specs.Tallies.{TallyState, RisesBy}

-- the tiles are exactly those whose cells differ
abbrev pub HoldsExactly : Size → Cells → List (ℕ × Block) → Type 0
HoldsExactly s before tiles = (t : ℕ) → t < tiles_in s → IsSome (patch_get tiles t) ↔ (tile_cells s (patched s before tiles) t ≢ tile_cells s before t)

-- the layer has the least costs for the operands before
pub record IsRightBefore (sources friction : ChangeState) (limit : ℕ) (base : LayerState) : Type 0 where
  pub size : base.size ≡ sources.size
  pub sources_there : IsSome sources.before
  pub friction_there : IsSome friction.before
  pub right : IsSpread sources.size (cells_before sources) (cells_before friction) limit base.cells

-- if there is a layer, it has
abbrev pub IsBaseFor : ChangeState → ChangeState → ℕ → Option LayerState → Type 0
IsBaseFor sources friction limit None = Unit {0}
IsBaseFor sources friction limit (Some base) = IsRightBefore sources friction limit base

-- the changed tiles exactly; all tiles where there was no layer
abbrev pub IsPatchFor : Size → Option LayerState → List (ℕ × Block) → Type 0
IsPatchFor s None tiles = HoldsAll (record { size = s; tiles = tiles })
IsPatchFor s (Some l) tiles = HoldsExactly s l.cells tiles

-- at most so many looks for each tile of the damage and so many picks for each unit of work, where each touched tile of an operand differs
abbrev pub ReadsWithin : ℕ → ℕ → ChangeState → ChangeState → ℕ → Option Cells → TallyState → TallyState → Type 0
ReadsWithin looks picks sources friction limit was x y =
    let before : List Cells = cells_before sources ∷ cells_before friction ∷ [] in
    let after : List Cells = sources.cells ∷ friction.cells ∷ [] in
    HoldsNoUnchanged sources → HoldsNoUnchanged friction → (t u : Term) (cells : Cells) → IsSpread sources.size sources.cells friction.cells limit cells → RisesBy (looks * length (op_damage (spread_op limit t u) sources.size before after was cells)) (picks * op_work (spread_op limit t u) sources.size before after was cells) x y
