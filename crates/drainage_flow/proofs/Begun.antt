-- A first flow, made of tables of it and of its surface.
use Rattle.std.proofs.Common.{◌≡◌, ℕ, ◌*◌, List, length, Some, None, sym, ◌∙◌, arith, ℤ}
use Rattle.std.proofs.lemmas.List.FromFn.{length-range_with_len}
use Rattle.map_nums.specs.Grids.{Size, Cells, grid_by}
use Rattle.map_defs.specs.Flow.{flow_grid}
use Rattle.map_defs.specs.Ops.{Term}
use Rattle.map_defs.specs.Damage.{op_damage}
use Rattle.map_defs.specs.Work.{first_work}
use Rattle.layer_tiles.specs.Tiles.{tiles_in}
use Rattle.layer_tiles.specs.Changes.{ChangeState}
use Rattle.layer_tiles.specs.Patches.{PatchState}
use Rattle.layer_tiles.specs.Tallies.{TallyState, RisesBy}
use Rattle.layer_tiles.proofs.Rising.{rises_within}
use Rattle.tile_work.specs.Working.{IsPatchTo}
use Rattle.drainage_flow.specs.Overflows.{IsOverflow}
use Rattle.drainage_flow.specs.Pouring.{flow_in}
use Rattle.drainage_flow.specs.First.{AreFlows}
use Rattle.drainage_flow.specs.Operands.{HasCells}
use Rattle.drainage_flow.specs.Showing.{shown_at}
use Rattle.drainage_flow.specs.Whole.{AreInRange, IsFirstWide}
use Rattle.drainage_flow.specs.Repairs.{flow_damage, flow_work, IsFlowRepair}
use Rattle.drainage_flow.proofs.Ends.{first_overflow}
use Rattle.drainage_flow.proofs.Repaired.{flow_begun}

module _ (extent : Size) (cells loads : Cells) (flows : List ℤ) (a : AreFlows extent cells loads flows) (surface weights : ChangeState) (heights : HasCells extent cells surface) (lasts : HasCells extent loads weights) where
  flows_here : AreFlows surface.size surface.cells weights.cells flows
  flows_here = rw (heights.size, heights.cells, lasts.cells) a

  pub begun_wide : (at : ℕ) → IsFirstWide flows at → IsOverflow surface.size surface.cells weights.cells (Some at)
  begun_wide at w = first_overflow surface.size surface.cells weights.cells flows at flows_here w

  pub begun_all : (patch : PatchState) (n : ℕ) → AreInRange flows → patch.size ≡ extent → IsPatchTo extent None (grid_by extent (shown_at cells (flow_in flows))).cells patch.tiles → ((ws : Cells) → n ≡ first_work extent (flow_grid extent cells ws).cells) → IsFlowRepair surface weights None patch n
  begun_all patch n narrow size makes worked =
      let P : IsPatchTo surface.size None (grid_by surface.size (shown_at surface.cells (flow_in flows))).cells patch.tiles = rw (heights.size, heights.cells) makes in
      let W : n ≡ first_work surface.size (flow_grid surface.size surface.cells weights.cells).cells = rw (heights.size, heights.cells) (worked weights.cells) in
      flow_begun surface weights flows patch n flows_here narrow (size ∙ sym heights.size) P W

-- what it reads
pub first_rises : (t u : Term) (surface weights : ChangeState) (a b : TallyState) → RisesBy (2 * tiles_in surface.size) 0 a b → RisesBy (32 * length (flow_damage t u surface weights None)) (1000 * flow_work t u surface weights None) a b
unfolding op_damage
first_rises t u surface weights a b r =
    let n : length (flow_damage t u surface weights None) ≡ tiles_in surface.size = length-range_with_len 0 (tiles_in surface.size) in
    rises_within (2 * tiles_in surface.size) 0 (32 * length (flow_damage t u surface weights None)) (1000 * flow_work t u surface weights None) a b (omega (arith, n)) (omega arith) r
