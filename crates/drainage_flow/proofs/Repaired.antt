-- The flow that was mended and written is the flow after the edit.
use Rattle.std.proofs.Common.{◌≡◌, ℕ, ◌+◌, ◌<◌, List, length, get_or, Some, None, ◌∙◌, ap, subst, ℤ, true}
use Rattle.std.specs.List.{All}
use Rattle.std.proofs.lemmas.List.Elements.{Contains-get_or}
use Rattle.map_nums.specs.Grids.{Size, Cells, cells_in, grid_by}
use Rattle.map_nums.specs.Numbers.{is_value}
use Rattle.map_defs.specs.Work.{op_work, first_work}
use Rattle.layer_tiles.specs.Changes.{ChangeState}
use Rattle.layer_tiles.specs.Patches.{PatchState}
use Rattle.tile_work.specs.Working.{IsPatchTo}
use Rattle.changed_cells.specs.Unions.{AreAllPlaces, both_changed}
use Rattle.drainage_flow.specs.FlowNets.{flow_number}
use Rattle.drainage_flow.specs.Settling.{number_at, AreNewFlows}
use Rattle.drainage_flow.specs.Mending.{now_at}
use Rattle.drainage_flow.specs.Overflows.{IsOverflow}
use Rattle.drainage_flow.specs.Pouring.{flow_in}
use Rattle.drainage_flow.specs.First.{AreFlows}
use Rattle.drainage_flow.specs.Showing.{shown_at, changes, ArePlaced}
use Rattle.drainage_flow.specs.Whole.{AreInRange}
use Rattle.drainage_flow.specs.Repairs.{flow_now, IsFlowRepair}
use Rattle.drainage_flow.proofs.Ends.{grid_shown, number_in_range, next_worked, all_narrow}

module _ (s : Size) (surface weights old : Cells) (puts : List (ℕ × ℤ)) (new : AreNewFlows s surface weights old puts) where
  pub placed : ArePlaced s old puts (flow_number s surface weights)
  placed = record { each = new.placed }

  pub puts_within : All (λ p. p.0 < cells_in s) puts
  puts_within k d l = (new.placed (get_or puts k d) (Contains-get_or puts k d l)).0

  pub puts_in_range : IsOverflow s surface weights None → All (λ p. is_value p.1 ≡ true) puts
  puts_in_range none k d l =
      let h = new.placed (get_or puts k d) (Contains-get_or puts k d l) in
      ap is_value h.1 ∙ number_in_range s surface weights (get_or puts k d).0 (none (get_or puts k d).0 h.0)

pub flow_repaired : (surface weights : ChangeState) (old : Cells) (changed : List ℕ) (puts : List (ℕ × ℤ)) (patch : PatchState) (n : ℕ) → AreAllPlaces surface.size (both_changed surface weights) changed → AreNewFlows surface.size surface.cells weights.cells old puts → IsOverflow surface.size surface.cells weights.cells None → patch.size ≡ surface.size → IsPatchTo surface.size (Some old) (grid_by surface.size (shown_at surface.cells (now_at (number_at old) puts))).cells patch.tiles → n ≡ length changed + changes surface.size old (grid_by surface.size (shown_at surface.cells (now_at (number_at old) puts))).cells → IsFlowRepair surface weights (Some old) patch n
flow_repaired surface weights old changed puts patch n all new none size makes worked =
    let e : (grid_by surface.size (shown_at surface.cells (now_at (number_at old) puts))).cells ≡ flow_now surface weights = grid_shown surface.size surface.cells weights.cells (now_at (number_at old) puts) new.makes in
    record {
      size = size;
      flow = subst (λ (xs : Cells). IsPatchTo surface.size (Some old) xs patch.tiles) e makes;
      worked = λ t u. next_worked t u surface weights old changed n all (worked ∙ ap (λ (xs : Cells). length changed + changes surface.size old xs) e);
      in_range = none;
    }

pub flow_begun : (surface weights : ChangeState) (flows : List ℤ) (patch : PatchState) (n : ℕ) → AreFlows surface.size surface.cells weights.cells flows → AreInRange flows → patch.size ≡ surface.size → IsPatchTo surface.size None (grid_by surface.size (shown_at surface.cells (flow_in flows))).cells patch.tiles → n ≡ first_work surface.size (flow_now surface weights) → IsFlowRepair surface weights None patch n
unfolding op_work
flow_begun surface weights flows patch n a narrow size makes worked =
    let e : (grid_by surface.size (shown_at surface.cells (flow_in flows))).cells ≡ flow_now surface weights = grid_shown surface.size surface.cells weights.cells (flow_in flows) a.each in
    record {
      size = size;
      flow = subst (λ (xs : Cells). IsPatchTo surface.size None xs patch.tiles) e makes;
      worked = λ t u. worked;
      in_range = all_narrow surface.size surface.cells weights.cells flows a narrow;
    }
