use Rattle.std.proofs.Common.{◌≡◌, [], sym, ◌∙◌, ap, subst}
use Rattle.map_nums.specs.Grids.{Size, Cells}
use Rattle.map_defs.specs.Spread.{IsSpread}
use Rattle.map_defs.specs.Work.{first_work}
use Rattle.layer_tiles.specs.Patches.{patched}
use Rattle.friction_spread.specs.Shown.{shown_cells}
use Rattle.friction_spread.proofs.Showing.{shown_spread}
use Rattle.friction_spread.proofs.first.first_repair.Goals as goal
use Rattle.friction_spread.proofs.first.first_repair.Goals.{In_ok-patch}

cells_made : (c : In_ok-patch) → patched c.args.ground.now.size [] c.in_ok-patch.patch.tiles ≡ shown_cells c.args.ground.now.size c.args.ground.now.limit c.args.costs.now
cells_made c =
    let gr = c.args.ground.now in
    let costs = c.args.costs.now in
    let tiles = c.in_ok-patch.patch.tiles in
    ap (λ (s : Size). patched s [] tiles) (sym c.extent.ensures.extent) ∙ c.in_ok-patch.ensures.patch.makes ∙ ap (λ (s : Size). shown_cells s c.limit.result costs) c.extent.ensures.extent ∙ ap (λ n. shown_cells gr.size n costs) c.limit.ensures.limit

pub returns-clause-spread : goal.returns-clause-spread
returns-clause-spread c =
    let gr = c.args.ground.now in
    let P : Cells → Type 0 = IsSpread gr.size gr.sources gr.friction gr.limit in
    subst P (sym (cells_made (goal.at.returns-clause-spread c).In_ok-patch)) (shown_spread gr c.args.costs.now c.requires.count c.requires.least)

pub returns-clause-worked : goal.returns-clause-worked
returns-clause-worked c = c.work_of-worked.ensures ∙ ap (first_work c.args.ground.now.size) (sym (cells_made (goal.at.returns-clause-worked c).In_ok-patch))
