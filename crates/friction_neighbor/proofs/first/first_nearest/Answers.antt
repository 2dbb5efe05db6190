use Rattle.std.proofs.Common.{◌≡◌, [], length, sym, ◌∙◌, ap, subst, arith, to_z, of_z}
use Rattle.std.specs.Prelude.{nat_abs}
use Rattle.map_nums.specs.Grids.{Size, cells_in}
use Rattle.map_nums.specs.Widths.{value_width}
use Rattle.map_defs.specs.Work.{first_work}
use Rattle.layer_tiles.specs.Patches.{patched}
use Rattle.friction_spread.specs.Bands.{ground_of}
use Rattle.friction_spread.specs.Lists.{list_cells as cost_cells}
use Rattle.friction_neighbor.specs.Bands.{list_cells}
use Rattle.friction_neighbor.specs.Fields.{FieldState, IsField}
use Rattle.friction_neighbor.proofs.Results.{same_work}
use Rattle.friction_neighbor.proofs.first.first_nearest.Goals as goal

pub returns-clause-worked : goal.returns-clause-worked
returns-clause-worked g c =
    let s = c.extent-extent.result in
    let list = c.in_ok-list.list in
    let near = c.in_ok-list.ensures in
    let same = c.extent-extent.ensures.extent in
    let f : FieldState = record { ground = ground_of s c.deref-3.result.now c.deref-4.result.now (nat_abs (to_z value_width (of_z value_width c.args.limit))); costs = cost_cells s list.costs } in
    let field : IsField f = record {
      size = c.rows-rows.ensures.size;
      limit = omega (arith, near.costs.limit, near.costs.same_limit);
      sources = ap length (c.deref-3.ensures.value ∙ c.in_ok-begins.ensures.cells) ∙ c.extent-extent.ensures.change.cells ∙ ap cells_in (sym same);
      friction = ap length (c.deref-4.ensures.value ∙ c.in_ok-frictions.ensures.cells) ∙ c.extent-friction.ensures.change.cells ∙ ap cells_in (c.requires.size ∙ sym same);
      costs = near.costs.spread;
    } in
    let P : Size → Type 0 = λ z. c.worked.result ≡ first_work z (patched z [] c.in_ok-values.field-0.tiles) in
    subst P same (c.worked.ensures ∙ near.costs.worked ∙ sym (same_work f field (list_cells s list) near.nearest) ∙ ap (first_work s) (sym c.in_ok-values.ensures.cells))
