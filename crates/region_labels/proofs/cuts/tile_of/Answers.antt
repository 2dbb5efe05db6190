use Rattle.std.proofs.Common.{◌+◌, ◌*◌, ◌<◌, ◌≤◌, length, None, refl, sym, ap, subst, ◌∙◌, arith}
use Rattle.std.proofs.lemmas.List.{get_or-take, length-replicate, length-take-le}
use Rattle.map_nums.specs.Grids.{cell_at}
use Rattle.layer_tiles.specs.Tiles.{Block, IsBlockOf, tile_size}
use Rattle.changed_cells.proofs.Ordering.{start_is}
use Rattle.region_labels.proofs.Cutting.{row_cut, all_cut, row_within, run_length, run_at}
use Rattle.region_labels.proofs.cuts.tile_of.Goals as goal

pub loop-r-init : goal.loop-r-init
loop-r-init c =
    let P : Block → Type 0 = λ b. IsBlockOf c.args.extent c.args.tile b in
    record {
      block = subst P (sym c.in_ok-made.ensures) (record { height = refl; width = refl; count = length-replicate (tile_size c.args.extent c.args.tile) c.null.result });
      rows = λ q k l m. absurd (omega (arith, l));
    }

pub slice_bounds-cells_of_row-end : goal.slice_bounds-cells_of_row-end
slice_bounds-cells_of_row-end c = omega (arith, row_within c.args.extent c.args.tile c.loop-r.r c.place-place.result c.columns-columns.result c.place-place.ensures.size c.requires.within c.place-place.ensures.place c.place-place.ensures.placed c.columns-columns.ensures.columns c.loop-r-test.true, c.requires.count)

pub set_row-requires-clause-row : goal.set_row-requires-clause-row
set_row-requires-clause-row c = omega (arith, c.loop-r-test.true, c.place-place.ensures.place.height, c.loop-r.invariant.block.height)

pub set_row-requires-clause-width : goal.set_row-requires-clause-width
set_row-requires-clause-width c =
    let w = c.place-place.result.width in
    let few : w ≤ length c.cells_of_row-row.result = omega (arith, c.place-place.ensures.place.width, c.place-place.ensures.placed.most_columns, c.cells_of_row-row.ensures.count) in
    length-take-le w c.cells_of_row-row.result few ∙ c.place-place.ensures.place.width ∙ sym c.loop-r.invariant.block.width

pub loop-r-preserved : goal.loop-r-preserved
loop-r-preserved c =
    let s = c.args.extent in
    let t = c.args.tile in
    let place = c.place-place.result in
    let p = c.place-place.ensures.place in
    let labels = c.args.labels.now in
    let row = c.cells_of_row-row.result in
    let start = (place.top + c.loop-r.r) * c.columns-columns.result + place.left in
    let within : start + place.width ≤ length labels = omega (arith, row_within s t c.loop-r.r place c.columns-columns.result c.place-place.ensures.size c.requires.within p c.place-place.ensures.placed c.columns-columns.ensures.columns c.loop-r-test.true, c.requires.count) in
    let long = run_length labels start place.width within in
    row_cut s labels _ t c.loop-r.r c.loop-r.made c.set_row.new.self c.set_row.ensures
    (λ k l. let m : k < place.width = omega (arith, l, p.width) in
    get_or-take place.width row k None m
    ∙ c.cells_of_row-row.ensures.each k (omega (arith, m, long))
    ∙ run_at labels start place.width k m
    ∙ ap (cell_at labels) (start_is s t c.loop-r.r k place c.columns-columns.result p c.columns-columns.ensures.columns))
    c.loop-r.invariant

pub returns : goal.returns
returns c = all_cut c.args.extent c.args.labels.now c.args.tile c.loop-r.r c.loop-r.made (omega (arith, c.loop-r-test.false, c.place-place.ensures.place.height)) c.loop-r.invariant
