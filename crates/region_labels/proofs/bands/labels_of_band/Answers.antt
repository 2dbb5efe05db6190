use Rattle.std.proofs.Common.{ℕ, ◌<◌, ◌*◌, ◌∙◌, ap, map, length, refl, subst, sym}
use Rattle.std.specs.Vec.{with_items}
use Rattle.std.proofs.lemmas.List.{with_items_is}
use Rattle.map_nums.specs.Grids.{Cells, cell_at}
use Rattle.region_labels.specs.Moves.{moved_label, IsUpTo}
use Rattle.region_labels.specs.declared.bands.LabelBand.{LabelBand}
use Rattle.region_labels.proofs.Moving.{band_most, band_is, told_count, told_regions, told_filter}
use Rattle.region_labels.proofs.bands.labels_of_band.Goals as goal

pub labels_of-requires : goal.labels_of-requires
labels_of-requires c = told_count c.args.extent c.args.cells.now c.args.first c.args.end c.columns-columns.result c.columns-columns.ensures.columns c.in-Some.band c.in-Some.ensures.size c.columns-columns.ensures.size c.requires.count c.requires.some c.requires.within

pub move_labels-requires : goal.move_labels-requires
move_labels-requires c =
    let s = c.args.extent in
    let cells = c.args.cells.now in
    let first = c.args.first in
    let labels = c.in_ok-labels.labels.items in
    let r = told_regions s cells first c.args.end c.columns-columns.result c.columns-columns.ensures.columns c.in-Some.band c.in-Some.ensures.size labels c.in_ok-labels.ensures.regions in
    let P : Cells → ℕ → Type 0 = λ xs n. (k : ℕ) → k < length xs → IsUpTo (first * n) (cell_at xs k) in
    subst (λ (xs : Cells). P xs c.columns-columns.result) (sym c.deref_mut.ensures.value) (subst (λ n. P labels n) (sym c.columns-columns.ensures.columns) (band_most s cells first c.args.end c.columns-columns.ensures.size c.requires.count c.requires.some c.requires.within labels r))

pub returns : goal.returns
returns c =
    let s = c.args.extent in
    let cells = c.args.cells.now in
    let first = c.args.first in
    let labels = c.in_ok-labels.labels.items in
    let columns = c.columns-columns.result in
    let columns_are = c.columns-columns.ensures.columns in
    let band = c.in-Some.band in
    let band_are = c.in-Some.ensures.size in
    let r = told_regions s cells first c.args.end columns columns_are band band_are labels c.in_ok-labels.ensures.regions in
    let is = with_items_is c.in_ok-labels.labels c.move_labels.new.labels (c.move_labels.auto.labels ∙ c.deref_mut.ensures.len) in
    let moved = is ∙ c.move_labels.ensures ∙ ap (map (moved_label (first * columns))) c.deref_mut.ensures.value ∙ ap (λ n. map (moved_label (first * n)) labels) columns_are in
    let b : LabelBand = record { first = first; labels = with_items c.in_ok-labels.labels c.move_labels.new.labels; count = c.in_ok-labels.count } in
    band_is s cells first c.args.end c.columns-columns.ensures.size c.requires.count c.requires.some c.requires.within labels r b refl moved
    (told_filter s cells first c.args.end columns columns_are band band_are labels c.in_ok-labels.count c.in_ok-labels.ensures.count)
