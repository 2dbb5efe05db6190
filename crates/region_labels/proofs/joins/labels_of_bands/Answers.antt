use Rattle.std.proofs.Common.{◌≡◌, ℕ, ◌+◌, ◌*◌, length, drop, ◌∙◌, ap, subst, arith}
use Rattle.std.proofs.lemmas.List.{with_items_is}
use Rattle.map_nums.specs.Grids.{Cells}
use Rattle.region_labels.specs.Flood.{marks_in}
use Rattle.region_labels.specs.Lists.{labelled}
use Rattle.region_labels.specs.Provisional.{IsLabelBand, AreLabelBands, IsJoinStep}
use Rattle.region_labels.proofs.Leading.{step_list, bands_within, next_band, marks_joined, rows_joined, few_marks, rows_all}
use Rattle.region_labels.proofs.Seams.{step_count}
use Rattle.region_labels.proofs.joins.labels_of_bands.Goals as goal
use Rattle.region_labels.proofs.joins.labels_of_bands.Goals.{In_ok-add_band}

-- the band, and the rows to before its end
next : (c : In_ok-add_band) → (end : ℕ) × IsLabelBand c.args.extent c.args.cells.now c.loop-band.invariant.row end c.band-item.result × AreLabelBands c.args.extent c.args.cells.now end (drop (c.loop-band.band-index + 1) c.args.bands.now)
next c = next_band c.args.extent c.args.cells.now c.args.bands.now c.loop-band.band-index c.loop-band.invariant.row c.band-item.result c.loop-band-test.true c.band-item.is c.loop-band.invariant.below

above : (c : In_ok-add_band) → length c.add_band.new.labels.items ≡ (next c).0 * c.args.extent.columns
above c = rows_joined c.args.extent c.args.cells.now c.loop-band.labels.items c.add_band.new.labels.items c.band-item.result c.loop-band.invariant.row (next c).0 c.loop-band.invariant.above (next c).1 c.in_ok-add_band.ensures.marks

counted : (c : In_ok-add_band) → c.loop-band.count + c.band-item.result.count ≡ marks_in (labelled c.add_band.new.labels.items)
counted c = omega (arith, c.loop-band.invariant.count, (next c).1.counted, marks_joined c.loop-band.labels.items c.band-item.result.labels.items c.add_band.new.labels.items c.in_ok-add_band.ensures.marks)

pub overflow_add-count : goal.overflow_add-count
overflow_add-count c =
    let here = (goal.at.overflow_add-count c).In_ok-add_band in
    omega (arith, counted here, few_marks c.args.extent c.add_band.new.labels.items (next here).0 (above here) (next here).1.within, c.cells-all.ensures.size.most_cells)

pub loop-band-preserved : goal.loop-band-preserved
loop-band-preserved c =
    let here = (goal.at.loop-band-preserved c).In_ok-add_band in
    record {
      provisional = c.in_ok-add_band.ensures.provisional;
      tied = c.in_ok-add_band.ensures.tied;
      row = (next here).0;
      above = above here;
      below = (next here).2;
      count = counted here;
    }

pub overflow_add-worked : goal.overflow_add-worked
overflow_add-worked c =
    let i = c.loop-band.invariant in
    let s = c.args.extent in
    let all = rows_all s c.args.cells.now c.args.bands.now c.loop-band.band-index i.row (omega (arith, c.loop-band-test.false)) i.below in
    omega (arith, i.count, few_marks s c.loop-band.labels.items i.row i.above (omega (arith, all)), c.from.ensures, c.cells-all.ensures.cells, c.cells-all.ensures.size.most_cells)

pub shorten_ways-requires-clause-bands : goal.shorten_ways-requires-clause-bands
shorten_ways-requires-clause-bands c = bands_within c.args.extent c.args.cells.now 0 c.args.bands.now c.requires.bands

pub returns : goal.returns
returns c =
    let i = c.loop-band.invariant in
    let s = c.args.extent in
    let cells = c.args.cells.now in
    let old = c.loop-band.labels in
    let new = c.shorten_ways.new.labels in
    let all = rows_all s cells c.args.bands.now c.loop-band.band-index i.row (omega (arith, c.loop-band-test.false)) i.below in
    let step = subst (λ (xs : Cells). IsJoinStep s cells xs new) c.deref_mut.ensures.value c.shorten_ways.ensures in
    let is = with_items_is old new (step_count s cells c.deref_mut.result.now new c.shorten_ways.ensures ∙ c.deref_mut.ensures.len) in
    step_list s cells old.items new (i.above ∙ ap (λ r. r * s.columns) all) step i.tied _ is (omega (arith, i.count, c.from.ensures, c.cells-all.ensures.cells))
