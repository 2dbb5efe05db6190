use Rattle.std.proofs.Common.{◌≡◌, ℕ, ◌+◌, ◌*◌, ◌/◌, ◌%◌, min, sym, ◌∙◌, ap, subst, arith}
use Rattle.std.proofs.lemmas.Nat.{mul-le}
use Rattle.map_nums.specs.Grids.{Size}
use Rattle.layer_tiles.specs.Runs.{run_length}
use Rattle.sight_lines.specs.Found.{IsFound}
use Rattle.sight_lines.proofs.Bands.{in_band_of, slot_there, band_row, band_begins}
use Rattle.sight_lines.proofs.searches.add_band.Goals as goal

pub overflow_mul-band : goal.overflow_mul-band
overflow_mul-band c = omega (arith, band_row c.args.of.now.size c.args.band c.requires.band, c.extent-extent.ensures.size.most_rows)

pub overflow_add-band : goal.overflow_add-band
overflow_add-band c = omega (arith, band_row c.args.of.now.size c.args.band c.requires.band, c.extent-extent.ensures.size.most_rows)

pub overflow_mul-at : goal.overflow_mul-at
overflow_mul-at c = omega (arith, band_row c.args.of.now.size c.args.band c.requires.band, c.extent-extent.ensures.size.most_rows)

pub overflow_mul-at-2 : goal.overflow_mul-at-2
overflow_mul-at-2 c =
    let s = c.args.of.now.size in
    let columns : c.columns-columns.result ≡ s.columns = c.columns-columns.ensures.columns ∙ ap (λ (z : Size). z.columns) c.extent-extent.ensures.extent in
    omega (arith, ap (λ n. c.args.band * 32 * n) columns, mul-le (c.args.band * 32) s.columns s.rows s.columns (omega (arith, band_row s c.args.band c.requires.band)) (omega arith), c.extent-extent.ensures.size.most_cells)

pub loop-at-init : goal.loop-at-init
loop-at-init c =
    let s = c.args.of.now.size in
    let columns : c.columns-columns.result ≡ s.columns = c.columns-columns.ensures.columns ∙ ap (λ (z : Size). z.columns) c.extent-extent.ensures.extent in
    let e : c.args.band * 32 * c.columns-columns.result ≡ c.args.band * 32 * s.columns = ap (λ n. c.args.band * 32 * n) columns in
    record {
      low = omega (arith, e);
      high = omega (arith, e, mul-le (c.args.band * 32) s.columns (min s.rows (c.args.band * 32 + 32)) s.columns (omega (arith, band_row s c.args.band c.requires.band)) (omega arith));
      found = subst (λ (n : ℕ). IsFound c.args.of.now.cells n c.args.pairs.now.items c.args.count) (band_begins s c.args.band c.requires.band ∙ sym e) c.requires.found;
    }

pub bounds-slots-at : goal.bounds-slots-at
bounds-slots-at c =
    let s = c.args.of.now.size in
    let columns : c.columns-columns.result ≡ s.columns = c.columns-columns.ensures.columns ∙ ap (λ (z : Size). z.columns) c.extent-extent.ensures.extent in
    let rows : c.rows.result ≡ s.rows = c.rows.ensures.rows ∙ ap (λ (z : Size). z.rows) c.extent-extent.ensures.extent in
    let b = in_band_of s c.args.band c.loop-at.at c.rows.result c.columns-columns.result c.min.result c.extent-extent.ensures.size rows columns c.min.ensures c.loop-at.invariant.low c.loop-at-test.true in
    let e : c.loop-at.at % c.columns-columns.result / 32 ≡ c.loop-at.at % s.columns / 32 = ap (λ n. c.loop-at.at % n / 32) columns in
    omega (arith, e, b.column, c.requires.slots.count)

pub add_run-requires-clause-slot : goal.add_run-requires-clause-slot
add_run-requires-clause-slot c =
    let s = c.args.of.now.size in
    let columns : c.columns-columns.result ≡ s.columns = c.columns-columns.ensures.columns ∙ ap (λ (z : Size). z.columns) c.extent-extent.ensures.extent in
    let rows : c.rows.result ≡ s.rows = c.rows.ensures.rows ∙ ap (λ (z : Size). z.rows) c.extent-extent.ensures.extent in
    let b = in_band_of s c.args.band c.loop-at.at c.rows.result c.columns-columns.result c.min.result c.extent-extent.ensures.size rows columns c.min.ensures c.loop-at.invariant.low c.loop-at-test.true in
    slot_there c.args.kept.now c.args.of.now c.args.band c.loop-at.at c.columns-columns.result c.args.slots.now c.index-slots-at.result c.requires.slots b columns c.index-slots-at.is

pub loop-at-smaller : goal.loop-at-smaller
loop-at-smaller c =
    let s = c.args.of.now.size in
    let columns : c.columns-columns.result ≡ s.columns = c.columns-columns.ensures.columns ∙ ap (λ (z : Size). z.columns) c.extent-extent.ensures.extent in
    let rows : c.rows.result ≡ s.rows = c.rows.ensures.rows ∙ ap (λ (z : Size). z.rows) c.extent-extent.ensures.extent in
    let b = in_band_of s c.args.band c.loop-at.at c.rows.result c.columns-columns.result c.min.result c.extent-extent.ensures.size rows columns c.min.ensures c.loop-at.invariant.low c.loop-at-test.true in
    let n : c.run_length-at.result ≡ run_length s c.loop-at.at = c.run_length-at.ensures.length ∙ ap (λ (z : Size). run_length z c.loop-at.at) c.extent-extent.ensures.extent in
    omega (arith, n, b.some, c.loop-at-test.true)

pub loop-at-preserved : goal.loop-at-preserved
loop-at-preserved c =
    let s = c.args.of.now.size in
    let columns : c.columns-columns.result ≡ s.columns = c.columns-columns.ensures.columns ∙ ap (λ (z : Size). z.columns) c.extent-extent.ensures.extent in
    let rows : c.rows.result ≡ s.rows = c.rows.ensures.rows ∙ ap (λ (z : Size). z.rows) c.extent-extent.ensures.extent in
    let b = in_band_of s c.args.band c.loop-at.at c.rows.result c.columns-columns.result c.min.result c.extent-extent.ensures.size rows columns c.min.ensures c.loop-at.invariant.low c.loop-at-test.true in
    let n : c.run_length-at.result ≡ run_length s c.loop-at.at = c.run_length-at.ensures.length ∙ ap (λ (z : Size). run_length z c.loop-at.at) c.extent-extent.ensures.extent in
    record {
      low = omega (arith, c.loop-at.invariant.low);
      high = omega (arith, n, b.stays);
      found = subst (λ (k : ℕ). IsFound c.args.of.now.cells (c.loop-at.at + k) c.add_run.new.pairs.items c.in_ok-found.found) (sym n) c.in_ok-found.ensures;
    }
