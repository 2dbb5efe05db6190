use Rattle.std.proofs.Common.{◌≡◌, ℕ, refl, ap, subst, ◌∙◌, arith}
use Rattle.map_nums.specs.Grids.{Size, IsSize}
use Rattle.layer_tiles.specs.Tiles.{tiles_across}
use Rattle.damage_sets.specs.Added.{AreRowsAdded}
use Rattle.damage_sets.proofs.Bands.{rows_none, rows_more, row_fits, some_across}
use Rattle.damage_sets.proofs.sets.TileSet.add_rows.Goals as goal

pub loop-band-init : goal.loop-band-init
loop-band-init c = record { size = refl; rows = rows_none c.tiles_across-across.result c.args.low c.args.left c.args.right c.args.self.now.marks }

pub overflow_mul-band : goal.overflow_mul-band
overflow_mul-band c = let f = row_fits c.args.self.now.size c.extent-extent.result c.loop-band.band c.tiles_across-across.result c.args.high c.args.right c.tiles-tiles.result c.loop-band-test.true c.requires.down c.requires.across c.tiles_across-across.ensures.across c.tiles-tiles.ensures.tiles c.extent-extent.ensures.extent in omega (arith, f.0, c.requires.columns)

pub overflow_add-band : goal.overflow_add-band
overflow_add-band c = let f = row_fits c.args.self.now.size c.extent-extent.result c.loop-band.band c.tiles_across-across.result c.args.high c.args.right c.tiles-tiles.result c.loop-band-test.true c.requires.down c.requires.across c.tiles_across-across.ensures.across c.tiles-tiles.ensures.tiles c.extent-extent.ensures.extent in omega (arith, f.0, c.requires.columns)

pub overflow_mul-band-in-loop-band : goal.overflow_mul-band-in-loop-band
overflow_mul-band-in-loop-band c = let f = row_fits c.args.self.now.size c.extent-extent.result c.loop-band.band c.tiles_across-across.result c.args.high c.args.right c.tiles-tiles.result c.loop-band-test.true c.requires.down c.requires.across c.tiles_across-across.ensures.across c.tiles-tiles.ensures.tiles c.extent-extent.ensures.extent in omega (arith, f.0, c.requires.columns)

pub overflow_add-band-in-loop-band : goal.overflow_add-band-in-loop-band
overflow_add-band-in-loop-band c = let f = row_fits c.args.self.now.size c.extent-extent.result c.loop-band.band c.tiles_across-across.result c.args.high c.args.right c.tiles-tiles.result c.loop-band-test.true c.requires.down c.requires.across c.tiles_across-across.ensures.across c.tiles-tiles.ensures.tiles c.extent-extent.ensures.extent in omega (arith, f.0, c.requires.columns)

pub add_run-requires-clause-within : goal.add_run-requires-clause-within
add_run-requires-clause-within c = let f = row_fits c.args.self.now.size c.extent-extent.result c.loop-band.band c.tiles_across-across.result c.args.high c.args.right c.tiles-tiles.result c.loop-band-test.true c.requires.down c.requires.across c.tiles_across-across.ensures.across c.tiles-tiles.ensures.tiles c.extent-extent.ensures.extent in rw (c.loop-band.invariant.size) (omega (arith, f.0, f.1))

pub loop-band-preserved : goal.loop-band-preserved
loop-band-preserved c =
    let s = c.args.self.now.size in
    let i = c.loop-band.invariant in
    let a : c.tiles_across-across.result ≡ tiles_across s = c.tiles_across-across.ensures.across ∙ ap tiles_across c.extent-extent.ensures.extent in
    let size : IsSize s = subst (λ (z : Size). IsSize z) c.extent-extent.ensures.extent c.tiles_across-across.ensures.size in
    record {
      size = c.add_run.ensures.size ∙ i.size;
      rows = rows_more c.tiles_across-across.result c.args.low c.loop-band.band c.args.left c.args.right c.args.self.now.marks c.loop-band.self.marks c.add_run.new.self.marks (omega (arith, a, some_across s size)) (omega (arith, a, c.requires.across)) c.loop-band.auto.band i.rows c.add_run.ensures.run;
    }

pub returns-clause-rows : goal.returns-clause-rows
returns-clause-rows c =
    let s = c.args.self.now.size in
    let a : c.tiles_across-across.result ≡ tiles_across s = c.tiles_across-across.ensures.across ∙ ap tiles_across c.extent-extent.ensures.extent in
    let e : c.loop-band.band ≡ c.args.high = omega arith in
    subst (λ (k : ℕ). AreRowsAdded k c.args.low c.args.high c.args.left c.args.right c.args.self.now.marks c.loop-band.self.marks) a
    (subst (λ (k : ℕ). AreRowsAdded c.tiles_across-across.result c.args.low k c.args.left c.args.right c.args.self.now.marks c.loop-band.self.marks) e c.loop-band.invariant.rows)
