use Rattle.std.proofs.Common.{◌≡◌, ℕ, length, refl, ap, subst, ◌∙◌, arith}
use Rattle.layer_tiles.specs.Tiles.{tiles_in}
use Rattle.damage_sets.specs.Sets.{TileSetState}
use Rattle.damage_sets.specs.Added.{IsRunAdded}
use Rattle.damage_sets.proofs.Bands.{run_none, run_more}
use Rattle.damage_sets.proofs.sets.TileSet.add_run.Goals as goal

pub loop-tile-init : goal.loop-tile-init
loop-tile-init c = record { size = refl; run = run_none c.args.first c.args.self.now.marks }

pub add-requires : goal.add-requires
add-requires c = rw (c.loop-tile.invariant.size) (omega (arith, c.loop-tile-test.true, c.requires.within))

pub loop-tile-preserved : goal.loop-tile-preserved
loop-tile-preserved c =
    let i = c.loop-tile.invariant in
    let n : length c.loop-tile.self.marks ≡ tiles_in c.args.self.now.size = i.run.count ∙ c.extent-extent.ensures.set.count in
    record {
      size = ap (λ (d : TileSetState). d.size) c.add.ensures ∙ i.size;
      run = run_more c.args.first c.loop-tile.tile c.args.self.now.marks c.loop-tile.self.marks c.add.new.self.marks i.run c.loop-tile.auto.tile (omega (arith, n, c.loop-tile-test.true, c.requires.within)) (ap (λ (d : TileSetState). d.marks) c.add.ensures);
    }

pub returns-clause-run : goal.returns-clause-run
returns-clause-run c =
    let e : c.loop-tile.tile ≡ c.args.end = omega arith in
    subst (λ (k : ℕ). IsRunAdded c.args.first k c.args.self.now.marks c.loop-tile.self.marks) e c.loop-tile.invariant.run
