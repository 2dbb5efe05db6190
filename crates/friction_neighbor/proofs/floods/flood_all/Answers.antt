use Rattle.std.proofs.Common.{◌≡◌, ℕ, [], length, sym, subst, arith}
use Rattle.map_nums.specs.Grids.{cell_at}
use Rattle.map_defs.specs.Nearest.{IsNoGreater}
use Rattle.friction_neighbor.specs.declared.seeds.Seed.{Seed}
use Rattle.friction_neighbor.specs.Seeds.{IsSeed}
use Rattle.friction_neighbor.specs.Floods.{IsFlooding}
use Rattle.friction_neighbor.proofs.Flooding.{none_given}
use Rattle.friction_neighbor.proofs.Seeding.{AreFloodedTo, HaveValuesTo, flood_ready, flood_more, values_more, all_flooded}
use Rattle.friction_neighbor.proofs.floods.flood_all.Goals as goal

pub loop-seed-init : goal.loop-seed-init
loop-seed-init c = record {
  none = c.requires.none;
  flooded = λ y h. none_given c.args.field.now y c.args.values.now c.requires.count c.requires.begun;
  valued = λ m d l. absurd (omega (arith, l));
}

pub flood-requires-clause-seed : goal.flood-requires-clause-seed
flood-requires-clause-seed c =
    let P : Seed → Type 0 = IsSeed c.args.field.now in
    subst P (sym c.seed-item.is) (c.requires.seeds.those.each c.loop-seed.seed-index c.seed-item.result c.loop-seed-test.true)

pub flood-requires-clause-flooding : goal.flood-requires-clause-flooding
flood-requires-clause-flooding c =
    let f = c.args.field.now in
    let P : Seed → Type 0 = λ s. IsFlooding f s.number c.loop-seed.values [] in
    subst P (sym c.seed-item.is) (flood_ready f c.args.seeds.now c.requires.seeds c.loop-seed.values c.loop-seed.seed-index c.seed-item.result c.loop-seed-test.true c.loop-seed.invariant.flooded)

pub loop-seed-preserved : goal.loop-seed-preserved
loop-seed-preserved c =
    let f = c.args.field.now in
    let seeds = c.args.seeds.now in
    let k = c.loop-seed.seed-index in
    let item = c.seed-item.result in
    let new = c.flood.new.values in
    let ok = c.in_ok-flood.ensures in
    let P : Seed → Type 0 = λ s. IsFlooding f s.number new [] in
    let Q : Seed → Type 0 = λ s. IsNoGreater (cell_at new s.at) s.number in
    record {
      none = ok.none;
      flooded = flood_more f seeds c.requires.seeds new k item (subst P c.seed-item.is ok.flooding);
      valued = values_more f seeds c.requires.seeds c.loop-seed.values new k item c.loop-seed-test.true ok.grows (subst Q c.seed-item.is ok.has) c.loop-seed.invariant.valued;
    }

pub returns : goal.returns
returns c =
    let f = c.args.field.now in
    let seeds = c.args.seeds.now in
    let e : c.loop-seed.seed-index ≡ length seeds = omega (arith, c.loop-seed-test.false, c.loop-seed.auto.seed-index-end) in
    let P : ℕ → Type 0 = AreFloodedTo f seeds c.loop-seed.values in
    let Q : ℕ → Type 0 = HaveValuesTo seeds c.loop-seed.values in
    all_flooded f seeds c.requires.seeds c.extent-extent.ensures.field c.loop-seed.values (subst P e c.loop-seed.invariant.flooded) (subst Q e c.loop-seed.invariant.valued)
