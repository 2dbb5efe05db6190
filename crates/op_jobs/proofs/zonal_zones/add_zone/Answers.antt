use Rattle.std.proofs.Common.{◌<◌, ◌∙◌, refl, ap, subst, arith, length, ℤ}
use Rattle.std.proofs.lemmas.Int.{to_z-of_z}
use Rattle.map_nums.specs.Widths.{value_width}
use Rattle.map_nums.specs.Grids.{IsSize}
use Rattle.layer_tiles.specs.Tiles.{tiles_in}
use Rattle.damage_sets.specs.Sets.{TileSetState}
use Rattle.zonal_totals.specs.Tilings.{HasZone}
use Rattle.op_jobs.specs.Zonal.{AreMarked}
use Rattle.op_jobs.specs.ZonalZones.{IsAmongFirst}
use Rattle.op_jobs.proofs.ZonalMarks.{marked_none, tiles_told, told_within, first_more, first_all}
use Rattle.op_jobs.proofs.zonal_zones.add_zone.Goals as goal

pub loop-tile-init : goal.loop-tile-init
loop-tile-init c = record {
  size = refl;
  marks = λ values zones list is a. marked_none c.args.book.now.size (IsAmongFirst list 0) c.args.set.now.marks (λ t h. omega (arith, h.1));
}

pub add-requires : goal.add-requires
add-requires c =
    let b = c.requires.counts in
    let w = told_within (subst IsSize (c.extent-extent.ensures.extent ∙ c.requires.set_size) c.tiles-tiles.ensures.size) (c.in-Some.ensures b.values b.zones b.is) in
    omega (arith, w.0, ap tiles_in (c.loop-tile.invariant.size ∙ c.requires.set_size))

pub overflow_add-k : goal.overflow_add-k
overflow_add-k c =
    let b = c.requires.counts in
    let w = told_within (subst IsSize (c.extent-extent.ensures.extent ∙ c.requires.set_size) c.tiles-tiles.ensures.size) (c.in-Some.ensures b.values b.zones b.is) in
    omega (arith, w.0, w.1, c.tiles-tiles.ensures.tiles, ap tiles_in (c.extent-extent.ensures.extent ∙ c.requires.set_size))

pub loop-tile-preserved : goal.loop-tile-preserved
loop-tile-preserved c =
    let inv = c.loop-tile.invariant in
    record {
      size = ap (λ (d : TileSetState). d.size) c.add.ensures ∙ inv.size;
      marks = λ values zones list is a.
          let i = c.in-Some.ensures values zones is in
          let m = inv.marks values zones list is a in
          let w = told_within (subst IsSize (c.extent-extent.ensures.extent ∙ c.requires.set_size) c.tiles-tiles.ensures.size) i in
          let within : c.in-Some.tile < length c.loop-tile.set.marks = omega (arith, w.0, m.count, c.extent-extent.ensures.set.count, ap tiles_in c.requires.set_size) in
          first_more a i m within (ap (λ (d : TileSetState). d.marks) c.add.ensures);
    }

pub returns-clause-marks : goal.returns-clause-marks
returns-clause-marks c = λ values zones is.
    let i = c.in_default.ensures values zones is in
    let a = tiles_told i in
    let s = c.args.book.now.size in
    subst (λ (z : ℤ). AreMarked s (HasZone s zones z) c.args.set.now.marks c.loop-tile.set.marks) (to_z-of_z value_width c.args.zone c.ranges.zone) (first_all a i (c.loop-tile.invariant.marks values zones i.tiles is a))
