use Rattle.std.proofs.Common.{◌≡◌, sym, ◌∙◌, arith, ap, pos, ℤ, ◌+ℤ◌, get_or, take, rules, FitsSigned, to_z}
use Rattle.std.proofs.lemmas.Int.{ints}
use mir.Syntax.{w128}
use Rattle.map_nums.specs.Widths.{value_width}
use Rattle.map_nums.specs.Stats.{total_of}
use Rattle.layer_tiles.specs.PlaceByPlace.{cell_in}
use Rattle.sight_lines.specs.Puts.{sighting_of}
use Rattle.sight_lines.specs.SightTiles.{is_seen}
use Rattle.sight_lines.specs.Viewed.{values_where, has_some}
use Rattle.sight_lines.proofs.Summing.{values_with, values_without, total_with, some_with, seen_none, seen_some}
use Rattle.sight_lines.proofs.tiles.SightTile.seen_value.Goals as goal
use Rattle.sight_lines.proofs.tiles.SightTile.seen_value.Goals.{then-near_views, else-near_views}

pub loop-k-preserved : goal.loop-k-preserved
loop-k-preserved c = elim c.if-near_views.branch [
  | then-near_views w ↦
      let p = is_seen c.args.self.now c.args.r c.args.c in
      let xs = c.args.self.now.viewers.now in
      let k = c.loop-k.k in
      let f : FitsSigned value_width (get_or xs k (0, pos 0)).1 = search rules in
      let more = values_with p xs k (0, pos 0) c.loop-k-test.true (sym c.near_views.ensures ∙ w.if-near_views.true) in
      let new : to_z w128 c.if-near_views.sum-bits ≡ to_z w128 c.loop-k.sum-bits +ℤ (get_or xs k (0, pos 0)).1 = omega (arith, ints, w.sum-is) in
      record {
        sum = new ∙ ap (λ (z : ℤ). z +ℤ (get_or xs k (0, pos 0)).1) c.loop-k.invariant.sum ∙ sym (total_with (values_where p (take k xs)) (get_or xs k (0, pos 0)).1) ∙ ap total_of (sym more);
        some = w.some-is ∙ sym (ap has_some more ∙ some_with (values_where p (take k xs)) (get_or xs k (0, pos 0)).1);
        low = omega (arith, ints, w.sum-is);
        high = omega (arith, ints, w.sum-is);
      }
  | else-near_views w ↦
      let p = is_seen c.args.self.now c.args.r c.args.c in
      let xs = c.args.self.now.viewers.now in
      let k = c.loop-k.k in
      let same = values_without p xs k (0, pos 0) c.loop-k-test.true (sym c.near_views.ensures ∙ w.if-near_views.false) in
      record {
        sum = w.sum-is ∙ c.loop-k.invariant.sum ∙ ap total_of (sym same);
        some = w.some-is ∙ c.loop-k.invariant.some ∙ ap has_some (sym same);
        low = omega (arith, ints, w.sum-is);
        high = omega (arith, ints, w.sum-is);
      }
]

pub returns-then-some : goal.returns-then-some
returns-then-some c =
    seen_some (sighting_of c.args.self.now.sight) c.args.self.now.surface.now.size c.args.self.now.surface.now.cells c.args.self.now.viewers.now (cell_in c.args.self.now.surface.now.size c.args.self.now.tile c.args.r c.args.c) c.loop-k.k (to_z w128 c.loop-k.sum-bits) c.exact.result (omega (arith, c.loop-k-test.false)) c.loop-k.invariant.sum (sym c.loop-k.invariant.some ∙ c.if-some.true) c.exact.ensures

pub returns-else-some : goal.returns-else-some
returns-else-some c =
    seen_none (sighting_of c.args.self.now.sight) c.args.self.now.surface.now.size c.args.self.now.surface.now.cells c.args.self.now.viewers.now (cell_in c.args.self.now.surface.now.size c.args.self.now.tile c.args.r c.args.c) c.loop-k.k (omega (arith, c.loop-k-test.false)) (sym c.loop-k.invariant.some ∙ c.if-some.false)
