use Rattle.std.proofs.Common.{not, refl, arith}
use Rattle.std.proofs.lemmas.List.Filters.{length-filter_both}
use Rattle.layer_tiles.specs.Narrowed.{is_other_tile}
use Rattle.layer_tiles.proofs.Narrowing.{IsPatch-filter}
use Rattle.layer_tiles.proofs.patches.Patch.narrow.Goals as goal

pub invariant_of-self : goal.invariant_of-self
invariant_of-self g c =
    let i = c.self.inside in
    let q = is_other_tile c.args.layer.now.size c.args.layer.now.cells in
    rw (c.narrow_tiles.ensures.tiles)
    (IsPatch-filter q i.extent i.tiles.items c.self.invariant.0, λ l. c.self.invariant.1 (omega (arith, l, length-filter_both q (λ e. not (q e)) (λ e. refl) i.tiles.items)))
