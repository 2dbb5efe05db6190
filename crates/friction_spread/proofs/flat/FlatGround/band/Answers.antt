use Rattle.std.proofs.Common.{◌≡◌, ◌-◌, ◌*◌, ◌≤◌, sym, ◌∙◌, ap, arith}
use Rattle.map_nums.specs.Grids.{cells_in}
use Rattle.friction_spread.specs.Costs.{GroundState}
use Rattle.friction_spread.specs.Bands.{band_of}
use Rattle.friction_spread.proofs.Banding.{band_same, cut_length}
use Rattle.friction_spread.proofs.flat.FlatGround.band.Goals as goal

pub invariant_of-result : goal.invariant_of-result
invariant_of-result c =
    let i = c.self.inside in
    let n = c.columns-columns.result in
    let size : cells_in i.extent ≡ i.extent.rows * n = ap (λ w. i.extent.rows * w) (sym c.columns-columns.ensures.columns) in
    let made : (c.args.end - c.args.first) * n ≡ cells_in c.in-Some.extent = ap cells_in (sym c.in-Some.ensures.size) in
    let low : c.args.end ≤ i.extent.rows = omega (arith, c.requires.within, ap (λ (g : GroundState). g.size.rows) c.self.view_is) in
    (cut_length i.sources.now c.args.first c.args.end n i.extent.rows (c.self.invariant.0 ∙ size) c.requires.some low ∙ made, cut_length i.friction.now c.args.first c.args.end n i.extent.rows (c.self.invariant.1 ∙ size) c.requires.some low ∙ made, c.self.invariant.2)

pub returns : goal.returns
returns c =
    let i = c.self.inside in
    let g : GroundState = record { size = i.extent; sources = i.sources.now; friction = i.friction.now; limit = i.limit } in
    band_same g c.args.first c.args.end c.columns-columns.result c.in-Some.extent c.columns-columns.ensures.columns c.in-Some.ensures.size c.requires.some ∙ ap (λ (x : GroundState). band_of x c.args.first c.args.end) c.self.view_is
