use Rattle.std.proofs.Common.{◌≡◌, ◌+◌, ◌-◌, ℕ, length, ◌∙◌, ap, subst, arith, rules}
use mir.Val.{SFits}
use Rattle.std.specs.Prelude.{nat_abs}
use Rattle.std.proofs.lemmas.Int.{to_z-of_z}
use Rattle.map_nums.specs.Grids.{cells_in}
use Rattle.map_nums.specs.Widths.{value_width}
use Rattle.map_defs.specs.Nets.{IsLeastIn}
use Rattle.friction_spread.specs.Bands.{ground_of, band_of}
use Rattle.friction_spread.specs.Costs.{GroundState, net_of}
use Rattle.friction_spread.specs.Flat.{costs_of}
use Rattle.friction_spread.proofs.bands.costs_of_band.Goals as goal

pub returns : goal.returns
returns c =
    let fits : SFits value_width c.args.limit = search rules in
    let from = c.args.first - c.rows_above-above.result in
    let until = c.args.end + c.rows_below-below.result in
    let costs = c.in_ok-costs.costs.items in
    let whole = c.new-whole.ensures ∙ ap (ground_of c.args.extent c.args.sources.now c.args.friction.now) (c.limit_of.ensures.value ∙ ap nat_abs (to_z-of_z value_width c.args.limit fits)) in
    let band = c.band.ensures ∙ ap (λ (g : GroundState). band_of g from until) whole in
    let P : GroundState → Type 0 = λ g. length costs ≡ cells_in g.size in
    let Q : GroundState → Type 0 = λ g. (i : ℕ) → IsLeastIn (net_of g) i (costs_of g costs i) in
    record {
      some = c.requires.rows.0;
      rows = omega (arith, c.requires.rows.0);
      from = from;
      until = until;
      above = omega (arith, c.rows_above-above.ensures);
      below = omega arith;
      within = omega (arith, c.rows_below-below.ensures, ap (λ (g : GroundState). g.size.rows) whole);
      count = subst P band c.in_ok-costs.ensures.count;
      least = subst Q band c.in_ok-costs.ensures.least;
    }
