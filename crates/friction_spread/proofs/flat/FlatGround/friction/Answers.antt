use Rattle.std.proofs.Common.{◌<◌, None, length, ◌∙◌, ap, arith}
use Rattle.std.proofs.lemmas.List.{get_or_default}
use Rattle.map_nums.specs.Grids.{cells_in}
use Rattle.map_defs.specs.Spread.{friction_of, friction_at}
use Rattle.friction_spread.specs.Costs.{GroundState}
use Rattle.friction_spread.proofs.flat.FlatGround.friction.Goals as goal

pub returns-clause-value : goal.returns-clause-value
returns-clause-value c =
    let cells = c.self.inside.friction.now in
    let within : c.args.at < length cells = omega (arith, c.requires, c.self.invariant.1, ap (λ (g : GroundState). cells_in g.size) c.self.view_is) in
    c.friction_of.ensures.value ∙ ap friction_of (get_or_default cells c.args.at c.index-self-at.result None within) ∙ ap (λ (g : GroundState). friction_at g.friction c.args.at) c.self.view_is
