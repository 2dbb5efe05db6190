use Rattle.std.proofs.Common.{sym, ◌∙◌, ap, arith}
use Rattle.map_defs.specs.Spread.{friction_at}
use Rattle.friction_neighbor.specs.Fields.{cost_at}
use Rattle.friction_neighbor.proofs.Places.{least}
use Rattle.friction_neighbor.proofs.views.FieldView.front.Goals as goal

pub returns-clause-front : goal.returns-clause-front
returns-clause-front g c =
    let f = c.args.self.now.field in
    let field = c.extent-extent.ensures.field in
    record {
      spot = c.spot-spot.ensures.spot;
      cost = c.requires.cost ∙ ap (cost_at f) (sym c.spot-spot.ensures.at);
      friction = c.friction-friction.ensures.value ∙ ap (friction_at f.ground.friction) (sym c.spot-spot.ensures.at);
      low_cost = omega (arith, c.requires.cost, (least f field c.args.at).capped, field.limit);
      low_friction = c.friction-friction.ensures.low;
    }
