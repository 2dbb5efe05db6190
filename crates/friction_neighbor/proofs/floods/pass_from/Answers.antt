use Rattle.std.proofs.Common.{ℕ, ◌∷◌, sym, ◌∙◌, ap, subst}
use Rattle.map_defs.specs.Spread.{friction_at}
use Rattle.friction_neighbor.specs.Fields.{cost_at}
use Rattle.friction_neighbor.specs.Floods.{IsFlooding}
use Rattle.friction_neighbor.proofs.Flooding.{done_with}
use Rattle.friction_neighbor.proofs.floods.pass_from.Goals as goal

pub pass_round-requires-clause-front : goal.pass_round-requires-clause-front
pass_round-requires-clause-front c =
    let f = c.args.field.now in
    record {
      spot = c.spot.ensures.spot;
      cost = c.cost.ensures.value ∙ ap (cost_at f) (sym c.spot.ensures.at);
      friction = c.friction.ensures.value ∙ ap (friction_at f.ground.friction) (sym c.spot.ensures.at);
      low_cost = c.cost.ensures.low;
      low_friction = c.friction.ensures.low;
    }

pub pass_round-requires-clause-flooding : goal.pass_round-requires-clause-flooding
pass_round-requires-clause-flooding c =
    let P : ℕ → Type 0 = λ i. IsFlooding c.args.field.now c.args.seed.now.number c.args.values.now (i ∷ c.args.found.now.items) in
    subst P (sym c.spot.ensures.at) c.requires.flooding

pub returns-clause-flooding : goal.returns-clause-flooding
returns-clause-flooding c =
    let ok = c.in_ok-pass_round.ensures in
    done_with c.args.field.now c.args.seed.now.number c.pass_round.new.values c.spot.result.at c.pass_round.new.found.items ok.told ok.flooding
