use Rattle.friction_spread.proofs.Showing.{shown_answer}
use Rattle.friction_spread.proofs.shows.cost_tile.Goals as goal

pub returns : goal.returns
returns c = shown_answer c.args.extent c.args.limit c.args.costs.now c.args.tile c.make_tile.result c.rows-rows.ensures.size c.requires.within c.make_tile.ensures
