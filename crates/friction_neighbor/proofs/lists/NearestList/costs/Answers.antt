use Rattle.friction_neighbor.proofs.Results.{costs_in_range}
use Rattle.friction_spread.proofs.Showing.{shown_count}
use Rattle.friction_neighbor.proofs.lists.NearestList.costs.Goals as goal

pub patch_of-requires-clause-count : goal.patch_of-requires-clause-count
patch_of-requires-clause-count c = shown_count c.args.extent c.args.self.now.costs.limit c.args.self.now.costs.costs.items

pub patch_of-requires-clause-in_range : goal.patch_of-requires-clause-in_range
patch_of-requires-clause-in_range c = costs_in_range c.args.extent c.args.self.now.costs.limit c.args.self.now.costs.costs.items c.requires.limit
