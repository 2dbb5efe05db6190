use Rattle.friction_neighbor.proofs.Results.{shown_count, shown_in_range}
use Rattle.friction_neighbor.proofs.lists.NearestList.values.Goals as goal

pub patch_of-requires-clause-count : goal.patch_of-requires-clause-count
patch_of-requires-clause-count c = shown_count c.args.extent c.args.self.now.values.items

pub patch_of-requires-clause-in_range : goal.patch_of-requires-clause-in_range
patch_of-requires-clause-in_range c = shown_in_range c.args.extent c.args.self.now.values.items c.requires.cells
