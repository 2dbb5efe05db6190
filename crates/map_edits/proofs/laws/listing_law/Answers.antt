use Rattle.map_edits.proofs.GroupsOnce.{are_listed, all_are_listed}
use Rattle.map_edits.proofs.laws.listing_law.Goals as goal

pub returns-clause-listed : goal.returns-clause-listed
returns-clause-listed c = are_listed

pub returns-clause-all : goal.returns-clause-all
returns-clause-all c = all_are_listed
