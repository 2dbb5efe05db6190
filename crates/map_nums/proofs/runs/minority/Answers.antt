use Rattle.std.proofs.Common.{◌∙◌, sym}
use Rattle.map_nums.specs.declared.runs.Wanted.TheVariants.{Least}
use Rattle.map_nums.proofs.Reorders.{leader_of-permutation}
use Rattle.map_nums.proofs.runs.minority.Goals as goal

pub returns-clause-minority : goal.returns-clause-minority
returns-clause-minority c = c.leader.ensures ∙ sym (leader_of-permutation Least c.args.values.now _ c.sort_unstable.ensures.permutation)
