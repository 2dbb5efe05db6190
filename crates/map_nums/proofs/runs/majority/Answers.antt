use Rattle.std.proofs.Common.{◌∙◌, sym}
use Rattle.map_nums.specs.declared.runs.Wanted.TheVariants.{Most}
use Rattle.map_nums.proofs.Reorders.{leader_of-permutation}
use Rattle.map_nums.proofs.runs.majority.Goals as goal

pub returns-clause-majority : goal.returns-clause-majority
returns-clause-majority c = c.leader.ensures ∙ sym (leader_of-permutation Most c.args.values.now _ c.sort_unstable.ensures.permutation)
