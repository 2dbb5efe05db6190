use Rattle.std.proofs.Common.{◌∙◌, sym}
use Rattle.map_nums.proofs.Varieties.{variety_of-permutation}
use Rattle.map_nums.proofs.runs.variety.Goals as goal

pub returns-clause-variety : goal.returns-clause-variety
returns-clause-variety c = c.run_count.ensures ∙ sym (variety_of-permutation c.args.values.now _ c.sort_unstable.ensures.permutation)
