use Rattle.std.proofs.Common.{◌∙◌}
use Rattle.std.specs.Ordering.{int_cmp, max_by_ordering}
use Rattle.std.proofs.lemmas.Iterator.{YieldsList-from_slice}
use Rattle.std.proofs.lemmas.Iterator.Consumers.{reduce_from_yields_List, YieldsList-from_copied}
use Rattle.map_nums.proofs.Extremes.{maximum_from_reduce}
use Rattle.map_nums.proofs.ranks.maximum.Goals as goal

pub returns : goal.returns
returns c =
    reduce_from_yields_List (λ x y. max_by_ordering (int_cmp x y) x y) _ c.max.result c.max.ensures.ran (YieldsList-from_copied (YieldsList-from_slice c.args.values.now cc))
    ∙ maximum_from_reduce c.args.values.now
