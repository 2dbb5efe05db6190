use Rattle.std.proofs.Common.{Some, subst, rules, ap, ◌∙◌, FitsSigned}
use Rattle.std.specs.Int.{w128}
use Rattle.std.proofs.lemmas.Int.{to_z-of_z}
use Rattle.map_nums.specs.Numbers.{IsFloor}
use Rattle.map_nums.specs.Exact.{IsExact}
use Rattle.local_ops.proofs.Numbers.{ratio_is, widened_far}
use Rattle.local_ops.proofs.values.ratio.Goals as goal

pub returns-in-Some : goal.returns-in-Some
returns-in-Some c =
    let q = c.in-Some.quotient in
    let fits : FitsSigned w128 q = search rules in
    let floor : IsFloor c.args.left c.args.right q = rw (widened_far c.args.left c.ranges.left, widened_far c.args.right c.ranges.right) at c.in-Some.ensures.floor in
    subst (λ s. IsExact s c.exact.result) (ap Some (to_z-of_z w128 q fits) ∙ ratio_is c.args.left c.args.right q floor) c.exact.ensures
