use Rattle.std.proofs.Common.{◌≡◌, [], ◌∷◌, Some, sym, ◌∙◌, ap, subst, rules, FitsSigned}
use Rattle.std.proofs.lemmas.Int.{to_z-of_z}
use Rattle.map_nums.specs.Widths.{value_width}
use Rattle.map_nums.specs.Exact.{IsExact}
use Rattle.map_nums.specs.Stats.{minimum_of}
use Rattle.local_ops.proofs.Twos.{is_least}
use Rattle.local_ops.proofs.pairs.statistic_of_two.Goals as goal

pub returns-in-Minimum : goal.returns-in-Minimum
returns-in-Minimum c =
    let left = c.args.left in
    let right = c.args.right in
    let lesser = c.lesser.result in
    let fits : FitsSigned value_width lesser = search rules in
    let least : minimum_of (left ∷ right ∷ []) ≡ Some lesser = rw (to_z-of_z value_width left c.ranges.left, to_z-of_z value_width right c.ranges.right) at c.lesser.ensures in
    subst (λ s. IsExact s c.kept-in-Minimum.result) (ap Some (to_z-of_z value_width lesser fits) ∙ sym least ∙ sym (is_least c.args.stat left right c.in-Minimum.is)) c.kept-in-Minimum.ensures
