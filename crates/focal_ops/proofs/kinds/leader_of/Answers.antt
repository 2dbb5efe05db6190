use Rattle.std.proofs.Common.{◌≡◌, ℕ, ◌%◌, ◌<◌, ℤ, pos, ◌-ℤ◌, Option, Some, subst, arith, to_z, of_z}
use Rattle.std.specs.Int.{w128}
use Rattle.std.proofs.lemmas.Int.{ints}
use Rattle.map_nums.proofs.Answering.{empty_answer}
use Rattle.map_nums.specs.Exact.{IsExact}
use Rattle.focal_ops.specs.Kinds.{by_counts}
use Rattle.focal_ops.proofs.Counting.{none_left, counts_few, leader_is}
use Rattle.focal_ops.proofs.kinds.leader_of.Goals as goal

plain : (q : ℕ) → q < 18446744073709551616 → to_z w128 (of_z w128 (to_z w128 q -ℤ pos 9223372036854775808)) ≡ pos q -ℤ pos 9223372036854775808
plain q l = omega (arith, ints)

pub returns-then-count-eq0 : goal.returns-then-count-eq0
returns-then-count-eq0 c =
    let kinds = c.count_kinds-count.new.kinds in
    empty_answer (by_counts c.args.least) c.args.numbers.now (none_left c.args.numbers.now kinds.values kinds.counts c.count_kinds-count.result c.count_kinds-count.ensures c.if-count-eq0.true)

pub least_key-key-requires-clause-counts : goal.least_key-key-requires-clause-counts
least_key-key-requires-clause-counts c =
    let kinds = c.count_kinds-count.new.kinds in
    counts_few c.args.numbers.now kinds.values kinds.counts c.count_kinds-count.result c.count_kinds-count.ensures c.requires

pub returns : goal.returns
returns c =
    let kinds = c.count_kinds-count.new.kinds in
    let key = c.least_key-key in
    let r = key.ensures.reached in
    subst (λ (s : Option ℤ). IsExact s c.exact.result)
    (leader_is c.args.numbers.now kinds.values kinds.counts c.count_kinds-count.result c.count_kinds-count.ensures c.args.least key.result c.requires key.ensures.first r.0 r.1 r.2)
    (subst (λ z. IsExact (Some z) c.exact.result) (plain (key.result % 18446744073709551616) (omega arith)) c.exact.ensures)
