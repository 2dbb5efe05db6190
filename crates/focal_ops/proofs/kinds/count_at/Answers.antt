use Rattle.std.proofs.Common.{◌≡◌, ◌+◌, ◌<◌, ◌≤◌, ℤ, pos, length, get_or, set, take, sym, ◌∙◌, subst, rules, arith, FitsSigned, to_z, of_z}
use Rattle.std.proofs.lemmas.Int.{to_z-of_z}
use Rattle.std.proofs.lemmas.List.{length-take-le}
use Rattle.map_nums.specs.Widths.{value_width}
use Rattle.focal_ops.specs.Kinds.{AreKinds}
use Rattle.focal_ops.proofs.Counting.{occurrences_few, kinds_again, kinds_new}
use Rattle.focal_ops.proofs.kinds.count_at.Goals as goal

pub overflow_add-kinds : goal.overflow_add-kinds
overflow_add-kinds c =
    let xs = c.args.numbers.now in
    let i = c.args.i in
    let k = c.kind_of-k.result in
    let times = c.requires.kinds.counted k c.if-k-count.true in
    let most = occurrences_few (get_or c.args.kinds.now.values k (pos 0)) (take i xs) in
    let few : get_or c.args.kinds.now.counts k 0 ≤ 64 = omega (arith, times, most, length-take-le i xs (omega arith), c.requires.short, c.requires.here) in
    search rules

pub returns-then-k-count-clause-kinds : goal.returns-then-k-count-clause-kinds
returns-then-k-count-clause-kinds c =
    let xs = c.args.numbers.now in
    let k = c.kind_of-k.result in
    let fits : FitsSigned value_width (get_or xs c.args.i (pos 0)) = search rules in
    let same : to_z value_width (of_z value_width (get_or xs c.args.i (pos 0))) ≡ get_or xs c.args.i (pos 0) = to_z-of_z value_width (get_or xs c.args.i (pos 0)) fits in
    let room : k < length c.args.kinds.now.counts = search rules in
    kinds_again xs c.args.i c.requires.here c.args.kinds.now.values c.args.kinds.now.counts c.args.count c.requires.kinds k c.if-k-count.true room (c.kind_of-k.ensures.found c.if-k-count.true ∙ same)

pub returns-clause-kinds : goal.returns-clause-kinds
returns-clause-kinds c =
    let xs = c.args.numbers.now in
    let i = c.args.i in
    let values = c.args.kinds.now.values in
    let counts = c.args.kinds.now.counts in
    let n = c.args.count in
    let fits : FitsSigned value_width (get_or xs i (pos 0)) = search rules in
    let same : to_z value_width (of_z value_width (get_or xs i (pos 0))) ≡ get_or xs i (pos 0) = to_z-of_z value_width (get_or xs i (pos 0)) fits in
    let last : c.kind_of-k.result ≡ n = omega (arith, c.kind_of-k.ensures.within, c.if-k-count.false) in
    let absent = c.kind_of-k.ensures.absent last in
    let few : n < 64 = omega (arith, c.requires.kinds.few, c.requires.here, c.requires.short) in
    let room : n < length values = search rules in
    let wide : n < length counts = search rules in
    subst (λ (z : ℤ). AreKinds xs (i + 1) (set values n z) (set counts n 1) (n + 1)) (sym same)
    (kinds_new xs i c.requires.here values counts n c.requires.kinds (λ k l e. absent k l (e ∙ sym same)) room wide)
