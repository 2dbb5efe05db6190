use Rattle.std.proofs.Common.{◌+◌, ◌++◌, ◌∷◌, [], ap, ◌∙◌}
use Rattle.std.proofs.lemmas.List.{get_or_read}
use Rattle.std.proofs.lemmas.Bool.{iff_false}
use Rattle.cell_kinds.specs.declared.combinations.Pair.{Pair}
use Rattle.cell_kinds.specs.Counted.{combination_from, same_pair}
use Rattle.cell_kinds.proofs.PairRuns.{pair_itself, pair_is, no_pair}
use Rattle.cell_kinds.proofs.Runs.{gathered_same, gathered_last}
use Rattle.cell_kinds.proofs.combinations.runs.Goals as goal
use Rattle.cell_kinds.proofs.combinations.runs.Goals.{then-not-goes_on+in_ok-push, else-not-goes_on}

pub loop-i-preserved : goal.loop-i-preserved
loop-i-preserved c =
    let pairs = c.args.pairs.now in
    let i = c.loop-i.i in
    elim c.if-not-goes_on.branch [
      | then-not-goes_on+in_ok-push w ↦
          rw (w.combinations-is, w.count-is)
          (gathered_last same_pair combination_from pair_itself pair_is pairs i no_pair c.loop-i-test.true c.loop-i.combinations.items w.push.new.self.items c.loop-i.count (iff_false (c.goes_on.ensures no_pair) w.if-not-goes_on.true)
          (w.in_ok-push.ensures.items ∙ ap (λ (p : Pair). c.loop-i.combinations.items ++ combination_from (p, c.loop-i.count + 1) ∷ []) (get_or_read pairs i c.index-pairs-i.result c.loop-i-test.true c.index-pairs-i.is no_pair))
          c.loop-i.invariant)
      | else-not-goes_on w ↦
          rw (w.combinations-is, w.count-is)
          (gathered_same same_pair combination_from pair_itself pair_is pairs i no_pair c.loop-i-test.true c.loop-i.combinations.items c.loop-i.count ((c.goes_on.ensures no_pair).0 w.if-not-goes_on.false) c.loop-i.invariant)
    ]
