use Rattle.std.proofs.Common.{◌≡◌, true, bytes_eq, decimal, sym, ◌∙◌, arith}
use Rattle.map_run.proofs.SizeLemmas.{no_size, some_size}
use Rattle.map_run.proofs.workers.side_in.Goals as goal

pub returns-then-says : goal.returns-then-says
returns-then-says c =
    let n = c.loop-count.count in
    let says : bytes_eq c.args.word.now (decimal n) ≡ true = sym c.says.ensures ∙ c.if-says.true in
    sym (some_size c.args.word.now n (omega (arith, c.loop-count.auto.count)) (omega (arith, c.loop-count-test.true)) c.loop-count.invariant says)

pub returns : goal.returns
returns c = sym (no_size c.args.word.now (λ k some few. c.loop-count.invariant k some (omega (arith, few, c.loop-count-test.false))))
