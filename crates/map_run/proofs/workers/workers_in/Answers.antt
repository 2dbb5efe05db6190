use Rattle.std.proofs.Common.{◌≡◌, true, bytes_eq, decimal, sym, ◌∙◌, arith}
use Rattle.std.proofs.lemmas.Slice.Eq.{bytes_eq-Decides}
use Rattle.map_machine.proofs.WorkersLemmas.{some_workers}
use Rattle.map_run.proofs.workers.workers_in.Goals as goal

pub returns-then-says : goal.returns-then-says
returns-then-says c =
    let n = c.loop-count.count in
    let says : bytes_eq c.args.word.now (decimal n) ≡ true = sym c.says.ensures ∙ c.if-says.true in
    (some_workers c.args.word.now n (omega (arith, c.loop-count.auto.count)) (omega (arith, c.loop-count-test.true)) says, (bytes_eq-Decides c.args.word.now (decimal n)).0 says)
