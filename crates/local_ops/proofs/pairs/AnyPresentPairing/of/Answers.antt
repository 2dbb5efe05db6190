use Rattle.std.proofs.Common.{sym, ◌∙◌}
use Rattle.local_ops.proofs.Ones.{no_numbers}
use Rattle.local_ops.proofs.pairs.AnyPresentPairing.of.Goals as goal

pub returns-in-None-None : goal.returns-in-None-None
returns-in-None-None g c =
    no_numbers (g.P.StatOfTwo.stat c.args.self.now.statistic) c.args.left c.args.right (sym c.get.ensures.value ∙ c.in-None-None.is-0) (sym c.get-2.ensures.value ∙ c.in-None-None.is-1)
