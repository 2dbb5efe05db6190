use Rattle.std.proofs.Common.{length, sym, ◌∙◌}
use Rattle.std.proofs.lemmas.Bool.{eqb-true}
use Rattle.map_nums.proofs.Answering.{empty_answer}
use Rattle.map_nums.proofs.statistics.statistic_in.Goals as goal

pub returns-then-is_empty-clause-statistic : goal.returns-then-is_empty-clause-statistic
returns-then-is_empty-clause-statistic c = empty_answer c.args.stat c.args.values.now (eqb-true (length c.args.values.now) 0 (sym c.is_empty.ensures ∙ c.if-is_empty.true))
