use Rattle.std.proofs.Common.{sym, ◌∙◌, length, arith}
use Rattle.std.proofs.lemmas.Bool.{eqb-false}
use Rattle.map_run.proofs.KeptLemmas.{returned}
use Rattle.map_run.proofs.piece.ends_with_return.Goals as goal

pub returns-clause-end : goal.returns-clause-end
returns-clause-end c = returned c.args.bytes.now (omega (arith, eqb-false (length c.args.bytes.now) 0 (sym c.is_empty.ensures ∙ c.if-is_empty.false)))
