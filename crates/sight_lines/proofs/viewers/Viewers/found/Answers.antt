use Rattle.std.proofs.Common.{arith}
use Rattle.sight_lines.proofs.Keeping.{count_found, few_found}
use Rattle.sight_lines.proofs.viewers.Viewers.found.Goals as goal

pub returns-then-count-gt64-clause-answer : goal.returns-then-count-gt64-clause-answer
returns-then-count-gt64-clause-answer g c = (count_found c.args.of.now.size c.args.of.now.cells _ _ c.extent-extent.ensures.change.cells c.in-Ok.ensures.found, c.if-count-gt64.true)

pub returns-else-count-gt64-clause-answer : goal.returns-else-count-gt64-clause-answer
returns-else-count-gt64-clause-answer g c = few_found c.args.of.now.size c.args.of.now.cells _ _ c.extent-extent.ensures.change.cells (omega (arith, c.if-count-gt64.false)) c.in-Ok.ensures.found
