use Rattle.std.proofs.Common.{drop}
use Rattle.cell_kinds.proofs.Joined.{IsJoined}
use Rattle.cell_kinds.proofs.kinds.joined.Given as goal

abbrev pub invariant-loop-run : goal.invariant-loop-run
invariant-loop-run l = IsJoined l.runs l.kinds.items l.kind (drop l.run-index l.rest)
