use Rattle.cell_kinds.specs.Counted.{combination_from, same_pair}
use Rattle.cell_kinds.proofs.Runs.{IsGathered}
use Rattle.cell_kinds.proofs.combinations.runs.Given as goal

abbrev pub invariant-loop-i : goal.invariant-loop-i
invariant-loop-i l = IsGathered same_pair combination_from l.pairs l.combinations.items l.count l.i
