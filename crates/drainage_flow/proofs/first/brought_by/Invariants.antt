use Rattle.drainage_flow.specs.First.{AreBrought}
use Rattle.drainage_flow.proofs.first.brought_by.Given as goal

abbrev pub invariant-loop-at : goal.invariant-loop-at
invariant-loop-at l = AreBrought l.surface l.weights l.at l.amounts.items
