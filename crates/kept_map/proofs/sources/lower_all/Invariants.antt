use Rattle.std.proofs.Common.{◌≡◌, ◌++◌, map, take, drop}
use Rattle.kept_map.specs.Lowering.{lowered}
use Rattle.kept_map.proofs.sources.lower_all.Given as goal

abbrev pub invariant-loop-operand : goal.invariant-loop-operand
invariant-loop-operand l = l.operands ≡ map (lowered l.fn.place) (take l.operand-index l.fn.operands) ++ drop l.operand-index l.fn.operands
