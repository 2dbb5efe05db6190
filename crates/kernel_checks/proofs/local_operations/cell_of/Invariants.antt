use Rattle.std.proofs.Common.{◌≡◌, length}
use Rattle.std.specs.List.{All}
use Rattle.kernel_checks.proofs.local_operations.cell_of.Given as goal

abbrev pub invariant-loop-value : goal.invariant-loop-value
invariant-loop-value l = record {
  count : length l.operands ≡ l.value-index;
  sizes : All (λ c. c.size ≡ l.extent) l.operands;
}
