use Rattle.std.proofs.Common.{◌≡◌, ◌+◌, ◌≤◌, ◌++◌, take}
use Rattle.map_nums.specs.Grids.{numbers_in}
use Rattle.focal_ops.proofs.numbers.collect_piece.Given as goal

abbrev pub invariant-loop-cell : goal.invariant-loop-cell
invariant-loop-cell l = record {
  within : l.end ≤ l.count + l.cell-index;
  numbers : take l.end l.numbers ≡ take l.count l.initial.numbers ++ numbers_in (take l.cell-index l.piece);
}
