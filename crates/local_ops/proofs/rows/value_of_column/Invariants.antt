use Rattle.std.proofs.Common.{◌≡◌, Some, take, length, map}
use Rattle.map_defs.specs.Local.{all_numbers}
use Rattle.map_nums.specs.Grids.{cell_at}
use Rattle.local_ops.proofs.rows.value_of_column.Given as goal

abbrev pub invariant-loop-k : goal.invariant-loop-k
invariant-loop-k l = record {
  room : length l.values ≡ 8;
  numbers : all_numbers (map (λ row. cell_at row.now l.c) (take l.k l.rows)) ≡ Some (take l.k l.values);
}
