use Rattle.std.proofs.Common.{◌≡◌, ◌≤◌, take, map, length}
use Rattle.map_nums.specs.Grids.{cell_at, numbers_in}
use Rattle.local_ops.proofs.rows.statistic_of_column.Given as goal

abbrev pub invariant-loop-row : goal.invariant-loop-row
invariant-loop-row l = record {
  room : length l.values ≡ 8;
  within : l.count ≤ l.row-index;
  numbers : take l.count l.values ≡ numbers_in (map (λ row. cell_at row.now l.c) (take l.row-index l.rows));
}
