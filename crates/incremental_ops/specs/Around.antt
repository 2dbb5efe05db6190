-- The cells round a place of three rows.
use Rattle.std.specs.Prelude.{ℕ, ◌+◌}
use Rattle.map_nums.specs.Grids.{Cells, cell_at}
use Rattle.incremental_ops.specs.declared.rings.Ring.{Ring}

-- the neighbours of the cell in column c + 1 of the middle row
unfoldable pub ring_in : Cells → Cells → Cells → ℕ → Ring
ring_in above here below c = record {
  n = cell_at above (c + 1);
  ne = cell_at above (c + 2);
  e = cell_at here (c + 2);
  se = cell_at below (c + 2);
  s = cell_at below (c + 1);
  sw = cell_at below c;
  w = cell_at here c;
  nw = cell_at above c;
}
