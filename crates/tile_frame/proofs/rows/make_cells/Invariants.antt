use Rattle.std.proofs.Common.{◌≡◌, length}
use Rattle.tile_frame.proofs.Framing.{AreMadeTo}
use Rattle.tile_frame.proofs.rows.make_cells.Given as goal

abbrev pub invariant-loop-c : goal.invariant-loop-c
invariant-loop-c g l = record {
  room : length l.cells ≡ 32;
  made : AreMadeTo (g.R.RowMaker.value l.row) l.width l.c l.end l.cells;
}
