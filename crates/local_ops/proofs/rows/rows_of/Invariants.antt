use Rattle.std.proofs.Common.{◌≡◌, map, take, length}
use Rattle.layer_tiles.specs.Tiles.{block_row}
use Rattle.local_ops.proofs.rows.rows_of.Given as goal

abbrev pub invariant-loop-k : goal.invariant-loop-k
invariant-loop-k l = record {
  room : length l.rows ≡ 8;
  rows : map (λ row. row.now) (take l.k l.rows) ≡ map (λ b. block_row b l.r) (take l.k l.views);
  widths : map (λ row. length row.now) (take l.k l.rows) ≡ map (λ b. b.width) (take l.k l.views);
}
