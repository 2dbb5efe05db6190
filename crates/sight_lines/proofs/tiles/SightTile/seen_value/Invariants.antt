use Rattle.std.proofs.Common.{◌≡◌, ◌*◌, take, pos, neg_ℤ, ◌≤ℤ◌}
use Rattle.map_nums.specs.Stats.{total_of}
use Rattle.sight_lines.specs.SightTiles.{is_seen}
use Rattle.sight_lines.specs.Viewed.{values_where, has_some}
use Rattle.sight_lines.proofs.tiles.SightTile.seen_value.Given as goal

abbrev pub invariant-loop-k : goal.invariant-loop-k
invariant-loop-k l = record {
  sum : l.sum ≡ total_of (values_where (is_seen l.self l.r l.c) (take l.k l.self.viewers.now));
  some : l.some ≡ has_some (values_where (is_seen l.self l.r l.c) (take l.k l.self.viewers.now));
  low : neg_ℤ (pos (9223372036854775808 * l.k)) ≤ℤ l.sum;
  high : l.sum ≤ℤ pos (9223372036854775808 * l.k);
}
