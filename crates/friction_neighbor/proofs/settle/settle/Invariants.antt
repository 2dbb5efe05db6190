use Rattle.std.proofs.Common.{◌≡◌, ◌+◌, ◌-◌, ◌*◌, ◌<◌, ◌≤◌, length}
use Rattle.map_nums.specs.Grids.{cells_in}
use Rattle.layer_tiles.specs.Tallies.{RisesBy}
use Rattle.tile_work.specs.Working.{IsSameWork, base_of, copies}
use Rattle.friction_neighbor.specs.Repairs.{IsValueRepair, alone, IsCaused}
use Rattle.friction_neighbor.proofs.settle.settle.Given as goal

abbrev pub invariant-loop-cost : goal.invariant-loop-cost
invariant-loop-cost g l = record {
  same : IsSameWork l.initial.values l.values;
  full : length l.seen.marks ≡ cells_in l.field.field.ground.size;
  repair : IsValueRepair l.field (base_of l.initial.values.before) l.values.cells l.seen l.queue;
  moved : l.moved ≡ alone l.field (base_of l.initial.values.before) l.values.cells;
  caused : IsCaused l.field.field (base_of l.initial.values.before) l.values;
  some : 0 < length l.queue → 0 < length l.initial.queue;
  enough : 31 * length l.queue ≤ 31 * length l.initial.queue + 279 * l.moved;
  more : copies l.initial.values.copied ≤ copies l.values.copied;
  tally : RisesBy (copies l.values.copied - copies l.initial.values.copied) (31 * length l.initial.queue + 288 * l.moved - 31 * length l.queue) (g.M.Tally.counts l.initial.tally) (g.M.Tally.counts l.tally);
}

abbrev pub decreases-loop-cost : goal.decreases-loop-cost
decreases-loop-cost g l = 2 * (cells_in l.field.field.ground.size - copies l.seen.marks) + length l.queue
