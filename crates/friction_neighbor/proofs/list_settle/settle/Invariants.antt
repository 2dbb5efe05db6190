use Rattle.std.proofs.Common.{◌≡◌, ◌+◌, ◌-◌, ◌*◌, length}
use Rattle.map_nums.specs.Grids.{cells_in}
use Rattle.tile_work.specs.Working.{copies}
use Rattle.friction_neighbor.specs.Joins.{IsListRepair}
use Rattle.friction_neighbor.proofs.list_settle.settle.Given as goal

abbrev pub invariant-loop-cost : goal.invariant-loop-cost
invariant-loop-cost l = record {
  full : length l.seen.marks ≡ cells_in l.field.ground.size;
  repair : IsListRepair l.field l.initial.values l.values l.seen l.queue;
}

abbrev pub decreases-loop-cost : goal.decreases-loop-cost
decreases-loop-cost l = 2 * (cells_in l.field.ground.size - copies l.seen.marks) + length l.queue
