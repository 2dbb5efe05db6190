use Rattle.std.proofs.Common.{add-one}
use Rattle.op_jobs.proofs.Both.{second_is}
use Rattle.op_jobs.proofs.zonal_parts.count_part.Goals as goal

pub returns-clause-counts : goal.returns-clause-counts
returns-clause-counts g c =
    let size = (second_is c.both_of.ensures c.requires.both).size in
    rw (c.both_of.ensures) (rw (size, c.part_start-first.ensures.start, c.part_start-end.ensures.start, c.tiles-tiles.ensures.tiles, add-one) at c.in_ok-counts.ensures.counts)
