use Rattle.std.proofs.Common.{sym}
use Rattle.std.proofs.lemmas.Int.{to_z-of_z}
use Rattle.map_nums.specs.Widths.{value_width}
use Rattle.op_jobs.proofs.zonal_kernel.known_stat.Goals as goal

pub returns-in-Some : goal.returns-in-Some
returns-in-Some c = rw (to_z-of_z value_width c.args.zone c.ranges.zone) at (c.requires.stats.each _ c.in-Some.answer.now (sym c.in-Some.ensures.value))

pub returns-in-None : goal.returns-in-None
returns-in-None c = rw (to_z-of_z value_width c.args.zone c.ranges.zone) at c.book_stat.ensures
