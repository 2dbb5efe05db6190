use Rattle.std.proofs.Common.{None, ◌∙◌, FitsSigned, rules}
use Rattle.std.proofs.lemmas.Int.{to_z-of_z}
use Rattle.std.proofs.lemmas.List.{get_or_default}
use Rattle.map_nums.specs.Widths.{value_width}
use Rattle.op_jobs.proofs.zonal_kernel.ZonalRowRowMaker.value_at.Goals as goal

pub returns-in-Some : goal.returns-in-Some
returns-in-Some c =
    let m = c.args.self.now in
    let fits : FitsSigned value_width c.in-Some.zone = search rules in
    rw (← (c.in-Some.ensures.value ∙ get_or_default m.cells.now c.args.c c.index-self-c.result None c.requires.0)) (rw (to_z-of_z value_width c.in-Some.zone fits) at c.known_stat.ensures)
