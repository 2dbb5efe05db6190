use Rattle.std.specs.Option.{option_copied}
use Rattle.op_jobs.proofs.WholeLayers.{regions_made, regions_rise}
use Rattle.op_jobs.proofs.whole_regions.repair_regions.Goals as goal

pub returns-in-Ok-clause-answer : goal.returns-in-Ok-clause-answer
returns-in-Ok-clause-answer g c = λ t.
    let r = c.in-Ok.repair in
    let e = c.in-Ok.ensures in
    regions_made c.args.of.now t c.extent-of.ensures.size (option_copied c.args.old) r.patch r.worked c.extent-patch.ensures.patch e.size e.regions e.exact (e.worked t)

pub returns-in-Ok-clause-tally : goal.returns-in-Ok-clause-tally
returns-in-Ok-clause-tally g c = λ t. let e = c.label_repair.ensures in regions_rise c.args.of.now t c.extent-of.ensures.size (option_copied c.args.old) _ _ c.requires.operand e.looks e.picks e.parts

pub returns-in-Err-clause-tally : goal.returns-in-Err-clause-tally
returns-in-Err-clause-tally g c = λ t. let e = c.label_repair.ensures in regions_rise c.args.of.now t c.extent-of.ensures.size (option_copied c.args.old) _ _ c.requires.operand e.looks e.picks e.parts
