use Rattle.op_jobs.proofs.WholeJobs.{costs_kept, handed, nearest_piece, nearest_tally}
use Rattle.op_jobs.proofs.whole_jobs.do_nearest.Goals as goal

pub nearest_of-old-requires : goal.nearest_of-old-requires
nearest_of-old-requires g c = costs_kept c.args.jobs.now c.args.job.now c.requires.sound c.requires.own c.args.limit c.requires.repair _ c.jobs.view_is

pub repair_nearest-requires : goal.repair_nearest-requires
repair_nearest-requires g c =
    handed c.args.jobs.now c.args.job.now c.requires.sound c.requires.own c.args.limit c.requires.repair _ c.jobs.view_is _ _ c.both_of.ensures c.nearest_of-old.result c.nearest_of-old.ensures.costs c.nearest_of-old.ensures.values

pub returns-in-Ok-clause-piece : goal.returns-in-Ok-clause-piece
returns-in-Ok-clause-piece g c =
    nearest_piece c.args.jobs.now c.args.job.now c.requires.sound c.requires.own c.args.limit c.requires.repair _ c.jobs.view_is _ _ c.both_of.ensures c.nearest_of-old.result c.nearest_of-old.ensures.costs c.nearest_of-old.ensures.values
    c.in-Ok.made c.in-Ok.ensures.made

pub returns-in-Ok-clause-tally : goal.returns-in-Ok-clause-tally
returns-in-Ok-clause-tally g c =
    nearest_tally c.args.jobs.now c.args.job.now c.requires.sound c.requires.own c.args.limit c.requires.repair _ c.jobs.view_is _ _ c.both_of.ensures c.nearest_of-old.result c.nearest_of-old.ensures.costs c.nearest_of-old.ensures.values
    _ _ c.repair_nearest.ensures.tally

pub returns-in-Err-clause-tally : goal.returns-in-Err-clause-tally
returns-in-Err-clause-tally g c =
    nearest_tally c.args.jobs.now c.args.job.now c.requires.sound c.requires.own c.args.limit c.requires.repair _ c.jobs.view_is _ _ c.both_of.ensures c.nearest_of-old.result c.nearest_of-old.ensures.costs c.nearest_of-old.ensures.values
    _ _ c.repair_nearest.ensures.tally
