use Rattle.std.specs.Option.{option_copied}
use Rattle.tile_work.specs.Working.{before_of}
use Rattle.op_jobs.proofs.WholeLayers.{limit_fits, spread_made, spread_rises}
use Rattle.op_jobs.proofs.whole_spread.repair_spread.Goals as goal

pub returns-in-Ok-clause-answer : goal.returns-in-Ok-clause-answer
returns-in-Ok-clause-answer g c = λ t u.
    let r = c.in-Ok.repair in
    let e = c.in-Ok.ensures in
    spread_made c.args.sources.now c.args.friction.now c.args.limit t u c.extent-sources.ensures.size _ (limit_fits c.args.limit c.requires.limit) (option_copied c.args.old) r.patch r.worked c.requires.limit c.extent-patch.ensures.patch e.size e.spread e.exact (e.worked t u)

pub returns-in-Ok-clause-tally : goal.returns-in-Ok-clause-tally
returns-in-Ok-clause-tally g c = λ t u.
    spread_rises c.args.sources.now c.args.friction.now c.args.limit t u c.extent-sources.ensures.size _ (limit_fits c.args.limit c.requires.limit) (before_of (option_copied c.args.old)) _ _ c.requires.sources c.requires.friction c.spread_repair.ensures.reads

pub returns-in-Err-clause-tally : goal.returns-in-Err-clause-tally
returns-in-Err-clause-tally g c = λ t u.
    spread_rises c.args.sources.now c.args.friction.now c.args.limit t u c.extent-sources.ensures.size _ (limit_fits c.args.limit c.requires.limit) (before_of (option_copied c.args.old)) _ _ c.requires.sources c.requires.friction c.spread_repair.ensures.reads
