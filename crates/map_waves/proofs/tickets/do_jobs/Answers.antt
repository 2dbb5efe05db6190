use Rattle.map_waves.proofs.Rowing.{rises_by}
use Rattle.map_waves.proofs.tickets.do_jobs.Goals as goal

pub returns-clause-tally : goal.returns-clause-tally
returns-clause-tally g c = rises_by c.args.jobs.now g.K.Maker.looks g.K.Maker.picks c.in-Some.count _ _ c.run_by.ensures.tally c.in-Some.ensures.some
