use Rattle.std.proofs.Common.{refl}
use Rattle.map_run.specs.Stops.{status_of}
use Rattle.map_run.proofs.RunLemmas.{runs_sampled}
use Rattle.map_run.proofs.top.run_form.Goals as goal

pub returns-in-Sample-clause-runs : goal.returns-in-Sample-clause-runs
returns-in-Sample-clause-runs g c =
    let limits = c.args.setup.now.limits in
    rw c.in-Sample.is (runs_sampled limits.file limits.session c.in-Sample.side.count _ _ (status_of c.run_sample.result) refl c.run_sample.ensures.sampled
    (c.run_sample.ensures.counts (g.F.Shelf.faults c.args.shelf.now) (g.S.Source.faults c.args.source.now)))
