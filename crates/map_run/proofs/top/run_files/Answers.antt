use Rattle.std.proofs.Common.{refl}
use Rattle.std.proofs.lemmas.Result.{err_from_is_err_and}
use Rattle.map_run.specs.Forms.{pairs_read, model_read}
use Rattle.map_run.specs.Shown.{progress}
use Rattle.map_run.specs.Stops.{status_of}
use Rattle.map_run.proofs.RunLemmas.{runs_played, runs_stopped}
use Rattle.map_run.proofs.WordLemmas.{pairs_served}
use Rattle.map_run.proofs.top.run_files.Goals as goal

pub returns-in_err-session-clause-runs : goal.returns-in_err-session-clause-runs
returns-in_err-session-clause-runs g c =
    let p = err_from_is_err_and c.from_residual.result c.from_residual.ensures.1 in
    let limits = c.args.setup.now.limits in
    rw (p.1, p.2) (runs_stopped limits.file limits.session (model_read c.args.files.now.model) (pairs_read c.args.files.now.pairs.items) _ _ _ refl c.in_err-session.ensures.loads
    (c.in_err-session.ensures.counts (g.S.Source.faults c.args.source.now)))

pub returns-clause-runs : goal.returns-clause-runs
returns-clause-runs g c =
    let limits = c.args.setup.now.limits in
    let K = g.K.Sink in
    runs_played limits.file limits.session (model_read c.args.files.now.model) (pairs_read c.args.files.now.pairs.items) _ (record {
      files = g.F.Shelf.files c.open_files.new.shelf;
      left = g.S.Source.left c.args.source.now;
      shelf = g.F.Shelf.faults c.open_files.new.shelf;
      source = g.S.Source.faults c.args.source.now;
      progress = progress K.held K.faults c.open_files.new.sink (g.M.Tally.counts c.open_files.new.tally);
    }) _ c.in_ok-session.session (status_of c.play_session.result) c.in_ok-session.ensures.loads (c.in_ok-session.ensures.counts (g.S.Source.faults c.args.source.now))
    c.play_session.ensures.plays (c.play_session.ensures.counts (g.F.Shelf.faults c.open_files.new.shelf))

pub open_files-requires-clause-serves : goal.open_files-requires-clause-serves
open_files-requires-clause-serves g c κs within =
    pairs_served (g.F.Shelf.serves c.args.shelf.now) (model_read c.args.files.now.model) c.args.files.now.pairs.items c.requires.serves
