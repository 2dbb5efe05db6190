use Rattle.std.proofs.lemmas.Result.{err_from_is_err_and}
use Rattle.map_run.proofs.Playing.{plays_nothing}
use Rattle.map_run.proofs.session.play_session.Goals as goal

pub returns-in_err-chunk-clause-plays : goal.returns-in_err-chunk-clause-plays
returns-in_err-chunk-clause-plays g c =
    let p = err_from_is_err_and c.from_residual.result c.from_residual.ensures.1 in
    rw (p.1, p.2) (plays_nothing c.args.setup.now.limits.session c.args.session.now (g.S.Source.left c.args.source.now) _)
