use Rattle.std.proofs.lemmas.Result.{err_from_is_err_and}
use Rattle.map_run.specs.Stops.{status_of}
use Rattle.map_run.proofs.CountLemmas.{counts_then}
use Rattle.map_run.proofs.SampleLemmas.{grids_none, grids_then, grids_stop, no_grids}
use Rattle.map_run.proofs.sample.+load_grids.Goals as goal

pub returns-in-None-clause-loads : goal.returns-in-None-clause-loads
returns-in-None-clause-loads g t c = grids_none c.args.session c.args.side.count c.args.grids.now _ (no_grids c.args.grids.now c.in-None.ensures.cases)

pub returns-in_err-session-in-Some-clause-counts : goal.returns-in_err-session-in-Some-clause-counts
returns-in_err-session-in-Some-clause-counts g t c shelf source =
    let p = err_from_is_err_and c.from_residual.result c.from_residual.ensures.1 in
    rw (p.1, p.2) (c.in_err-session-in-Some.ensures.counts shelf source)

pub returns-in_err-session-in-Some-clause-loads : goal.returns-in_err-session-in-Some-clause-loads
returns-in_err-session-in-Some-clause-loads g t c =
    let p = err_from_is_err_and c.from_residual.result c.from_residual.ensures.1 in
    rw (p.1, p.2) (grids_stop c.args.session c.args.side.count c.args.grids.now c.in-Some.rest.now c.in-Some.grid.now _ _ c.in_err-session-in-Some.field-0.0 c.in-Some.ensures.cases.0 c.in_err-session-in-Some.ensures.loads)

pub returns-in_ok-session-in-Some-clause-counts : goal.returns-in_ok-session-in-Some-clause-counts
returns-in_ok-session-in-Some-clause-counts g t c shelf source =
    counts_then _ _ _ _ _ _ _ _ _ (status_of c.load_grids.result) (c.in_ok-session-in-Some.ensures.counts shelf source) (c.load_grids.ensures.counts shelf source)

pub returns-in_ok-session-in-Some-clause-loads : goal.returns-in_ok-session-in-Some-clause-loads
returns-in_ok-session-in-Some-clause-loads g t c =
    grids_then c.args.session c.in_ok-session-in-Some.session c.args.side.count c.args.grids.now c.in-Some.rest.now c.in-Some.grid.now _ _ _ c.load_grids.result c.in-Some.ensures.cases.0
    c.in_ok-session-in-Some.ensures.loads c.load_grids.ensures.loads
