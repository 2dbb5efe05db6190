use Rattle.std.proofs.Common.{ap}
use Rattle.std.proofs.lemmas.Result.{err_from_is_err_and}
use Rattle.map_run.specs.Forms.{pairs_read, model_read}
use Rattle.map_run.specs.Loads.{pairs_stage, model_stage}
use Rattle.map_run.specs.Stops.{status_of}
use Rattle.map_run.proofs.CountLemmas.{counts_then}
use Rattle.map_run.proofs.LoadLemmas.{without_model, with_model}
use Rattle.map_run.proofs.StageLemmas.{loads_stop}
use Rattle.map_run.proofs.opening.open_files.Goals as goal

pub returns-in-None-clause-loads : goal.returns-in-None-clause-loads
returns-in-None-clause-loads g c =
    let files = c.args.files.now in
    without_model (g.F.Shelf.files c.args.shelf.now) c.args.setup.now.limits.file (model_read files.model) (pairs_read files.pairs.items) _ _ c.in_ok-session.session (ap model_read c.in-None.is)
    (rw c.deref.ensures.0 at c.in_ok-session.ensures.loads)

pub returns-in_err-session-clause-counts : goal.returns-in_err-session-clause-counts
returns-in_err-session-clause-counts g c source =
    let p = err_from_is_err_and c.from_residual.result c.from_residual.ensures.1 in
    rw (p.1, p.2) (c.in_err-session.ensures.counts source)

pub returns-in_err-session-clause-loads : goal.returns-in_err-session-clause-loads
returns-in_err-session-clause-loads g c =
    let p = err_from_is_err_and c.from_residual.result c.from_residual.ensures.1 in
    let most = c.args.setup.now.limits.file in
    let files = c.args.files.now in
    rw (p.1, p.2) (loads_stop (g.F.Shelf.files c.args.shelf.now) (λ f. pairs_stage most f (pairs_read files.pairs.items)) (λ f. model_stage most f (model_read files.model)) _ _ c.in_err-session.field-0.0
    (rw c.deref.ensures.0 at c.in_err-session.ensures.loads))

pub returns-in-Some-clause-counts : goal.returns-in-Some-clause-counts
returns-in-Some-clause-counts g c source = counts_then _ _ _ _ _ _ _ _ _ (status_of c.load_model.result) (c.in_ok-session.ensures.counts source) (c.load_model.ensures.counts source)

pub returns-in-Some-clause-loads : goal.returns-in-Some-clause-loads
returns-in-Some-clause-loads g c =
    let files = c.args.files.now in
    with_model (g.F.Shelf.files c.args.shelf.now) (g.F.Shelf.files c.load_files.new.shelf) c.args.setup.now.limits.file (model_read files.model) c.in-Some.file.now (pairs_read files.pairs.items) _ _ _
    c.in_ok-session.session c.load_model.result (ap model_read c.in-Some.is) c.in_ok-session.ensures.same (rw c.deref.ensures.0 at c.in_ok-session.ensures.loads) c.load_model.ensures.loads
