use Rattle.std.proofs.Common.{ℕ, subst, arith}
use Rattle.map_run.specs.FaultCounts.{RunCounts}
use Rattle.map_run.specs.Stops.{status_of}
use Rattle.map_run.proofs.ModelLemmas.{model_fetched}
use Rattle.map_run.proofs.model.load_model.Goals as goal

pub returns-in-Err-clause-counts : goal.returns-in-Err-clause-counts
returns-in-Err-clause-counts g c source = c.not_fetched.ensures.counts _ _ source c.in-Err.ensures.cause

pub returns-in-Err-clause-loads : goal.returns-in-Err-clause-loads
returns-in-Err-clause-loads g c = c.not_fetched.ensures.loads (g.F.Shelf.files c.args.shelf.now) c.args.session c.args.file.now _ c.in-Err.ensures.bytes

pub returns-in-Ok-clause-counts : goal.returns-in-Ok-clause-counts
returns-in-Ok-clause-counts g c source =
    let K = g.K.Sink in
    let P : ℕ → Type 0 = λ n. RunCounts n (g.F.Shelf.faults c.fetch.new.self) source source (K.faults c.args.sink.now) (K.faults c.play_lines.new.sink) (status_of c.play_lines.result) in
    subst P c.in-Ok.ensures.cause (c.play_lines.ensures.counts (g.F.Shelf.faults c.fetch.new.self) source)

pub returns-in-Ok-clause-loads : goal.returns-in-Ok-clause-loads
returns-in-Ok-clause-loads g c =
    model_fetched (g.F.Shelf.files c.args.shelf.now) c.args.setup.now.limits.file c.args.session c.args.file.now c.in-Ok.bytes _ _ c.play_lines.result
    c.in-Ok.ensures.bytes (omega (arith, c.in-Ok.ensures.bound, c.in-Ok.bytes.ok.0)) (rw c.deref.ensures.value at c.play_lines.ensures.loads)
