use Rattle.std.proofs.Common.{ℕ, subst, arith}
use Rattle.map_run.specs.FaultCounts.{RunCounts}
use Rattle.map_run.specs.Stops.{status_of}
use Rattle.map_run.proofs.LoadLemmas.{fetched}
use Rattle.map_run.proofs.loads.load_file.Goals as goal

pub returns-in-Err-clause-counts : goal.returns-in-Err-clause-counts
returns-in-Err-clause-counts g c source = c.not_fetched.ensures.counts _ _ source c.in-Err.ensures.cause

pub returns-in-Err-clause-loads : goal.returns-in-Err-clause-loads
returns-in-Err-clause-loads g c = c.not_fetched.ensures.loads (g.F.Shelf.files c.args.shelf.now) c.args.session c.args.pair.now.file.now _ c.in-Err.ensures.bytes

pub returns-in-Ok-clause-counts : goal.returns-in-Ok-clause-counts
returns-in-Ok-clause-counts g c source =
    let K = g.K.Sink in
    let P : ℕ → Type 0 = λ n. RunCounts n (g.F.Shelf.faults c.fetch.new.self) source source (K.faults c.args.sink.now) (K.faults c.load_bytes.new.sink) (status_of c.load_bytes.result) in
    subst P c.in-Ok.ensures.cause (c.load_bytes.ensures.counts (g.F.Shelf.faults c.fetch.new.self) source)

pub returns-in-Ok-clause-loads : goal.returns-in-Ok-clause-loads
returns-in-Ok-clause-loads g c =
    fetched (g.F.Shelf.files c.args.shelf.now) c.args.setup.now.limits.file c.args.session c.args.pair.now.name.now c.args.pair.now.file.now c.in-Ok.bytes _ _ c.load_bytes.result
    c.in-Ok.ensures.bytes (omega (arith, c.in-Ok.ensures.bound, c.in-Ok.bytes.ok.0)) (rw c.deref.ensures.value at c.load_bytes.ensures.loads)
