use Rattle.std.proofs.Common.{ℕ, Vec, Err, subst, refl}
use Rattle.std.specs.declared.alloc.Global.{Global}
use Rattle.map_outside.specs.Causes.{FetchCounts}
use Rattle.map_outside.specs.Contents.{Fetches}
use Rattle.map_run.specs.FaultCounts.{RunCounts}
use Rattle.map_run.specs.Stops.{status_of}
use Rattle.map_run.proofs.ModelLemmas.{model_fetched_long}
use Rattle.map_run.proofs.StageLemmas.{loads_before, shelf_apart, memory_apart}
use Rattle.map_run.proofs.model.not_fetched.Goals as goal

pub returns-in-Long-clause-counts : goal.returns-in-Long-clause-counts
returns-in-Long-clause-counts g c = λ before now source h.
    let K = g.K.Sink in
    let P : ℕ → Type 0 = λ n. RunCounts n now source source (K.faults c.args.sink.now) (K.faults c.refuse_long.new.sink) (status_of c.refuse_long.result) in
    subst P (subst (λ f. FetchCounts {T = Vec ℕ Global} before now (Err f)) c.in-Long.is h) (c.refuse_long.ensures.counts now source)

pub returns-in-Long-clause-loads : goal.returns-in-Long-clause-loads
returns-in-Long-clause-loads g c = λ files session file tally h.
    model_fetched_long files c.args.most session file _ _ c.refuse_long.result (subst (λ f. Fetches files file c.args.most (Err f)) c.in-Long.is h) c.refuse_long.ensures.loads refl

pub returns-in-Failed-clause-loads : goal.returns-in-Failed-clause-loads
returns-in-Failed-clause-loads g c = λ files session file tally h. loads_before files _ _ _ tt shelf_apart

pub returns-in-Failed-clause-counts : goal.returns-in-Failed-clause-counts
returns-in-Failed-clause-counts g c = λ before now source h. (subst (λ f. FetchCounts {T = Vec ℕ Global} before now (Err f)) c.in-Failed.is h, refl, refl)

pub returns-in-NoMemory-clause-counts : goal.returns-in-NoMemory-clause-counts
returns-in-NoMemory-clause-counts g c = λ before now source h. (subst (λ f. FetchCounts {T = Vec ℕ Global} before now (Err f)) c.in-NoMemory.is h, refl, refl)

pub returns-in-NoMemory-clause-loads : goal.returns-in-NoMemory-clause-loads
returns-in-NoMemory-clause-loads g c = λ files session file tally h. loads_before files _ _ _ tt memory_apart
