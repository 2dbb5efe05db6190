use Rattle.std.proofs.Common.{None, Some, refl}
use Rattle.std.proofs.lemmas.Result.{err_from_is_err_and}
use Rattle.map_run.specs.Loads.{load_on, load_reads_on}
use Rattle.map_run.proofs.LoadLemmas.{load_same}
use Rattle.map_run.proofs.Rising.{rises_nothing}
use Rattle.map_run.proofs.StageLemmas.{opened_lacks}
use Rattle.map_run.proofs.loads.load_bytes.Goals as goal

pub returns-in-None-clause-loads : goal.returns-in-None-clause-loads
returns-in-None-clause-loads g c = load_same None c.args.session _ c.args.name.now c.args.bytes.now _ _ c.load_first.result c.in-None.is c.in_ok-name.ensures c.load_first.ensures.loads

pub returns-in-Some-clause-loads : goal.returns-in-Some-clause-loads
returns-in-Some-clause-loads g c =
    load_same (Some c.in-Some.session) c.args.session _ c.args.name.now c.args.bytes.now _ _ c.load_next.result c.in-Some.is c.in_ok-name.ensures c.load_next.ensures.loads

pub returns-in_err-name-clause-loads : goal.returns-in_err-name-clause-loads
returns-in_err-name-clause-loads g c =
    let p = err_from_is_err_and c.from_residual.result c.from_residual.ensures.1 in
    let reads = load_reads_on c.args.session c.args.name.now c.args.bytes.now in
    rw (p.1, p.2) (opened_lacks reads (load_on c.args.session c.args.name.now c.args.bytes.now) _ _ refl (rises_nothing reads (g.M.Tally.counts c.args.tally.now)))
