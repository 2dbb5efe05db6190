use Rattle.std.proofs.Common.{refl}
use Rattle.std.proofs.lemmas.Result.{err_from_is_err_and}
use Rattle.map_machine.specs.Loads.{next_load}
use Rattle.map_machine.specs.LoadReads.{next_load_reads}
use Rattle.map_run.proofs.StageLemmas.{opened_comes, opened_lacks}
use Rattle.map_run.proofs.loads.load_next.Goals as goal

pub returns-clause-loads : goal.returns-clause-loads
returns-clause-loads g c =
    let o = next_load c.args.session c.args.name c.args.bytes.now in
    opened_comes (next_load_reads c.args.session c.args.name c.args.bytes.now) o _ _ c.put_loaded.result (c.put_loaded.ensures.loads c.args.session o c.in_ok-reply.ensures.loads) c.in_ok-reply.ensures.reads

pub returns-in_err-reply-clause-loads : goal.returns-in_err-reply-clause-loads
returns-in_err-reply-clause-loads g c =
    let p = err_from_is_err_and c.from_residual.result c.from_residual.ensures.1 in
    rw (p.1, p.2) (opened_lacks (next_load_reads c.args.session c.args.name c.args.bytes.now) (next_load c.args.session c.args.name c.args.bytes.now) _ _ refl c.in_err-reply.ensures.reads)
