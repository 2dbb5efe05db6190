use Rattle.std.proofs.Common.{sym, ap, ◌∙◌, refl}
use Rattle.std.proofs.lemmas.Result.{err_from_is_err_and}
use Rattle.map_machine.specs.Loads.{ready, turned_away, first_load}
use Rattle.map_machine.specs.LoadReads.{first_load_reads}
use Rattle.map_run.proofs.StageLemmas.{opened_comes_as, opened_lacks}
use Rattle.map_run.proofs.loads.load_first.Goals as goal

pub returns-in-Ready-clause-loads : goal.returns-in-Ready-clause-loads
returns-in-Ready-clause-loads g c =
    let begins = rw c.in-Ready.is at c.in_ok-begun.ensures.begins in
    opened_comes_as (first_load_reads c.args.name c.args.bytes.now) (first_load c.args.name c.args.bytes.now) (ready c.in-Ready.session c.deref.result.now) _ _ c.accept.result
    (ap (ready c.in-Ready.session) c.deref.ensures.value ∙ sym begins.0) c.accept.ensures.loads c.in_ok-begun.ensures.reads

pub returns-in-Refused-clause-loads : goal.returns-in-Refused-clause-loads
returns-in-Refused-clause-loads g c =
    let begins = rw c.in-Refused.is at c.in_ok-begun.ensures.begins in
    opened_comes_as (first_load_reads c.args.name c.args.bytes.now) (first_load c.args.name c.args.bytes.now) (turned_away c.deref-in-Refused.result.now) _ _ c.refuse.result
    (ap turned_away c.deref-in-Refused.ensures.value ∙ sym begins.0) c.refuse.ensures.loads c.in_ok-begun.ensures.reads

pub returns-in_err-begun-clause-loads : goal.returns-in_err-begun-clause-loads
returns-in_err-begun-clause-loads g c =
    let p = err_from_is_err_and c.from_residual.result c.from_residual.ensures.1 in
    rw (p.1, p.2) (opened_lacks (first_load_reads c.args.name c.args.bytes.now) (first_load c.args.name c.args.bytes.now) _ _ refl c.in_err-begun.ensures.reads)
