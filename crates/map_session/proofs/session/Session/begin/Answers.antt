use Rattle.grid_text.specs.Reads.{held}
use Rattle.map_session.proofs.LoadSteps.{begin_read, begin_reads, begin_refused}
use Rattle.map_session.proofs.session.Session.begin.Goals as goal

pub returns-in-Ok-clause-begins : goal.returns-in-Ok-clause-begins
returns-in-Ok-clause-begins g c =
    begin_read c.args.name c.args.bytes.now (held c.in-Ok.grid) c.begin_with.result c.in-Ok.ensures.reads.0 c.begin_with.ensures.begins

pub returns-in-Ok-clause-reads : goal.returns-in-Ok-clause-reads
returns-in-Ok-clause-reads g c =
    begin_reads c.args.name c.args.bytes.now (held c.in-Ok.grid) (g.M.Tally.counts c.args.tally.now) (g.M.Tally.counts c.begin_with.new.tally) c.in-Ok.ensures.reads.0 c.begin_with.ensures.reads

pub returns-in_ok-load_refused-in-Err-clause-begins : goal.returns-in_ok-load_refused-in-Err-clause-begins
returns-in_ok-load_refused-in-Err-clause-begins g c =
    begin_refused c.args.name c.args.bytes.now c.in-Err.refusal c.in_ok-cause-in-Err.cause.items c.deref.result.now c.in_ok-load_refused-in-Err.field-0
    c.in-Err.ensures.reads c.in_ok-cause-in-Err.ensures c.deref.ensures.value c.in_ok-load_refused-in-Err.ensures
