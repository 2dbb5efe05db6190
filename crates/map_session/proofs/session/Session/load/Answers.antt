use Rattle.grid_text.specs.Reads.{held}
use Rattle.map_session.proofs.LoadSteps.{load_read, load_reads, load_refused}
use Rattle.map_session.proofs.session.Session.load.Goals as goal

pub returns-in-Ok-clause-loads : goal.returns-in-Ok-clause-loads
returns-in-Ok-clause-loads g c =
    load_read c.args.self.now c.load_layer.new.self c.args.name c.args.bytes.now (held c.in-Ok.grid) c.load_layer.result c.in-Ok.ensures.reads.0 c.load_layer.ensures.loads

pub returns-in-Ok-clause-reads : goal.returns-in-Ok-clause-reads
returns-in-Ok-clause-reads g c =
    load_reads c.args.self.now c.args.name c.args.bytes.now (held c.in-Ok.grid) (g.M.Tally.counts c.args.tally.now) (g.M.Tally.counts c.load_layer.new.tally) c.in-Ok.ensures.reads.0 c.load_layer.ensures.reads

pub returns-in_ok-cause-in-Err-clause-loads : goal.returns-in_ok-cause-in-Err-clause-loads
returns-in_ok-cause-in-Err-clause-loads g c =
    load_refused c.args.self.now c.args.name c.args.bytes.now c.in-Err.refusal c.in_ok-cause-in-Err.cause.items c.deref.result.now c.load_refused.result
    c.in-Err.ensures.reads c.in_ok-cause-in-Err.ensures c.deref.ensures.value c.load_refused.ensures
