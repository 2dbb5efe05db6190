use Rattle.live_engine.specs.Dropping.{drops}
use Rattle.live_engine.proofs.dropping.drop_name.Goals as goal

pub returns-clause-accepts : goal.returns-clause-accepts
returns-clause-accepts g c = c.carry_out.ensures.accepts (drops c.args.name) c.drafted-drafted.ensures.drafted

pub returns-clause-reads : goal.returns-clause-reads
returns-clause-reads g c = c.carry_out.ensures.reads (drops c.args.name) c.drafted-drafted.ensures.drafted
