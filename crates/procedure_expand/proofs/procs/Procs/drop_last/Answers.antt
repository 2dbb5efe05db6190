use Rattle.procedure_expand.proofs.Fewer.{procs_left}
use Rattle.procedure_expand.proofs.procs.Procs.drop_last.Goals as goal

pub invariant_of-self : goal.invariant_of-self
invariant_of-self c = procs_left c.self.inside.list.items c.pop.new.self.items _ c.pop.ensures.items c.self.invariant
