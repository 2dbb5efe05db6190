use Rattle.procedure_expand.proofs.Checks.{procs_more}
use Rattle.procedure_expand.proofs.procs.Procs.add.Goals as goal

pub invariant_of-self-2 : goal.invariant_of-self-2
invariant_of-self-2 c =
    rw c.in_ok-push.ensures.items
    (procs_more c.self.inside.list.items c.args.procedure c.args.self.now c.self.view_is c.self.invariant c.requires.new c.requires.right c.requires.body c.requires.short c.requires.few)
