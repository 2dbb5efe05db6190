use Rattle.line_checks.proofs.Adding.{add_twice}
use Rattle.line_checks.proofs.procedures.with_twice.Goals as goal

pub add-requires-clause-new : goal.add-requires-clause-new
add-requires-clause-new c = (add_twice c.new-procs.result c.in_ok-procedure.procedure c.new-procs.ensures c.in_ok-procedure.ensures).new

pub add-requires-clause-right : goal.add-requires-clause-right
add-requires-clause-right c = (add_twice c.new-procs.result c.in_ok-procedure.procedure c.new-procs.ensures c.in_ok-procedure.ensures).right

pub add-requires-clause-body : goal.add-requires-clause-body
add-requires-clause-body c = (add_twice c.new-procs.result c.in_ok-procedure.procedure c.new-procs.ensures c.in_ok-procedure.ensures).body

pub add-requires-clause-short : goal.add-requires-clause-short
add-requires-clause-short c = (add_twice c.new-procs.result c.in_ok-procedure.procedure c.new-procs.ensures c.in_ok-procedure.ensures).short

pub add-requires-clause-few : goal.add-requires-clause-few
add-requires-clause-few c = (add_twice c.new-procs.result c.in_ok-procedure.procedure c.new-procs.ensures c.in_ok-procedure.ensures).few
