use Rattle.std.proofs.Common.{◌≡◌, take}
use Rattle.statement_parser.specs.Procedures.{procedures_view}
use Rattle.procedure_expand.proofs.procs.copy_list.Given as goal

abbrev pub invariant-loop-procedure : goal.invariant-loop-procedure
invariant-loop-procedure l = procedures_view l.copies.items ≡ procedures_view (take l.procedure-index l.list)
