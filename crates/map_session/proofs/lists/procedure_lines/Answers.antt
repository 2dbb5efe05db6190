use Rattle.statement_parser.specs.Views.{procedure_view}
use Rattle.map_session.specs.Lines.{procedure_line}
use Rattle.map_session.proofs.Listing.{one_more}
use Rattle.map_session.proofs.lists.procedure_lines.Goals as goal

pub loop-place-preserved : goal.loop-place-preserved
loop-place-preserved c =
    let r = one_more procedure_line c.args.engine.now.procedures c.loop-place.place (procedure_view c.in-Some.procedure.now) c.loop-place.text.items c.put_procedure.new.text.items c.in-Some.ensures c.loop-place.invariant.text c.in_ok-put_procedure.ensures in
    record { text = r.0; within = r.1 }
