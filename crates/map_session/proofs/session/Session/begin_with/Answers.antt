use Rattle.std.proofs.Common.{ap}
use Rattle.grid_text.specs.Reads.{held}
use Rattle.map_edits.specs.Pasts.{parts_of}
use Rattle.undo_shelf.specs.Histories.{pasts_from}
use Rattle.map_session.proofs.LoadSteps.{state_before, begun_refused, begun_reads}
use Rattle.map_session.proofs.session.Session.begin_with.Goals as goal

pub returns-in_default : goal.returns-in_default
returns-in_default g c =
    let read = held c.args.grid in
    let earlier = pasts_from (parts_of c.new-engine.result) in
    let same = state_before read c.new-engine.result (earlier c.in_ok-history.history) c.extent.result c.new-engine.ensures (ap earlier c.in_ok-history.ensures) c.extent.ensures.extent in
    record {
      begins = begun_refused _ _ _ c.args.name read.grid c.in_ok-reply.reply same c.in_ok-reply.ensures.loads c.in_default.not-Accepted;
      reads = begun_reads _ _ c.args.name read.grid (g.M.Tally.counts c.args.tally.now) (g.M.Tally.counts c.load_layer.new.tally) same c.in_ok-reply.ensures.reads;
    }
