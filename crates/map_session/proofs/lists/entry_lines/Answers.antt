use Rattle.live_engine.specs.Listed.{listed_of}
use Rattle.map_session.proofs.Listing.{one_more_entry}
use Rattle.map_session.proofs.lists.entry_lines.Goals as goal

pub loop-place-preserved : goal.loop-place-preserved
loop-place-preserved c =
    let r = one_more_entry c.args.engine.now.names.entries c.loop-place.place (listed_of c.in-Some.entry) c.loop-place.text.items c.put_entry.new.text.items c.in-Some.ensures c.loop-place.invariant.text c.in_ok-put_entry.ensures in
    record { text = r.0; within = r.1 }
