use Rattle.std.proofs.Common.{◌∙◌}
use Rattle.friction_neighbor.proofs.Putting.{put_then, row_marked_next}
use Rattle.friction_neighbor.proofs.list_puts.put_row.Goals as goal

pub loop-c-preserved : goal.loop-c-preserved
loop-c-preserved c =
    let f = c.args.field.now in
    let ok = c.in_ok-put.ensures in
    let i = c.loop-c.invariant in
    record {
      size = ok.put.size ∙ i.size;
      put = put_then f c.args.queue.now c.loop-c.queue c.put.new.queue c.args.seen.now c.loop-c.seen c.put.new.seen i.put ok.put;
      marked = row_marked_next f c.args.floor c.loop-c.queue c.put.new.queue c.loop-c.seen c.put.new.seen c.args.from.at c.args.row c.loop-c.c c.spot_at-spot.result ok.put c.spot_at-spot.ensures.spot c.spot_at-spot.ensures.row c.spot_at-spot.ensures.column ok.marked i.marked;
    }
