use Rattle.std.proofs.Common.{◌+◌, ◌-◌, ◌∙◌, arith}
use Rattle.layer_tiles.proofs.Rising.{rises_then, rises_within}
use Rattle.friction_neighbor.proofs.Putting.{put_then, row_marked_next}
use Rattle.friction_neighbor.proofs.puts.put_row.Goals as goal

pub loop-c-preserved : goal.loop-c-preserved
loop-c-preserved g c =
    let f = c.args.field.now.field in
    let ok = c.in_ok-put.ensures in
    let i = c.loop-c.invariant in
    record {
      size = ok.put.size ∙ i.size;
      put = put_then f c.args.queue.now c.loop-c.queue c.put.new.queue c.args.seen.now c.loop-c.seen c.put.new.seen i.put ok.put;
      marked = row_marked_next f c.args.floor c.loop-c.queue c.put.new.queue c.loop-c.seen c.put.new.seen c.args.from.at c.args.row c.loop-c.c c.spot_at-spot.result ok.put c.spot_at-spot.ensures.spot c.spot_at-spot.ensures.row c.spot_at-spot.ensures.column ok.marked i.marked;
      len = omega (arith, ok.len, i.len, c.loop-c.auto.c);
      picks = rises_within (0 + 0) (c.loop-c.c - c.saturating_sub-low.result + 1) 0 (c.loop-c.c + 1 - c.saturating_sub-low.result) _ _ (omega arith) (omega (arith, c.loop-c.auto.c)) (rises_then 0 (c.loop-c.c - c.saturating_sub-low.result) 0 1 _ _ _ i.picks c.put.ensures.pick);
    }
