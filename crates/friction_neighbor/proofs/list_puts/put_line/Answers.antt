use Rattle.std.proofs.Common.{◌≡◌, ◌∙◌, ap, arith}
use Rattle.std.proofs.lemmas.Nat.{mod_below}
use Rattle.map_nums.specs.Grids.{Size}
use Rattle.friction_neighbor.proofs.ListSettling.{line_marked_next}
use Rattle.friction_neighbor.proofs.Putting.{put_then}
use Rattle.friction_neighbor.proofs.list_puts.put_line.Goals as goal

pub loop-c-preserved : goal.loop-c-preserved
loop-c-preserved c =
    let f = c.args.field.now in
    let ok = c.in_ok-put.ensures in
    let i = c.loop-c.invariant in
    record {
      size = ok.put.size ∙ i.size;
      put = put_then f c.args.queue.now c.loop-c.queue c.put.new.queue c.args.seen.now c.loop-c.seen c.put.new.seen i.put ok.put;
      marked = line_marked_next f c.loop-c.queue c.put.new.queue c.loop-c.seen c.put.new.seen c.args.row c.loop-c.c c.spot_at-spot.result ok.put c.spot_at-spot.ensures.spot c.spot_at-spot.ensures.row c.spot_at-spot.ensures.column ok.marked i.marked;
    }

pub returns-clause-marked : goal.returns-clause-marked
returns-clause-marked c =
    let s = c.args.field.now.ground.size in
    let n : c.columns-c-end.result ≡ s.columns = c.columns-c-end.ensures.columns ∙ ap (λ (z : Size). z.columns) c.extent.ensures.extent in
    λ i l r. c.loop-c.invariant.marked i l r (omega (arith, n, mod_below i s.columns c.extent.ensures.field.size.some_column, c.loop-c-test.false))
