use Rattle.std.proofs.Common.{◌≡◌, ◌∙◌, ap, arith}
use Rattle.map_nums.specs.Grids.{Size, row_of}
use Rattle.friction_neighbor.proofs.Places.{below, row_lt}
use Rattle.friction_neighbor.proofs.Putting.{put_then, round_marked_next}
use Rattle.friction_neighbor.proofs.list_puts.put_round.Goals as goal

pub loop-r-preserved : goal.loop-r-preserved
loop-r-preserved c =
    let f = c.args.field.now in
    let ok = c.in_ok-put_row.ensures in
    let i = c.loop-r.invariant in
    record {
      size = ok.put.size ∙ i.size;
      put = put_then f c.args.queue.now c.loop-r.queue c.put_row.new.queue c.args.seen.now c.loop-r.seen c.put_row.new.seen i.put ok.put;
      marked = round_marked_next f c.args.floor c.loop-r.queue c.put_row.new.queue c.loop-r.seen c.put_row.new.seen c.args.from.at c.loop-r.r ok.put ok.marked i.marked;
    }

pub returns-clause-marked : goal.returns-clause-marked
returns-clause-marked c =
    let s = c.args.field.now.ground.size in
    let n : c.rows-rows.result ≡ s.rows = c.rows-rows.ensures.rows ∙ ap (λ (z : Size). z.rows) c.extent.ensures.extent in
    λ j l q k. c.loop-r.invariant.marked j l q k (let m = below (row_of s c.args.from.at) (row_of s j) s.rows c.min-high.result q (row_lt s j c.extent.ensures.field.size l) (omega (arith, c.min-high.ensures, n, c.requires.spot.row)) in omega (arith, m, c.loop-r-test.false))
