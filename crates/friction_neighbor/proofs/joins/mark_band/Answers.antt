use Rattle.std.proofs.Common.{ap, arith}
use Rattle.std.proofs.lemmas.Result.{on_ok_weaker}
use Rattle.map_nums.specs.Grids.{Size}
use Rattle.friction_neighbor.specs.Puts.{ArePut}
use Rattle.friction_neighbor.proofs.Putting.{put_none, same_put, put_then}
use Rattle.friction_neighbor.proofs.joins.mark_band.Goals as goal
use Rattle.friction_neighbor.proofs.joins.mark_band.Goals.{then-first-gt0+in_ok-put_line, else-first-gt0, then-end-rows+in_ok-put_line-2, else-end-rows}

pub overflow_add-end : goal.overflow_add-end
overflow_add-end c =
    let size = ap (λ (s : Size). s.rows) (c.requires.size) in
    omega (arith, c.rows.ensures, c.requires.band.below, c.requires.band.within, c.extent-places.ensures.size.most_rows, size)

pub returns-clause-put : goal.returns-clause-put
returns-clause-put c =
    let f = c.args.field.now in
    let a : ArePut f c.args.queue.now c.args.seen.now c.if-first-gt0.queue c.if-first-gt0.seen = elim c.if-first-gt0.branch as (λ _. ArePut f c.args.queue.now c.args.seen.now c.if-first-gt0.queue c.if-first-gt0.seen) [
      | then-first-gt0+in_ok-put_line v ↦ same_put f c.args.queue.now v.put_line.new.queue c.if-first-gt0.queue c.args.seen.now v.put_line.new.seen c.if-first-gt0.seen v.queue-is v.seen-is v.in_ok-put_line.ensures.put
      | else-first-gt0 v ↦ same_put f c.args.queue.now c.args.queue.now c.if-first-gt0.queue c.args.seen.now c.args.seen.now c.if-first-gt0.seen v.queue-is v.seen-is (put_none f c.args.queue.now c.args.seen.now)
    ] in
    let b : ArePut f c.if-first-gt0.queue c.if-first-gt0.seen c.if-end-rows.queue c.if-end-rows.seen = elim c.if-end-rows.branch as (λ _. ArePut f c.if-first-gt0.queue c.if-first-gt0.seen c.if-end-rows.queue c.if-end-rows.seen) [
      | then-end-rows+in_ok-put_line-2 v ↦ same_put f c.if-first-gt0.queue v.put_line-then-end-rows.new.queue c.if-end-rows.queue c.if-first-gt0.seen v.put_line-then-end-rows.new.seen c.if-end-rows.seen v.queue-is v.seen-is v.in_ok-put_line-2.ensures.put
      | else-end-rows v ↦ same_put f c.if-first-gt0.queue c.if-first-gt0.queue c.if-end-rows.queue c.if-first-gt0.seen c.if-first-gt0.seen c.if-end-rows.seen v.queue-is v.seen-is (put_none f c.if-first-gt0.queue c.if-first-gt0.seen)
    ] in
    on_ok_weaker c.mark_moved.result (λ m. put_then f c.args.queue.now c.if-end-rows.queue c.mark_moved.new.queue c.args.seen.now c.if-end-rows.seen c.mark_moved.new.seen (put_then f c.args.queue.now c.if-first-gt0.queue c.if-end-rows.queue c.args.seen.now c.if-first-gt0.seen c.if-end-rows.seen a b) m) c.mark_moved.ensures.put
