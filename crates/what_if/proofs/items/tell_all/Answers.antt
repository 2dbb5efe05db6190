use Rattle.std.proofs.Common.{◌≡◌, ◌+◌, Some, slice_get, length, refl}
use Rattle.std.proofs.lemmas.Option.{slice_get_read}
use Rattle.what_if.proofs.Telling.{reads_front, item_formed, state_next, told_next, reads_next}
use Rattle.what_if.proofs.items.tell_all.Goals as goal

pub tell-requires-clause-formed : goal.tell-requires-clause-formed
tell-requires-clause-formed g c κs within =
    let is = c.args.items.now in
    item_formed is c.loop-item.item-index c.item-item.result c.requires.formed (slice_get_read is (length is) c.loop-item.item-index c.item-item.result refl c.loop-item-test.true c.item-item.is)

pub returns-in_err-one-clause-reads : goal.returns-in_err-one-clause-reads
returns-in_err-one-clause-reads g c =
    let s = c.args.engine.now in
    let is = c.args.items.now in
    let k = c.loop-item.item-index in
    let x = c.item-item.result in
    let at : slice_get is k ≡ Some x = slice_get_read is (length is) k x refl c.loop-item-test.true c.item-item.is in
    let a = g.M.Tally.counts c.args.tally.now in
    let d = g.M.Tally.counts c.tell.new.tally in
    let reads = reads_next s c.loop-item.engine is k x a (g.M.Tally.counts c.loop-item.tally) d at c.loop-item.invariant.state c.loop-item.invariant.tally c.tell.ensures.reads in
    reads_front s (k + 1) is a d reads

pub returns-in_err-push-clause-reads : goal.returns-in_err-push-clause-reads
returns-in_err-push-clause-reads g c =
    let s = c.args.engine.now in
    let is = c.args.items.now in
    let k = c.loop-item.item-index in
    let x = c.item-item.result in
    let at : slice_get is k ≡ Some x = slice_get_read is (length is) k x refl c.loop-item-test.true c.item-item.is in
    let a = g.M.Tally.counts c.args.tally.now in
    let d = g.M.Tally.counts c.tell.new.tally in
    let reads = reads_next s c.loop-item.engine is k x a (g.M.Tally.counts c.loop-item.tally) d at c.loop-item.invariant.state c.loop-item.invariant.tally c.tell.ensures.reads in
    reads_front s (k + 1) is a d reads

pub loop-item-preserved : goal.loop-item-preserved
loop-item-preserved g c =
    let s = c.args.engine.now in
    let is = c.args.items.now in
    let k = c.loop-item.item-index in
    let x = c.item-item.result in
    let at : slice_get is k ≡ Some x = slice_get_read is (length is) k x refl c.loop-item-test.true c.item-item.is in
    let a = g.M.Tally.counts c.args.tally.now in
    let d = g.M.Tally.counts c.tell.new.tally in
    let reads = reads_next s c.loop-item.engine is k x a (g.M.Tally.counts c.loop-item.tally) d at c.loop-item.invariant.state c.loop-item.invariant.tally c.tell.ensures.reads in
    record {
      state = state_next s c.loop-item.engine c.tell.new.engine is k x at c.loop-item.invariant.state c.in_ok-one.ensures.after;
      told = told_next s c.loop-item.engine is k x c.loop-item.told.items c.push.new.self.items c.in_ok-one.one at c.loop-item.invariant.state c.loop-item.invariant.told c.in_ok-one.ensures.told c.in_ok-push.ensures.items;
      tally = reads;
    }
