use Rattle.map_machine.specs.Signs.{sign_of}
use Rattle.map_display.proofs.Rows.{signs_more, signs_end}
use Rattle.map_display.proofs.shows.put_signs.Goals as goal

pub loop-cell-preserved : goal.loop-cell-preserved
loop-cell-preserved c = λ symbols n h.
    signs_more (sign_of symbols n) c.args.text.now.items c.loop-cell.text.items c.push.new.self.items c.args.row.now c.loop-cell.cell-index c.cell-item.result c.sign.result
    (c.loop-cell.invariant symbols n h) c.in_ok-push.ensures.items (c.sign.ensures symbols n h) c.loop-cell-test.true c.cell-item.is

pub returns : goal.returns
returns c = λ symbols n h.
    signs_end (sign_of symbols n) c.args.text.now.items c.loop-cell.text.items c.push-2.new.self.items c.args.row.now c.loop-cell.cell-index (c.loop-cell.invariant symbols n h) c.in_ok-push-2.ensures.items c.loop-cell-test.false
