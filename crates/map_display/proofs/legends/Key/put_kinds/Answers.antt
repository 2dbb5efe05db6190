use Rattle.map_display.specs.Lines.{counted_kind}
use Rattle.map_display.proofs.Rows.{piece_more, pieces_all}
use Rattle.map_display.proofs.legends.Key.put_kinds.Goals as goal

pub loop-kind-preserved : goal.loop-kind-preserved
loop-kind-preserved c = λ labels symbols n h.
    piece_more (counted_kind n labels symbols) c.args.text.now.items c.loop-kind.text.items c.put_kind.new.text.items c.args.kinds.now c.loop-kind.kind-index c.kind-item.result
    (c.loop-kind.invariant labels symbols n h) (c.in_ok-put_kind.ensures labels symbols n h) c.loop-kind-test.true c.kind-item.is

pub returns : goal.returns
returns c = λ labels symbols n h. pieces_all (counted_kind n labels symbols) c.args.text.now.items c.loop-kind.text.items c.args.kinds.now c.loop-kind.kind-index (c.loop-kind.invariant labels symbols n h) c.loop-kind-test.false
