use Rattle.std.proofs.Common.{map, set, sym, ap, ◌∙◌}
use Rattle.std.proofs.lemmas.List.{append-nil, take_all, drop_all}
use Rattle.std.proofs.lemmas.List.Edits.{map_over_more}
use Rattle.kept_map.specs.Lowering.{lowered}
use Rattle.kept_map.proofs.sources.lower_all.Goals as goal

pub loop-operand-preserved : goal.loop-operand-preserved
loop-operand-preserved c =
    let f = lowered c.args.place in
    let i = c.loop-operand.operand-index in
    ap (set c.loop-operand.operands i) (c.lower.ensures ∙ ap f (sym c.operand-item.is))
    ∙ map_over_more f c.args.operands.now c.loop-operand.operands i c.operand-item.result c.loop-operand-test.true c.loop-operand.invariant c.operand-item.is

pub returns : goal.returns
returns c =
    let old = c.args.operands.now in
    let i = c.loop-operand.operand-index in
    c.loop-operand.invariant ∙ rw (take_all i old c.loop-operand-test.false, drop_all i old c.loop-operand-test.false) (append-nil (map (lowered c.args.place) old))
