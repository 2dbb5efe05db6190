use Rattle.std.proofs.Common.{None, ◌∙◌, subst, below_more, arith}
use Rattle.std.proofs.lemmas.List.{get_or_default}
use Rattle.layer_tiles.specs.Cells.{IsCell}
use Rattle.layer_tiles.proofs.Ranged.{AreCells-from}
use Rattle.layer_tiles.proofs.cells.are_cells.Goals as goal

pub loop-cell-preserved : goal.loop-cell-preserved
loop-cell-preserved c =
    below_more _ _ c.loop-cell.invariant
    (subst (λ x. IsCell x) (c.cell-item.is ∙ get_or_default c.args.cells.now c.loop-cell.cell-index c.cell-item.result None c.loop-cell-test.true) c.get-value.ensures.cell)

pub returns : goal.returns
returns c = AreCells-from c.args.cells.now (λ i l. c.loop-cell.invariant i (omega (arith, l, c.loop-cell-test.false)))
