use Rattle.std.proofs.Common.{subst}
use Rattle.layer_tiles.specs.Cells.{AreCells}
use Rattle.layer_tiles.specs.Tiles.{Block, IsBlock}
use Rattle.layer_tiles.proofs.Lending.{lent_block}
use Rattle.layer_tiles.proofs.Ranged.{AreCells-strided}
use Rattle.layer_tiles.proofs.views.TileView.height.Goals as goal

pub returns-clause-block : goal.returns-clause-block
returns-clause-block c = let v = c.self.inside in subst (λ (b : Block). IsBlock b) c.self.view_is (lent_block v.cells.now v.start v.stride v.height v.width c.self.invariant)

pub returns-clause-are_cells : goal.returns-clause-are_cells
returns-clause-are_cells c = let v = c.self.inside in subst (λ (b : Block). AreCells b.cells) c.self.view_is (AreCells-strided v.cells.now v.start v.stride v.height v.width c.self.invariant.are_cells)
