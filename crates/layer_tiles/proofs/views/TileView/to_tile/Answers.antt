use Rattle.std.proofs.Common.{◌≡◌, ℕ, ◌*◌, ◌≤◌, ◌++◌, take, ap, refl, ◌∙◌, arith}
use Rattle.std.proofs.lemmas.Nat.{mul-le}
use Rattle.std.proofs.lemmas.List.{take_all}
use Rattle.map_nums.specs.Grids.{Cells}
use Rattle.layer_tiles.specs.Tiles.{Block, IsBlock}
use Rattle.layer_tiles.proofs.Lending.{rows_more}
use Rattle.layer_tiles.proofs.views.TileView.to_tile.Goals as goal

pub loop-r-preserved : goal.loop-r-preserved
loop-r-preserved c = rows_more c.args.self.now c.loop-r.r c.loop-r.cells.items c.extend_from_slice.new.self.items c.loop-r.invariant (c.in_ok-extend_from_slice.ensures.items ∙ ap (λ (xs : Cells). c.loop-r.cells.items ++ xs) c.row.ensures.row)

-- all rows were copied
whole : (b : Block) (r height : ℕ) (cells : Cells) → IsBlock b → height ≡ b.height → height ≤ r → cells ≡ take (r * b.width) b.cells → cells ≡ b.cells
whole b r height cells h e l is = is ∙ take_all (r * b.width) b.cells (omega (arith, h.count, mul-le b.height b.width r b.width (omega (arith, e, l)) (omega arith)))

pub of_rows-requires-clause-block : goal.of_rows-requires-clause-block
of_rows-requires-clause-block c =
    let b = c.args.self.now in
    let e = whole b c.loop-r.r c.height-height.result c.loop-r.cells.items c.height-height.ensures.block c.height-height.ensures.height c.loop-r-test.false c.loop-r.invariant in
    rw (c.height-height.ensures.height, c.width-width.ensures, e) c.height-height.ensures.block

pub of_rows-requires-clause-are_cells : goal.of_rows-requires-clause-are_cells
of_rows-requires-clause-are_cells c =
    let b = c.args.self.now in
    let e = whole b c.loop-r.r c.height-height.result c.loop-r.cells.items c.height-height.ensures.block c.height-height.ensures.height c.loop-r-test.false c.loop-r.invariant in
    rw (e) c.height-height.ensures.are_cells

pub returns : goal.returns
returns c =
    let b = c.args.self.now in
    let e = whole b c.loop-r.r c.height-height.result c.loop-r.cells.items c.height-height.ensures.block c.height-height.ensures.height c.loop-r-test.false c.loop-r.invariant in
    c.of_rows.ensures ∙ rw (c.height-height.ensures.height, c.width-width.ensures, e) refl
