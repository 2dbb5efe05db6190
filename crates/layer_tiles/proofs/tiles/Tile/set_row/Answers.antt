use Rattle.std.proofs.Common.{◌*◌, ◌∙◌, ap, length, subst, sym}
use Rattle.map_nums.specs.Grids.{Cells}
use Rattle.layer_tiles.specs.Cells.{AreCells}
use Rattle.layer_tiles.proofs.SetRows.{lent_whole, AreCells-put, IsBlock-put}
use Rattle.layer_tiles.proofs.tiles.Tile.set_row.Goals as goal

pub invariant_of-self : goal.invariant_of-self
invariant_of-self c =
    let t = c.self.inside in
    let lent = c.deref_mut.ensures.value in
    let put = c.put_cells.ensures in
    rw (lent_whole t.cells.len t.cells.items c.deref_mut.result.now c.put_cells.new.list t.cells.ok.0 lent put.count) (
      IsBlock-put t.height t.width t.cells.items c.put_cells.new.list c.self.invariant.0 (put.count ∙ ap length lent),
      AreCells-put (c.args.r * t.width) c.args.cells.now c.deref_mut.result.now c.put_cells.new.list c.are_cells.ensures (subst (λ (xs : Cells). AreCells xs) (sym lent) c.self.invariant.1) put,
    )
