use Rattle.std.proofs.Common.{◌≡◌, refl, subst, ◌∙◌, IfOk}
use Rattle.layer_tiles.specs.Tiles.{Block, tile_start, tile_block}
use Rattle.layer_tiles.proofs.Lending.{lent_tile}
use Rattle.layer_tiles.proofs.cuts.cut.Goals as goal
use Rattle.layer_tiles.proofs.cuts.cut.Goals.{After-lend-lent}

pub lend-lent-requires : goal.lend-lent-requires
unfolding tile_start
lend-lent-requires c =
    let p = c.place-place.ensures.place in
    rw (p.top, p.left, p.height, p.width, c.columns-columns.ensures.columns)
    (lent_tile c.args.extent c.args.cells.now c.args.number c.place-place.ensures.size c.requires.within c.requires.count c.requires.are_cells)

-- the lent tile is that of the list
lent_is : (c : After-lend-lent) → c.lend-lent.result ≡ tile_block c.args.extent c.args.cells.now c.args.number
unfolding tile_start
lent_is c =
    let p = c.place-place.ensures.place in
    c.lend-lent.ensures ∙ rw (p.top, p.left, p.height, p.width, c.columns-columns.ensures.columns) refl

pub returns : goal.returns
returns c = subst (λ (b : Block). IfOk c.to_tile.result (λ t. t ≡ b)) (lent_is (goal.at.returns c).After-lend-lent) c.to_tile.ensures
