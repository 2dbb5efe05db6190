use Rattle.std.proofs.Common.{◌≡◌, List, sym, subst, ◌∙◌}
use Rattle.map_nums.specs.Grids.{Size, IsSize}
use Rattle.layer_tiles.specs.Tiles.{Block, tile_height, tile_width}
use Rattle.layer_tiles.specs.PlaceByPlace.{IsPlacesAnswer}
use Rattle.layer_tiles.specs.Operands.{size_of}
use Rattle.tile_frame.specs.Frames.{by_row}
use Rattle.local_ops.specs.Operations.{op_of}
use Rattle.local_ops.specs.Operands.{blocks_of, cell_by, HaveSize}
use Rattle.local_ops.proofs.Lending.{size_first, blocks_sizes}
use Rattle.local_ops.proofs.LentRows.{local_answer}
use Rattle.local_ops.proofs.kernel.local_tile.Goals as goal
use Rattle.local_ops.proofs.kernel.local_tile.Goals.{After-deref}

-- the extent is the operands' size, and the lent tiles are theirs
extent_is : (g : _) (c : After-deref g) → c.extent-extent.result ≡ size_of c.args.operands.now
extent_is g c = c.extent-extent.ensures.extent ∙ size_first c.args.operands.now c.at-first.result.now c.at-first.ensures

views_are : (g : _) (c : After-deref g) → c.deref.result.now ≡ blocks_of (size_of c.args.operands.now) c.args.tile c.args.operands.now
views_are g c = c.deref.ensures.value ∙ c.in-Ok.ensures.views

pub tile_of_views-requires-clause-sizes : goal.tile_of_views-requires-clause-sizes
tile_of_views-requires-clause-sizes g c =
    let s = size_of c.args.operands.now in
    let t = c.args.tile in
    subst (λ (z : Size). HaveSize (tile_height z t) (tile_width z t) c.deref.result.now) (sym (extent_is g c))
    (subst (λ (blocks : List Block). HaveSize (tile_height s t) (tile_width s t) blocks) (sym (views_are g c)) (blocks_sizes s t c.args.operands.now))

pub returns-in-Ok-clause-answer : goal.returns-in-Ok-clause-answer
returns-in-Ok-clause-answer g c =
    let operands = c.args.operands.now in
    let op = op_of c.args.op.now in
    let s = size_of operands in
    let t = c.args.tile in
    let d = (goal.at.returns-in-Ok-clause-answer g c).After-deref in
    local_answer op operands s t c.tile_of_views.result
    (subst IsSize (size_first operands c.at-first.result.now c.at-first.ensures) c.extent-extent.ensures.size)
    c.requires.within
    (subst (λ (z : Size). IsPlacesAnswer (by_row (tile_width z t) (cell_by op (blocks_of s t operands))) z t c.tile_of_views.result) (extent_is g d)
    (subst (λ (blocks : List Block). IsPlacesAnswer (by_row (tile_width c.extent-extent.result t) (cell_by op blocks)) c.extent-extent.result t c.tile_of_views.result) (views_are g d) c.tile_of_views.ensures))
