use Rattle.std.proofs.Common.{◌≡◌, ℕ, ◌+◌, ◌≤◌, subst, arith}
use Rattle.map_nums.specs.Grids.{Size}
use Rattle.map_defs.specs.Incremental.{form_grid, form_at}
use Rattle.layer_tiles.specs.Tiles.{tile_width}
use Rattle.layer_tiles.specs.Windows.{WindowState}
use Rattle.layer_tiles.specs.Tallies.{TallyState, RisesBy, looked}
use Rattle.layer_tiles.specs.PlaceByPlace.{IsPlacesAnswer}
use Rattle.layer_tiles.proofs.Lent.{tiles_lent-few}
use Rattle.layer_tiles.proofs.Rising.{rises_none, rises_looked, rises_within}
use Rattle.tile_frame.specs.Frames.{by_row}
use Rattle.tile_frame.proofs.Answering.{grid_answer}
use Rattle.near_cells.specs.Near.{IsNear}
use Rattle.incremental_ops.specs.Shapes.{form_of, shape_round}
use Rattle.incremental_ops.proofs.Nearby.{shape_is}
use Rattle.incremental_ops.proofs.kernel.shape_tile.Goals as goal

nine : (n : ℕ) (a b : TallyState) → n ≤ 9 → b ≡ looked n a → RisesBy 9 0 a b
nine n a b l e = rises_within (0 + n) 0 9 0 a b (omega arith) (omega arith) (rises_looked 0 0 n a a b (rises_none a) e)

pub returns-clause-tally : goal.returns-clause-tally
returns-clause-tally g c = nine _ _ _ (tiles_lent-few c.args.of.now.size c.args.tile 1 c.extent-extent.ensures.size c.requires.within (omega arith)) c.window-window.ensures.looks

pub returns-in_default-clause-tally : goal.returns-in_default-clause-tally
returns-in_default-clause-tally g c = nine _ _ _ (tiles_lent-few c.args.of.now.size c.args.tile 1 c.extent-extent.ensures.size c.requires.within (omega arith)) c.window-window.ensures.looks

pub returns-clause-answer : goal.returns-clause-answer
unfolding form_grid
returns-clause-answer g c =
    let s = c.args.of.now.size in
    let cells = c.args.of.now.cells in
    let t = c.args.tile in
    let e = c.extent-extent.ensures.extent in
    let round = shape_round c.args.shape c.in-Ok.near in
    let near : IsNear s cells t 1 c.in-Ok.near = subst (λ (z : Size). IsNear z cells t 1 c.in-Ok.near) e (subst (λ (w : WindowState). IsNear c.extent-extent.result w.cells t 1 c.in-Ok.near) c.window-window.ensures.window c.in-Ok.ensures) in
    grid_answer s t round (form_at (form_of c.args.shape) s cells) c.tile_of_near.result c.extent-extent.ensures.size c.requires.within
    (λ r k p q. shape_is s cells t c.in-Ok.near r k near c.extent-extent.ensures.size c.requires.within p q c.args.shape)
    (subst (λ (z : Size). IsPlacesAnswer (by_row (tile_width z t) round) z t c.tile_of_near.result) e c.tile_of_near.ensures)
