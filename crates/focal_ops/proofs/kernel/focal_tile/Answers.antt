use Rattle.std.proofs.Common.{◌≡◌, ℕ, ◌+◌, ◌*◌, ◌≤◌, length, ap, subst, sym, arith}
use Rattle.map_nums.specs.Grids.{Size, Cells}
use Rattle.map_nums.specs.Stats.{statistic_of}
use Rattle.map_defs.specs.Focal.{focal_grid, focal_at, offsets_of}
use Rattle.layer_tiles.specs.Tiles.{Block, tile_width}
use Rattle.layer_tiles.specs.Windows.{WindowState}
use Rattle.layer_tiles.specs.Tallies.{TallyState, RisesBy, looked}
use Rattle.layer_tiles.specs.PlaceByPlace.{IsPlacesAnswer}
use Rattle.layer_tiles.proofs.Lent.{tiles_lent-few}
use Rattle.layer_tiles.proofs.Rising.{rises_none, rises_looked, rises_within}
use Rattle.near_cells.specs.Near.{IsNear}
use Rattle.tile_frame.specs.Frames.{by_row}
use Rattle.tile_frame.proofs.Answering.{grid_answer}
use Rattle.focal_ops.specs.Masks.{statistic_round}
use Rattle.focal_ops.proofs.Round.{focal_numbers_are}
use Rattle.focal_ops.proofs.kernel.focal_tile.Goals as goal

nine : (n : ℕ) (a b : TallyState) → n ≤ 9 → b ≡ looked n a → RisesBy 9 0 a b
nine n a b l e = rises_within (0 + n) 0 9 0 a b (omega arith) (omega arith) (rises_looked 0 0 n a a b (rises_none a) e)

counted : (b : Block) (h w : ℕ) (cells : Cells) → b ≡ record { height = h; width = w; cells = cells } → length cells ≡ h * w → length b.cells ≡ b.height * b.width
counted b h w cells e f = rw (e) f

pub returns-clause-tally : goal.returns-clause-tally
returns-clause-tally g c = nine _ _ _ (tiles_lent-few c.args.of.now.size c.args.tile c.mask_of-mask.result.reach c.extent-extent.ensures.size c.requires.within c.mask_of-mask.ensures.has.few) c.window-window.ensures.looks

pub returns-in_default-clause-tally : goal.returns-in_default-clause-tally
returns-in_default-clause-tally g c = nine _ _ _ (tiles_lent-few c.args.of.now.size c.args.tile c.mask_of-mask.result.reach c.extent-extent.ensures.size c.requires.within c.mask_of-mask.ensures.has.few) c.window-window.ensures.looks

pub tile_of_near-requires-clause-near : goal.tile_of_near-requires-clause-near
tile_of_near-requires-clause-near g c = record {
  height = c.in-Ok.ensures.height;
  width = c.in-Ok.ensures.width;
  count = counted c.in-Ok.near _ _ _ (sym c.near.view_is) c.near.invariant;
}

pub returns-clause-answer : goal.returns-clause-answer
unfolding focal_grid
returns-clause-answer g c =
    let s = c.args.of.now.size in
    let cells = c.args.of.now.cells in
    let t = c.args.tile in
    let m = c.mask_of-mask.result in
    let e = c.extent-extent.ensures.extent in
    let b = c.in-Ok.near in
    let size = c.extent-extent.ensures.size in
    let round = statistic_round c.args.stat m.reach m.halves b.cells b.width in
    let near : IsNear s cells t m.reach b = subst (λ (z : Size). IsNear z cells t m.reach b) e (subst (λ (w : WindowState). IsNear c.extent-extent.result w.cells t m.reach b) c.window-window.ensures.window c.in-Ok.ensures) in
    let count = counted b _ _ _ (sym c.near.view_is) c.near.invariant in
    grid_answer s t round (focal_at c.args.stat (offsets_of c.args.radius) s cells) c.tile_of_near.result size c.requires.within
    (λ r k p q. ap (statistic_of c.args.stat) (focal_numbers_are (offsets_of c.args.radius) s cells t m.reach m.halves b r k size c.requires.within near count c.mask_of-mask.ensures p q))
    (subst (λ (z : Size). IsPlacesAnswer (by_row (tile_width z t) round) z t c.tile_of_near.result) e c.tile_of_near.ensures)
