use Rattle.std.proofs.Common.{◌≡◌, ℕ, ◌+◌, ◌*◌, ◌/◌, ◌%◌, ◌<◌, ◌≤◌, sym, ◌∙◌, ap, subst, arith}
use Rattle.map_nums.specs.Grids.{Size, Cells, cells_in, gap, IsSize}
use Rattle.layer_tiles.specs.Tiles.{tile_of}
use Rattle.layer_tiles.specs.Windows.{WindowState, window_of}
use Rattle.layer_tiles.proofs.Lent.{lent_near}
use Rattle.sight_lines.specs.Lent.{AreLent}
use Rattle.kernel_checks.proofs.sight.sees_in_row.Goals as goal

-- a window round a cell of a row of five lends the whole row
row_lent : (s : Size) (cells : Cells) (v t : ℕ) → IsSize s → s.columns ≡ 5 → cells_in s ≡ 5 → v < 5 → t < 5 → AreLent (window_of s cells (tile_of s v) 64) s.columns (v / s.columns) (v % s.columns) (t / s.columns) (t % s.columns)
row_lent s cells v t h five all lv lt =
    let P : ℕ → Type 0 = λ w. AreLent (window_of s cells (tile_of s v) 64) w (v / w) (v % w) (t / w) (t % w) in
    let R : ℕ → ℕ → Type 0 = λ at w. gap (v / w) (at / w) ≤ 64 in
    let C : ℕ → ℕ → Type 0 = λ at w. gap (v % w) (at % w) ≤ 64 in
    subst P (sym five) (λ r c a b d e. (
      omega (arith, all),
      lent_near s v (r * 5 + c) 64 h (omega (arith, all)) (omega (arith, all))
          (subst (R (r * 5 + c)) (sym five) (omega arith))
          (subst (C (r * 5 + c)) (sym five) (omega arith)),
    ))

pub sees-requires-clause-lent : goal.sees-requires-clause-lent
sees-requires-clause-lent c =
    let e = c.extent-extent.result in
    let cells = c.args.heights.now.cells in
    let v = c.args.viewer in
    let t = c.args.target in
    let five : e.columns ≡ 5 = omega (arith, c.columns.ensures.columns, c.if-columns-ne5.false) in
    let few : c.cells.result ≡ 5 = omega (arith, c.if-cells-ne5.false) in
    let window : c.window-window.result ≡ window_of e cells (tile_of e v) 64 =
    c.window-window.ensures.window ∙ ap (λ (z : Size). window_of z cells c.tile_of-tile.result 64) (sym c.extent-extent.ensures.extent)
    ∙ ap (λ (k : ℕ). window_of e cells k 64) c.tile_of-tile.ensures in
    subst (λ (w : WindowState). AreLent w e.columns (v / e.columns) (v % e.columns) (t / e.columns) (t % e.columns)) (sym window)
    (row_lent e cells v t c.columns.ensures.size five (sym c.cells.ensures.cells ∙ few) c.if-viewer-ge5.false c.if-target-ge5.false)
