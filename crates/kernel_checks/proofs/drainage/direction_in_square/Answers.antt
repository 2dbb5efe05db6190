use Rattle.std.proofs.Common.{◌≡◌, ℕ, ◌/◌, ◌%◌, ◌<◌, ◌≤◌, true, pos, ◌+ℤ◌, sym, ◌∙◌, ap, subst, arith}
use Rattle.map_nums.specs.Grids.{Size, Cells, cells_in, gap, row_of, column_of, IsSize}
use Rattle.layer_tiles.specs.Tiles.{tile_of}
use Rattle.layer_tiles.specs.Windows.{WindowState, lends, span_of, window_of}
use Rattle.layer_tiles.proofs.Lent.{lent_near}
use Rattle.drainage_flow.specs.Around.{IsLentAround}
use Rattle.drainage_flow.proofs.Places.{place_lines}
use Rattle.kernel_checks.proofs.drainage.direction_in_square.Goals as goal

-- a window of three rows and columns lends each cell
each_lent : (s : Size) (i j : ℕ) → IsSize s → s.columns ≡ 3 → cells_in s ≡ 9 → i < 9 → j < 9 → lends (span_of s (tile_of s i) 64) s j ≡ true
each_lent s i j h three all li lj =
    let R : ℕ → Type 0 = λ w. gap (i / w) (j / w) ≤ 64 in
    let C : ℕ → Type 0 = λ w. gap (i % w) (j % w) ≤ 64 in
    lent_near s i j 64 h (omega (arith, all)) (omega (arith, all)) (subst R (sym three) (omega arith)) (subst C (sym three) (omega arith))

around_lent : (s : Size) (cells : Cells) (i : ℕ) → IsSize s → s.columns ≡ 3 → cells_in s ≡ 9 → i < 9 → IsLentAround (window_of s cells (tile_of s i) 64) i
around_lent s cells i h three all l = record {
  here = each_lent s i i h three all l l;
  around = λ o j _ moved.
      let on : j < cells_in s = (place_lines s (pos (row_of s i) +ℤ o.0) (pos (column_of s i) +ℤ o.1) j (omega (arith, three)) moved).2 in
      each_lent s i j h three all l (omega (arith, on, all));
}

pub direction-requires-clause-lent : goal.direction-requires-clause-lent
direction-requires-clause-lent c =
    let e = c.extent-extent.result in
    let cells = c.args.surface.now.cells in
    let i = c.args.at in
    let three : e.columns ≡ 3 = omega (arith, c.columns.ensures.columns, c.if-columns-ne3.false) in
    let few : c.cells.result ≡ 9 = omega (arith, c.if-cells-ne9.false) in
    let window : c.window-window.result ≡ window_of e cells (tile_of e i) 64 =
    c.window-window.ensures.window ∙ ap (λ (z : Size). window_of z cells c.tile_of-tile.result 64) (sym c.extent-extent.ensures.extent)
    ∙ ap (λ (k : ℕ). window_of e cells k 64) c.tile_of-tile.ensures in
    subst (λ (w : WindowState). IsLentAround w i) (sym window) (around_lent e cells i c.columns.ensures.size three (sym c.cells.ensures.cells ∙ few) c.if-at-ge9.false)
