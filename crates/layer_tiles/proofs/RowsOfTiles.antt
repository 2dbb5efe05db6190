-- A row of a grid, from the tiles that it crosses.
use Rattle.std.proofs.Common.{◌≡◌, ℕ, ◌+◌, ◌-◌, ◌*◌, ◌/◌, ◌%◌, ◌<◌, ◌≤◌, min, length, take, drop, refl, sym, ap, ◌∙◌, ◌++◌, arith, append_assoc, length-take, length-drop}
use Rattle.std.proofs.Math.Seq.{take-add}
use Rattle.std.proofs.lemmas.List.{drop-drop}
use Rattle.std.proofs.lemmas.Nat.{div-mul-add, mod-mul-add, mul-add-lt, mul-le}
use Rattle.map_nums.specs.Grids.{Size, IsSize, Cells, cells_in}
use Rattle.layer_tiles.specs.Tiles.{tiles_across, tiles_down, tiles_in, tile_top, tile_left, tile_height, tile_width, tile_start, tile_cells, IsStrided}
use Rattle.layer_tiles.proofs.Strides.{block_row-strided}
use Rattle.layer_tiles.proofs.Places.{tile_strided}

-- tile t is the k-th that row r crosses
pub record Crosses (s : Size) (r k t : ℕ) : Type 0 where
  pub within : t < tiles_in s
  pub row : r % 32 < tile_height s t
  pub left : 32 * k < s.columns
  pub width : tile_width s t ≡ min 32 (s.columns - 32 * k)
  pub start : tile_start s t + r % 32 * s.columns ≡ r * s.columns + 32 * k

pub few_tiles : (s : Size) (r across : ℕ) → IsSize s → r < s.rows → across ≡ tiles_across s → (r / 32 * across ≤ 16384) × (across ≤ 128)
unfolding tiles_across
few_tiles s r across h l e =
    let few : across ≤ 128 = omega (arith, h.most_columns) in
    (omega (arith, mul-le (r / 32) across 128 128 (omega (arith, h.most_rows)) few), few)

down_within : (s : Size) (r : ℕ) → r < s.rows → r / 32 < tiles_down s
unfolding tiles_down
down_within s r l = omega arith

across_within : (s : Size) (k : ℕ) → k < tiles_across s → 32 * k < s.columns
unfolding tiles_across
across_within s k m = omega arith

pub crosses : (s : Size) (r k : ℕ) → r < s.rows → k < tiles_across s → Crosses s r k (r / 32 * tiles_across s + k)
unfolding tile_top tile_left tile_height tile_width tile_start tiles_in
crosses s r k l m =
    let down = down_within s r l in
    let before = across_within s k m in
    let top = div-mul-add (r / 32) (tiles_across s) k m in
    let left = mod-mul-add (r / 32) (tiles_across s) k m in
    let rows : r * s.columns ≡ (32 * (r / 32) + r % 32) * s.columns = ap (λ n. n * s.columns) (omega arith) in
    record {
      within = omega (arith, mul-add-lt (r / 32) (tiles_across s) k (tiles_down s) down m);
      row = rw top (omega arith);
      left = before;
      width = rw left refl;
      start = rw (top, left) (omega arith);
    }

pub crosses_by : (s : Size) (r k across : ℕ) → across ≡ tiles_across s → r < s.rows → k < across → Crosses s r k (r / 32 * across + k)
crosses_by s r k across e l m = rw e (crosses s r k l (omega arith))

-- the tile's row is a part of the grid's
pub row-tile : (s : Size) (cells : Cells) (r k t : ℕ) → IsSize s → length cells ≡ cells_in s → Crosses s r k t → take (tile_width s t) (drop (r % 32 * tile_width s t) (tile_cells s cells t)) ≡ take (tile_width s t) (drop (r * s.columns + 32 * k) cells)
row-tile s cells r k t h n c =
    let strides : IsStrided (length cells) (tile_start s t) s.columns (tile_height s t) (tile_width s t) = rw n (tile_strided s t h c.within) in
    sym (block_row-strided cells (tile_start s t) s.columns (tile_height s t) (tile_width s t) (r % 32) strides c.row)
    ∙ ap (λ i. take (tile_width s t) (drop i cells)) c.start

-- one more tile
pub row-more : (s : Size) (cells row part : Cells) (r k t : ℕ) → IsSize s → length cells ≡ cells_in s → Crosses s r k t → row ≡ take (min (32 * k) s.columns) (drop (r * s.columns) cells) → part ≡ take (tile_width s t) (drop (r % 32 * tile_width s t) (tile_cells s cells t)) → row ++ part ≡ take (min (32 * (k + 1)) s.columns) (drop (r * s.columns) cells)
row-more s cells row part r k t h n c e p =
    let at : min (32 * k) s.columns ≡ 32 * k = omega (arith, c.left) in
    let next : min (32 * (k + 1)) s.columns ≡ 32 * k + tile_width s t = omega (arith, c.left, c.width) in
    rw (e, p, row-tile s cells r k t h n c, at, next, take-add, drop-drop) refl

-- the last tile ends the row
pub row_whole : (s : Size) (cells : Cells) (r k : ℕ) → k ≡ tiles_across s → take (min (32 * k) s.columns) (drop (r * s.columns) cells) ≡ take s.columns (drop (r * s.columns) cells)
unfolding tiles_across
row_whole s cells r k e = ap (λ n. take n (drop (r * s.columns) cells)) (omega arith)

-- no row is empty
pub row_some : (s : Size) (cells : Cells) (r : ℕ) → IsSize s → length cells ≡ cells_in s → r < s.rows → 0 < length (take s.columns (drop (r * s.columns) cells))
row_some s cells r h n l =
    let rest : r * s.columns + s.columns ≤ s.rows * s.columns = omega (arith, mul-le (r + 1) s.columns s.rows s.columns (omega arith) (omega arith)) in
    simp (length-take, length-drop) (omega (arith, h.some_column, n, rest))

-- behind the cells that are there
pub behind_more : (start now next part : Cells) (s : Size) (cells : Cells) (r k t : ℕ) → IsSize s → length cells ≡ cells_in s → Crosses s r k t → now ≡ start ++ take (min (32 * k) s.columns) (drop (r * s.columns) cells) → next ≡ now ++ part → part ≡ take (tile_width s t) (drop (r % 32 * tile_width s t) (tile_cells s cells t)) → next ≡ start ++ take (min (32 * (k + 1)) s.columns) (drop (r * s.columns) cells)
behind_more start now next part s cells r k t h n c e m p =
    let row = take (min (32 * k) s.columns) (drop (r * s.columns) cells) in
    m ∙ ap (λ l. l ++ part) e ∙ append_assoc start row part ∙ ap (λ l. start ++ l) (row-more s cells row part r k t h n c refl p)

-- all rows so far and the next one
pub rows_more : (s : Size) (cells now next : Cells) (r : ℕ) → now ≡ take (r * s.columns) cells → next ≡ now ++ take s.columns (drop (r * s.columns) cells) → next ≡ take ((r + 1) * s.columns) cells
rows_more s cells now next r e m =
    let further : (r + 1) * s.columns ≡ r * s.columns + s.columns = omega arith in
    m ∙ ap (λ l. l ++ take s.columns (drop (r * s.columns) cells)) e ∙ sym (ap (λ i. take i cells) further ∙ take-add (r * s.columns) s.columns cells)
