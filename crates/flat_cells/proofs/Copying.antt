-- A list of a grid's cells that is filled tile by tile.
use Rattle.std.proofs.Common.{◌≡◌, ℕ, ◌+◌, ◌-◌, ◌*◌, ◌/◌, ◌%◌, ◌<◌, ◌≤◌, ◌⊎◌, inl, inr, length, take, drop, ◌++◌, None, refl, sym, ◌∙◌, ap, subst, arith, ⊎_elim}
use borrow.Rule.Slice.PartMut.{put_mid}
use Rattle.std.proofs.lemmas.Bool.{cases_lt}
use Rattle.std.proofs.lemmas.List.{ext_get_or, length-append, length-take, length-take-le, length-drop, get_or-take, get_or-drop, get_or_append_left, get_or-append_right}
use Rattle.map_nums.specs.Grids.{Size, IsSize, Cells, cells_in, cell_at, row_of}
use Rattle.layer_tiles.specs.Tiles.{tiles_in, tile_of, tile_start, tile_height, tile_width, tile_cells, tile_block, block_row}
use Rattle.layer_tiles.specs.Places.{IsPlaceOf}
use Rattle.layer_tiles.specs.declared.extents.Place.{Place}
use Rattle.layer_tiles.proofs.Strides.{get_or-strided, row_within}
use Rattle.layer_tiles.proofs.Places.{tile_strided}
use Rattle.layer_tiles.proofs.Rounds.{back}
use Rattle.flat_cells.specs.Copies.{HasTiles, HasRows}

-- ---- k cells of a list, from place a on, are replaced

module _ (a k : ℕ) (xs ys : Cells) (count : length ys ≡ k) (within : a + k ≤ length xs) where
  front : length (take a xs) ≡ a
  front = length-take-le a xs (omega arith)

  pub length-put : length (put_mid a k xs ys) ≡ length xs
  length-put = simp (length-append, length-take, length-drop) (omega arith)

  put_here : (j : ℕ) → j < k → cell_at (put_mid a k xs ys) (a + j) ≡ cell_at ys j
  put_here j l =
      let e : a + j - a ≡ j = omega arith in
      get_or-append_right (take a xs) (ys ++ drop k (drop a xs)) a (a + j) None front (omega arith)
      ∙ ap (λ i. cell_at (ys ++ drop k (drop a xs)) i) e
      ∙ get_or_append_left ys (drop k (drop a xs)) None j (omega arith)

  put_before : (i : ℕ) → i < a → cell_at (put_mid a k xs ys) i ≡ cell_at xs i
  put_before i l = get_or_append_left (take a xs) (ys ++ drop k (drop a xs)) None i (omega (arith, front)) ∙ get_or-take a xs i None l

  put_after : (i : ℕ) → a + k ≤ i → cell_at (put_mid a k xs ys) i ≡ cell_at xs i
  put_after i l =
      let e : a + (k + (i - a - k)) ≡ i = omega arith in
      get_or-append_right (take a xs) (ys ++ drop k (drop a xs)) a i None front (omega arith)
      ∙ get_or-append_right ys (drop k (drop a xs)) k (i - a) None count (omega arith)
      ∙ get_or-drop k (drop a xs) (i - a - k) None
      ∙ get_or-drop a xs (k + (i - a - k)) None
      ∙ ap (λ j. cell_at xs j) e

  -- right cells stay right, where those put are right
  pub right_stays : (cells : Cells) → ((j : ℕ) → j < k → cell_at ys j ≡ cell_at cells (a + j)) → (i : ℕ) → (cell_at xs i ≡ cell_at cells i) ⊎ ((a ≤ i) × (i < a + k)) → cell_at (put_mid a k xs ys) i ≡ cell_at cells i
  right_stays cells these i right =
      let old : (i < a) ⊎ (a + k ≤ i) → cell_at xs i ≡ cell_at cells i = λ o. ⊎_elim (λ e. e) (λ (b : (a ≤ i) × (i < a + k)). absurd (⊎_elim (λ (p : i < a). omega (arith, b.0)) (λ (p : a + k ≤ i). omega (arith, b.1)) o)) right in
      ⊎_elim
      (λ (l : i < a). put_before i l ∙ old (inl l))
      (λ (m : a ≤ i). ⊎_elim
      (λ (l : i < a + k).
      let e : a + (i - a) ≡ i = omega arith in
      ap (λ j. cell_at (put_mid a k xs ys) j) (sym e) ∙ put_here (i - a) (omega arith) ∙ these (i - a) (omega arith) ∙ ap (λ j. cell_at cells j) e)
      (λ (l : a + k ≤ i). put_after i l ∙ old (inr l))
      (cases_lt i (a + k)))
      (cases_lt i a)

-- ---- rows and tiles

-- where row r begins, as it is computed
pub start_is : (s extent : Size) (t r columns : ℕ) (p : Place) → extent ≡ s → IsPlaceOf extent t p → columns ≡ extent.columns → p.top * columns + p.left + r * columns ≡ tile_start s t + r * s.columns
unfolding tile_start
start_is s extent t r columns p same h e = rw (h.top, h.left, e, same) refl

module _ (s : Size) (cells : Cells) (t : ℕ) (size : IsSize s) (within : t < tiles_in s) where
  -- a row of the tile lies within the grid
  pub row_fits : (r : ℕ) → r < tile_height s t → tile_start s t + r * s.columns + tile_width s t ≤ cells_in s
  row_fits r l = row_within (cells_in s) (tile_start s t) s.columns (tile_height s t) (tile_width s t) r (tile_strided s t size within) l

  row_right : (r j : ℕ) → r < tile_height s t → j < tile_width s t → cell_at (block_row (tile_block s cells t) r) j ≡ cell_at cells (tile_start s t + r * s.columns + j)
  row_right r j l m =
      let w = tile_width s t in
      get_or-take w (drop (r * w) (tile_cells s cells t)) j None m
      ∙ get_or-drop (r * w) (tile_cells s cells t) j None
      ∙ get_or-strided cells (tile_start s t) s.columns (tile_height s t) w r j (r * w + j) None l m refl

  -- the next row is copied
  pub row_more : (r a k : ℕ) (copy row : Cells) → r < tile_height s t → a ≡ tile_start s t + r * s.columns → k ≡ tile_width s t → row ≡ block_row (tile_block s cells t) r → length row ≡ tile_width s t → HasRows s cells t r copy → HasRows s cells t (r + 1) (put_mid a k copy row)
  row_more r a k copy row l start width is count h =
      let fits : a + k ≤ length copy = omega (arith, row_fits r l, h.tiles.count) in
      let stays = right_stays a k copy row (count ∙ sym width) fits cells (λ j m. rw (is, start) (row_right r j l (omega (arith, width)))) in
      record {
        tiles = record {
          count = length-put a k copy row (count ∙ sym width) fits ∙ h.tiles.count;
          same = λ i m b. stays i (inl (h.tiles.same i m b));
        };
        rows = λ i m e b. ⊎_elim
            (λ (above : row_of s i % 32 < r). stays i (inl (h.rows i m e above)))
            (λ (there : r ≤ row_of s i % 32).
            let at = back s i size m in
            let this : row_of s i % 32 ≡ r = omega arith in
            let column : i % s.columns % 32 < tile_width s t = subst (λ u. i % s.columns % 32 < tile_width s u) e at.column in
            let place : tile_start s t + r * s.columns + i % s.columns % 32 ≡ i = rw (e, this) at at.place in
            stays i (inr (omega (arith, start), omega (arith, start, width))))
            (cases_lt (row_of s i % 32) r);
      }

  -- all its rows are copied
  pub rows_all : (r : ℕ) (copy : Cells) → tile_height s t ≤ r → HasRows s cells t r copy → HasTiles s cells (t + 1) copy
  rows_all r copy l h = record {
    count = h.tiles.count;
    same = λ i m b. ⊎_elim
        (λ (before : tile_of s i < t). h.tiles.same i m before)
        (λ (there : t ≤ tile_of s i).
        let e : tile_of s i ≡ t = omega arith in
        h.rows i m e (omega (arith, l, subst (λ u. i / s.columns % 32 < tile_height s u) e (back s i size m).row)))
        (cases_lt (tile_of s i) t);
  }

-- all tiles are copied
pub tiles_all : (s : Size) (cells : Cells) (n : ℕ) (copy : Cells) → IsSize s → length cells ≡ cells_in s → tiles_in s ≤ n → HasTiles s cells n copy → copy ≡ cells
tiles_all s cells n copy size count l h = ext_get_or None copy cells (h.count ∙ sym count) (λ i m. let w : i < cells_in s = omega (arith, h.count) in h.same i w (omega (arith, (back s i size w).tile)))
