-- A layer of which no tile changed is the same, and a tile that didn't change has the same cells.
use Rattle.std.proofs.Common.{◌≡◌, ℕ, zero, suc, ◌+◌, ◌*◌, ◌/◌, ◌%◌, ◌<◌, ◌≤◌, ◌==◌, Bool, true, false, not, cond, [], ◌∷◌, length, filter, get_or, Some, None, ◌⊎◌, inl, inr, refl, sym, ap, ◌∙◌, arith}
use Rattle.std.specs.List.{list_any, range_with_len}
use Rattle.std.proofs.lemmas.Bool.{true≢false, false≢true, or_left, or_right, cases_lt, eq-eqb, eqb-true}
use Rattle.std.proofs.lemmas.List.{ext_get_or}
use Rattle.map_nums.specs.Grids.{Size, IsSize, Cells, cell_at, cells_in}
use Rattle.map_nums.specs.Tiles.{tiles_in, tile_of, tile_start, tile_height, tile_width}
use Rattle.map_defs.specs.Cells.{same_cell}
use Rattle.map_defs.specs.Differences.{differs, tile_has, changed_tiles}
use Rattle.map_defs.proofs.RegionCells.{same_is, same_so}
use Rattle.layer_tiles.specs.Tiles.{tile_cells}
use Rattle.layer_tiles.proofs.Rounds.{back, here}
use Rattle.layer_tiles.proofs.Strides.{same_tile, get_or-strided}

none_in : (p : ℕ → Bool) (a n t : ℕ) → filter p (range_with_len a n) ≡ [] → a ≤ t → t < a + n → p t ≡ false
none_in p a zero t none low high = absurd (omega arith)
none_in p a (suc n) t none low high = go (p a) refl none (cases_lt a t) (none_in p (a + 1) n t)
  where
    go : (b : Bool) → p a ≡ b → cond b (a ∷ filter p (range_with_len (a + 1) n)) (filter p (range_with_len (a + 1) n)) ≡ [] → (a < t) ⊎ (t ≤ a)
        → (filter p (range_with_len (a + 1) n) ≡ [] → a + 1 ≤ t → t < a + 1 + n → p t ≡ false) → p t ≡ false
    go true e none cases rest = absurd cc
    go false e none (inl less) rest = rest none (omega arith) (omega arith)
    go false e none (inr more) rest = let same : t ≡ a = omega arith in ap p same ∙ e

any_in : (q d : ℕ → Bool) (a n i : ℕ) → a ≤ i → i < a + n → d i ≡ true → q i ≡ true → list_any q (filter d (range_with_len a n)) ≡ true
any_in q d a zero i low high e h = absurd (omega arith)
any_in q d a (suc n) i low high e h = go (d a) refl (cases_lt a i) (λ l m. any_in q d (a + 1) n i l m e h)
  where
    later : (b : Bool) → list_any q (filter d (range_with_len (a + 1) n)) ≡ true → list_any q (cond b (a ∷ filter d (range_with_len (a + 1) n)) (filter d (range_with_len (a + 1) n))) ≡ true
    later true rest = or_right (q a) (list_any q (filter d (range_with_len (a + 1) n))) rest
    later false rest = rest

    go : (b : Bool) → d a ≡ b → (a < i) ⊎ (i ≤ a) → (a + 1 ≤ i → i < a + 1 + n → list_any q (filter d (range_with_len (a + 1) n)) ≡ true)
        → list_any q (cond b (a ∷ filter d (range_with_len (a + 1) n)) (filter d (range_with_len (a + 1) n))) ≡ true
    go b is (inl less) rest = later b (rest (omega arith) (omega arith))
    go true is (inr more) rest = let same : a ≡ i = omega arith in or_left (q a) (list_any q (filter d (range_with_len (a + 1) n))) (ap q same ∙ h)
    go false is (inr more) rest = let same : i ≡ a = omega arith in absurd (false≢true (sym is ∙ ap d (sym same) ∙ e))

not_any_in : (q d : ℕ → Bool) (a n : ℕ) → ((i : ℕ) → i < a + n → d i ≡ true → q i ≡ false) → list_any q (filter d (range_with_len a n)) ≡ false
not_any_in q d a zero none = refl
not_any_in q d a (suc n) none = go (d a) refl (not_any_in q d (a + 1) n (λ i h e. none i (omega arith) e))
  where
    go : (b : Bool) → d a ≡ b → list_any q (filter d (range_with_len (a + 1) n)) ≡ false → list_any q (cond b (a ∷ filter d (range_with_len (a + 1) n)) (filter d (range_with_len (a + 1) n))) ≡ false
    go true e rest = rw (none a (omega arith) e) rest
    go false e rest = rest

not_not : (b : Bool) → not b ≡ false → b ≡ true
not_not true e = refl
not_not false e = absurd (true≢false e)

module _ (s : Size) (was now : Cells) (size : IsSize s) where
  -- ---- one tile

  tile_quiet : (i : ℕ) → i < cells_in s → tile_has s (differs was now) (tile_of s i) ≡ false → cell_at was i ≡ cell_at now i
  tile_quiet i within quiet = same_is (cell_at was i) (cell_at now i) (not_not (same_cell (cell_at was i) (cell_at now i)) (go (differs was now i) refl))
    where
      go : (b : Bool) → differs was now i ≡ b → differs was now i ≡ false
      go true e =
          let here : (tile_of s i == tile_of s i) ≡ true = eq-eqb (tile_of s i) (tile_of s i) refl in
          absurd (true≢false (sym (any_in (λ j. tile_of s j == tile_of s i) (differs was now) 0 (cells_in s) i (omega arith) (omega arith) e here) ∙ quiet))
      go false e = e

  pub same_of_quiet : (t : ℕ) → t < tiles_in s → tile_has s (differs was now) t ≡ false → tile_cells s was t ≡ tile_cells s now t
  same_of_quiet t within quiet = same_tile s was now t (λ r c p q.
      let h = here s t r c size within p q in
      tile_quiet (tile_start s t + r * s.columns + c) h.within (ap (tile_has s (differs was now)) h.tile ∙ quiet))

  pub cell_of_tile : (i : ℕ) → i < cells_in s → tile_cells s was (tile_of s i) ≡ tile_cells s now (tile_of s i) → cell_at was i ≡ cell_at now i
  cell_of_tile i within same =
      let b = back s i size within in
      let t = tile_of s i in
      let place = row * tile_width s t + column in
      let mine = get_or-strided was (tile_start s t) s.columns (tile_height s t) (tile_width s t) row column place None b.row b.column refl in
      let other = get_or-strided now (tile_start s t) s.columns (tile_height s t) (tile_width s t) row column place None b.row b.column refl in
      ap (λ j. get_or was j None) (sym b.place) ∙ sym mine ∙ ap (λ cs. get_or cs place None) same ∙ other ∙ ap (λ j. get_or now j None) b.place
    where
      row : ℕ
      row = i / s.columns % 32

      column : ℕ
      column = i % s.columns % 32

  pub quiet_of_same : (t : ℕ) → tile_cells s was t ≡ tile_cells s now t → tile_has s (differs was now) t ≡ false
  quiet_of_same t same = not_any_in (λ i. tile_of s i == t) (differs was now) 0 (cells_in s) (λ i within e. go i within e (tile_of s i == t) refl)
    where
      go : (i : ℕ) → i < 0 + cells_in s → differs was now i ≡ true → (b : Bool) → (tile_of s i == t) ≡ b → (tile_of s i == t) ≡ false
      go i within e false h = h
      go i within e true h =
          let here : tile_of s i ≡ t = eqb-true (tile_of s i) t h in
          let cell = cell_of_tile i (omega arith) (ap (tile_cells s was) here ∙ same ∙ ap (tile_cells s now) (sym here)) in
          absurd (true≢false (sym e ∙ ap not (same_so (cell_at was i) (cell_at now i) cell)))

  -- ---- all tiles

  cell_same : changed_tiles s (Some was) now ≡ [] → (i : ℕ) → i < cells_in s → cell_at was i ≡ cell_at now i
  unfolding changed_tiles
  cell_same none i within =
      let less : tile_of s i < tiles_in s = (back s i size within).tile in
      tile_quiet i within (none_in (tile_has s (differs was now)) 0 (tiles_in s) (tile_of s i) none (omega arith) (omega (arith, less)))

  pub unchanged : changed_tiles s (Some was) now ≡ [] → length was ≡ cells_in s → length now ≡ cells_in s → was ≡ now
  unchanged none n m = ext_get_or None was now (n ∙ sym m) (λ i h. cell_same none i (omega arith))
