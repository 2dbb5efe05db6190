-- Rows of tiles, place by place.
use Rattle.std.proofs.Common.{◌≡◌, ℕ, ◌+◌, ◌-◌, ◌*◌, ◌/◌, ◌%◌, ◌<◌, ◌≤◌, min, get_or, length, Option, None, List, ℤ, refl, sym, ◌∙◌, ap, subst, arith, ⊎_elim, IsTrue, [], ◌∷◌, ◌++◌, below_more}
use Rattle.std.specs.List.{Contains}
use Rattle.std.proofs.lemmas.Bool.{cases_lt}
use Rattle.std.proofs.lemmas.Nat.{div_below, mod_below, mul-le, div-add-mod'}
use Rattle.map_nums.specs.Grids.{Size, IsSize, Cells, cells_in}
use Rattle.layer_tiles.specs.Tiles.{tiles_across, tiles_down, tiles_in, tile_of, tile_cells, tile_start, tile_height, tile_width}
use Rattle.layer_tiles.specs.Runs.{run_length}
use Rattle.layer_tiles.specs.Changes.{ChangeState, cells_before}
use Rattle.layer_tiles.specs.ChangeFacts.{IsChange}
use Rattle.layer_tiles.specs.Windows.{WindowState, window_of, span_of, lends}
use Rattle.sight_lines.specs.Searches.{AreSlots, IsSlot, band_start}
use Rattle.std.proofs.lemmas.List.{get_or_default, get_or_append_left, get_or-append_right}
use Rattle.layer_tiles.proofs.Places.{across_is}
use Rattle.layer_tiles.proofs.Rounds.{back}
use Rattle.layer_tiles.proofs.Runs.{along, run_length_is}
use Rattle.layer_tiles.proofs.Lent.{lent_near}
use Rattle.layer_tiles.proofs.Strides.{get_or-strided}

-- a row of tiles that is there begins on the map
pub band_row : (s : Size) (band : ℕ) → band < tiles_down s → band * 32 < s.rows
unfolding tiles_down
band_row s band h = omega arith

pub last_band : (s : Size) (band : ℕ) → tiles_down s ≤ band → s.rows ≤ band * 32
unfolding tiles_down
last_band s band h = omega arith

-- its tiles are there
pub band_tile : (s : Size) (band k : ℕ) → band < tiles_down s → k < tiles_across s → band * tiles_across s + k < tiles_in s
unfolding tiles_in
band_tile s band k h l = omega (arith, mul-le (band + 1) (tiles_across s) (tiles_down s) (tiles_across s) (omega arith) (omega arith))

-- where a place of a row of tiles lies
pub record IsInBand (s : Size) (band at : ℕ) : Type 0 where
  pub within : at < cells_in s
  pub column : at % s.columns / 32 < tiles_across s
  pub tile : tile_of s at ≡ band * tiles_across s + at % s.columns / 32
  pub some : 0 < run_length s at
  pub stays : at + run_length s at ≤ min s.rows (band * 32 + 32) * s.columns

pub in_band : (s : Size) (band at : ℕ) → IsSize s → band * 32 * s.columns ≤ at → at < min s.rows (band * 32 + 32) * s.columns → IsInBand s band at
unfolding tile_of
in_band s band at h low high =
    let e = div-add-mod' at s.columns in
    let c : at % s.columns < s.columns = mod_below at s.columns h.some_column in
    let r : at / s.columns < min s.rows (band * 32 + 32) = div_below at s.columns (min s.rows (band * 32 + 32)) h.some_column high in
    let z = run_length_is s at h in
    let down : band * 32 ≤ at / s.columns =
    ⊎_elim
    (λ (l : at / s.columns < band * 32). absurd (omega (arith, low, e, c, mul-le (at / s.columns + 1) s.columns (band * 32) s.columns (omega (arith, l)) (omega arith))))
    (λ (l : band * 32 ≤ at / s.columns). l)
    (cases_lt (at / s.columns) (band * 32)) in
    let row : at / s.columns / 32 ≡ band = omega (arith, r, down) in
    record {
      within = omega (arith, high, mul-le (min s.rows (band * 32 + 32)) s.columns s.rows s.columns (omega arith) (omega arith));
      column = omega (arith, across_is s, c);
      tile = rw (row) refl;
      some = z.some;
      stays = omega (arith, e, z.in_row, mul-le (at / s.columns + 1) s.columns (min s.rows (band * 32 + 32)) s.columns (omega (arith, r)) (omega arith));
    }

-- a tile that is lent alone lends its own cells
pub lent_here : (s : Size) (at : ℕ) → IsSize s → at < cells_in s → IsTrue (lends (span_of s (tile_of s at) 0) s at)
lent_here s at h l = lent_near s at at 0 h l l (omega arith) (omega arith)

-- ---- cells of a tile that stays

cell_kept : (s : Size) (before after : Cells) (i : ℕ) → IsSize s → i < cells_in s → tile_cells s before (tile_of s i) ≡ tile_cells s after (tile_of s i) → get_or before i None ≡ get_or after i None
cell_kept s before after i h l e =
    let b = back s i h l in
    let t = tile_of s i in
    let r = i / s.columns % 32 in
    let c = i % s.columns % 32 in
    let k = r * tile_width s t + c in
    sym (ap (λ j. get_or before j None) b.place)
    ∙ sym (get_or-strided before (tile_start s t) s.columns (tile_height s t) (tile_width s t) r c k None b.row b.column refl)
    ∙ ap (λ (xs : Cells). get_or xs k None) e
    ∙ get_or-strided after (tile_start s t) s.columns (tile_height s t) (tile_width s t) r c k None b.row b.column refl
    ∙ ap (λ j. get_or after j None) b.place

pub run_kept : (c : ChangeState) (at : ℕ) → IsChange c → at < cells_in c.size → (¬ Contains c.touched (tile_of c.size at)) → (i : ℕ) → at ≤ i → i < at + run_length c.size at → get_or (cells_before c) i None ≡ get_or c.cells i None
run_kept c at h l free i low high =
    let k = i - at in
    let a = along c.size at k h.size l (omega arith) in
    let e : at + k ≡ i = omega arith in
    let stays = h.kept (tile_of c.size at) (back c.size at h.size l).tile free in
    let there : tile_cells c.size (cells_before c) (tile_of c.size (at + k)) ≡ tile_cells c.size c.cells (tile_of c.size (at + k)) = rw (a.tile) stays in
    subst (λ (j : ℕ). get_or (cells_before c) j None ≡ get_or c.cells j None) e (cell_kept c.size (cells_before c) c.cells (at + k) h.size a.within there)

pub run_stays : (s : Size) (at : ℕ) → IsSize s → at < cells_in s → at + run_length s at ≤ cells_in s
run_stays s at h l =
    let z = run_length_is s at h in
    let a = along s at (run_length s at - 1) h l (omega (arith, z.some)) in
    omega (arith, a.within, z.some)

-- ---- what the search reads

pub in_band_of : (s : Size) (band at rows columns most : ℕ) → IsSize s → rows ≡ s.rows → columns ≡ s.columns → most ≡ min rows (band * 32 + 32) → band * 32 * s.columns ≤ at → at < most * columns → IsInBand s band at
in_band_of s band at rows columns most h r c m low test =
    let e : most * columns ≡ min s.rows (band * 32 + 32) * s.columns = ap (λ n. most * n) c ∙ ap (λ n. n * s.columns) (m ∙ ap (λ n. min n (band * 32 + 32)) r) in
    in_band s band at h low (omega (arith, test, e))

pub slot_there : (kept : List (ℕ × ℤ)) (c : ChangeState) (band at columns : ℕ) (slots : List (Option WindowState)) (slot : Option WindowState) → AreSlots kept c band slots → IsInBand c.size band at → columns ≡ c.size.columns → slot ≡ get_or slots (at % columns / 32) slot → IsSlot kept c (tile_of c.size at) slot
slot_there kept c band at columns slots slot a b e is =
    let k = at % c.size.columns / 32 in
    let lt : k < length slots = omega (arith, a.count, b.column) in
    let same : slot ≡ get_or slots k None = is ∙ ap (λ n. get_or slots (at % n / 32) slot) e ∙ get_or_default slots k slot None lt in
    subst (λ (o : Option WindowState). IsSlot kept c (tile_of c.size at) o) (sym same)
    (subst (λ (t : ℕ). IsSlot kept c t (get_or slots k None)) (sym b.tile) (a.each k b.column))

pub slot_lent : (s : Size) (cells : Cells) (at : ℕ) (w : WindowState) → w ≡ window_of s cells (tile_of s at) 0 → IsSize s → at < cells_in s → IsTrue (lends w.span w.size at)
slot_lent s cells at w e h l = subst (λ (v : WindowState). IsTrue (lends v.span v.size at)) (sym e) (lent_here s at h l)

pub band_begins : (s : Size) (band : ℕ) → band < tiles_down s → band_start s band ≡ band * 32 * s.columns
band_begins s band h = let e : min s.rows (band * 32) ≡ band * 32 = omega (arith, band_row s band h) in ap (λ n. n * s.columns) e

pub all_bands : (s : Size) (band : ℕ) → tiles_down s ≤ band → band_start s band ≡ cells_in s
all_bands s band h = let e : min s.rows (band * 32) ≡ s.rows = omega (arith, last_band s band h) in ap (λ n. n * s.columns) e

pub band_tiles : (s : Size) (band : ℕ) → band ≤ tiles_down s → band * tiles_across s ≤ tiles_in s
unfolding tiles_in
band_tiles s band h = mul-le band (tiles_across s) (tiles_down s) (tiles_across s) h (omega arith)

pub few_across : (s : Size) → IsSize s → tiles_across s ≤ 128
few_across s h = omega (arith, across_is s, h.most_columns)

pub few_tiles : (s : Size) (band : ℕ) → IsSize s → band < tiles_down s → band * tiles_across s ≤ 16384
few_tiles s band h l = omega (arith, mul-le band (tiles_across s) 128 128 (omega (arith, band_row s band l, h.most_rows)) (few_across s h))

-- one more slot
pub slots_more : (P : ℕ → Option WindowState → Type 0) (old new : List (Option WindowState)) (x : Option WindowState) (k : ℕ) → new ≡ old ++ x ∷ [] → length old ≡ k → ((j : ℕ) → j < k → P j (get_or old j None)) → P k x → (j : ℕ) → j < k + 1 → P j (get_or new j None)
slots_more P old new x k e n h p =
    below_more _ _
    (λ j l.
    let same : get_or new j None ≡ get_or old j None = ap (λ xs. get_or xs j None) e ∙ get_or_append_left old (x ∷ []) None j (omega (arith, n)) in
    subst (P j) (sym same) (h j l))
    (let z : k - k ≡ 0 = omega arith in
    let last : get_or new k None ≡ x = ap (λ xs. get_or xs k None) e ∙ get_or-append_right old (x ∷ []) k k None n (omega arith) ∙ ap (λ i. get_or (x ∷ []) i None) z in
    subst (P k) (sym last) p)
