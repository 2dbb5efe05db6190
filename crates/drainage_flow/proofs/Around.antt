-- The cells round one, as rows have them, and its direction.
use Rattle.std.proofs.Common.{◌≡◌, ℕ, zero, suc, ◌+◌, ◌<◌, ◌≤◌, get_or, length, [], ◌∷◌, Option, Some, None, refl, sym, ◌∙◌, ap, arith, ℤ, pos, ◌+ℤ◌, true, false, subst}
use Rattle.std.specs.Prelude.{option_map, not, IfSome, Result}
use Rattle.std.proofs.lemmas.List.FromFn.{get_or-map-range_with_len}
use Rattle.std.proofs.lemmas.Int.{ints}
use Rattle.std.proofs.lemmas.List.{get_or_default}
use Rattle.std.proofs.lemmas.Nat.{div_below, mod_below, div-add-mod'}
use Rattle.map_nums.specs.Grids.{Size, IsSize, Cells, cell_at, cell_there, near, cells_in, row_of, column_of}
use Rattle.map_nums.specs.Numbers.{is_value}
use Rattle.map_nums.proofs.Ranges.{in_range_from_magnitude}
use Rattle.map_nums.specs.Grids.{grid_by}
use Rattle.map_nums.specs.Answers.{is_wide}
use Rattle.map_defs.specs.Drainage.{direction_at, direction_grid, direction_of, winner_at}
use Rattle.layer_tiles.specs.Answers.{IsTileAnswer, IsLeastWide}
use Rattle.layer_tiles.specs.declared.kernels.KernelRefusal.{KernelRefusal}
use Rattle.tile_frame.specs.Frames.{by_row}
use Rattle.tile_frame.proofs.Answering.{grid_answer}
use Rattle.layer_tiles.specs.Tiles.{Block, block_row, tiles_in, tile_height, tile_width}
use Rattle.layer_tiles.specs.PlaceByPlace.{cell_in, IsPlacesAnswer}
use Rattle.layer_tiles.proofs.Rounds.{here}
use Rattle.near_cells.specs.Near.{IsNear}
use Rattle.near_cells.proofs.Places.{near_row}
use Rattle.drainage_flow.specs.Steepest.{offset_at, AreAround}
use Rattle.drainage_flow.specs.Around.{AreRowsRound}
use Rattle.drainage_flow.proofs.Places.{line_some, place_some}
use Rattle.drainage_flow.proofs.Steepest.{winner_few}

-- ---- rows

near_self : (s : Size) (surface : Cells) (i : ℕ) → IsSize s → i < cells_in s → near s surface i (pos 0, pos 0) ≡ cell_at surface i
near_self s surface i size l =
    let row : row_of s i < s.rows = div_below i s.columns s.rows size.some_column l in
    let column : column_of s i < s.columns = mod_below i s.columns size.some_column in
    let q = place_some s (pos (row_of s i) +ℤ pos 0) (pos (column_of s i) +ℤ pos 0) (row_of s i) (column_of s i) (sym (line_some (pos (row_of s i) +ℤ pos 0) s.rows (row_of s i) (omega (arith, ints)) row)) (sym (line_some (pos (column_of s i) +ℤ pos 0) s.columns (column_of s i) (omega (arith, ints)) column)) in
    ap (cell_there surface) q ∙ ap (cell_at surface) (div-add-mod' i s.columns)

pub rows_round : (s : Size) (surface : Cells) (t r c : ℕ) (b : Block) (over own under : Cells) → IsNear s surface t 1 b → IsSize s → t < tiles_in s → r < tile_height s t → c < tile_width s t → over ≡ block_row b r → own ≡ block_row b (r + 1) → under ≡ block_row b (r + 2) → length over ≡ b.width → length own ≡ b.width → length under ≡ b.width → AreRowsRound s surface (cell_in s t r c) over own under c
rows_round s surface t r c b over own under n size within p q eo ew eu lo lw lu = record {
  above_within = omega (arith, n.width, lo, q);
  here_within = omega (arith, n.width, lw, q);
  below_within = omega (arith, n.width, lu, q);
  own = ap (λ (xs : Cells). cell_at xs (c + 1)) ew ∙ near_row s surface t 1 r c 1 1 b n size within p q (omega arith) (omega arith) ∙ near_self s surface (cell_in s t r c) size (here s t r c size within p q).within;
  above_is = λ j l. ap (λ (xs : Cells). cell_at xs (c + j)) eo ∙ ap (λ (n : ℕ). cell_at (block_row b n) (c + j)) (omega arith) ∙ near_row s surface t 1 r c 0 j b n size within p q (omega arith) (omega arith);
  here_is = λ j l. ap (λ (xs : Cells). cell_at xs (c + j)) ew ∙ near_row s surface t 1 r c 1 j b n size within p q (omega arith) (omega arith);
  below_is = λ j l. ap (λ (xs : Cells). cell_at xs (c + j)) eu ∙ near_row s surface t 1 r c 2 j b n size within p q (omega arith) (omega arith);
}

pub read : (xs : Cells) (i : ℕ) (x : Option ℤ) → x ≡ get_or xs i x → i < length xs → x ≡ get_or xs i None
read xs i x e h = e ∙ get_or_default xs i x None h

-- eight cells of three rows
pub round_rows : (s : Size) (surface : Cells) (i c : ℕ) (over own under : Cells) (n ne e se so sw w nw : Option ℤ) → AreRowsRound s surface i over own under c → n ≡ get_or over (c + 1) n → ne ≡ get_or over (c + 2) ne → e ≡ get_or own (c + 2) e → se ≡ get_or under (c + 2) se → so ≡ get_or under (c + 1) so → sw ≡ get_or under c sw → w ≡ get_or own c w → nw ≡ get_or over c nw → AreAround s surface i (n ∷ ne ∷ e ∷ se ∷ so ∷ sw ∷ w ∷ nw ∷ [])
round_rows s surface i c over own under n ne e se so sw w nw h en ene ee ese eso esw ew enw = record { each = each }
  where
    start : (xs : Cells) → get_or xs c None ≡ cell_at xs (c + 0)
    start xs = ap (cell_at xs) (omega arith)

    each : (k : ℕ) → k < 8 → cell_at (n ∷ ne ∷ e ∷ se ∷ so ∷ sw ∷ w ∷ nw ∷ []) k ≡ near s surface i (offset_at k)
    each zero l = read over (c + 1) n en (omega (arith, h.above_within)) ∙ h.above_is 1 (omega arith)
    each (suc zero) l = read over (c + 2) ne ene (omega (arith, h.above_within)) ∙ h.above_is 2 (omega arith)
    each (suc (suc zero)) l = read own (c + 2) e ee (omega (arith, h.here_within)) ∙ h.here_is 2 (omega arith)
    each (suc (suc (suc zero))) l = read under (c + 2) se ese (omega (arith, h.below_within)) ∙ h.below_is 2 (omega arith)
    each (suc (suc (suc (suc zero)))) l = read under (c + 1) so eso (omega (arith, h.below_within)) ∙ h.below_is 1 (omega arith)
    each (suc (suc (suc (suc (suc zero))))) l = read under c sw esw (omega (arith, h.below_within)) ∙ start under ∙ h.below_is 0 (omega arith)
    each (suc (suc (suc (suc (suc (suc zero)))))) l = read own c w ew (omega (arith, h.here_within)) ∙ start own ∙ h.here_is 0 (omega arith)
    each (suc (suc (suc (suc (suc (suc (suc zero))))))) l = read over c nw enw (omega (arith, h.above_within)) ∙ start over ∙ h.above_is 0 (omega arith)
    each (suc (suc (suc (suc (suc (suc (suc (suc k)))))))) l = absurd (omega arith)

-- ---- directions

pub direction_is : (s : Size) (surface : Cells) (i : ℕ) (z : ℤ) (w : Option ℕ) (n : ℕ) → Some z ≡ cell_at surface i → w ≡ winner_at s surface i → n ≡ direction_of w → Some (pos n) ≡ direction_at s surface i
unfolding direction_at
direction_is s surface i z w n e f g = sym (ap (option_map (λ y. pos (direction_of (winner_at s surface i)))) (sym e) ∙ ap (λ (k : ℕ). let o : Option ℤ = Some (pos k) in o) (sym (g ∙ ap direction_of f)))

pub direction_null : (s : Size) (surface : Cells) (i : ℕ) → None ≡ cell_at surface i → None ≡ direction_at s surface i
unfolding direction_at
direction_null s surface i e = sym (ap (option_map (λ y. pos (direction_of (winner_at s surface i)))) (sym e))

direction_small : (n : ℕ) → n ≤ 8 → is_value (pos n) ≡ true
direction_small n h = in_range_from_magnitude (pos n) (omega arith)

numbered_few : (w : Option ℕ) → IfSome w (λ k. k < 8) → direction_of w ≤ 8
numbered_few None h = omega arith
numbered_few (Some k) h = omega arith

-- no direction is out of range
pub direction_narrow : (s : Size) (surface : Cells) (i : ℕ) → is_wide (direction_at s surface i) ≡ false
direction_narrow s surface i = narrow (cell_at surface i) refl
  where
    narrow : (o : Option ℤ) → o ≡ cell_at surface i → is_wide (direction_at s surface i) ≡ false
    narrow None e = ap is_wide (sym (direction_null s surface i e))
    narrow (Some z) e =
        let d = direction_is s surface i z (winner_at s surface i) (direction_of (winner_at s surface i)) e refl refl in
        ap is_wide (sym d) ∙ ap not (direction_small (direction_of (winner_at s surface i)) (numbered_few (winner_at s surface i) (winner_few s surface i)))

-- the tile of directions
pub direction_answer : (s e : Size) (surface : Cells) (t : ℕ) (result : Result Block KernelRefusal) → e ≡ s → IsSize s → t < tiles_in s → IsPlacesAnswer (by_row (tile_width e t) (λ r c. direction_at s surface (cell_in s t r c))) e t result → IsTileAnswer s (direction_grid s surface).cells t result
unfolding direction_grid
direction_answer s e surface t result same size within a =
    grid_answer s t (λ r c. direction_at s surface (cell_in s t r c)) (direction_at s surface) result size within (λ r c l m. refl)
    (subst (λ (z : Size). IsPlacesAnswer (by_row (tile_width z t) (λ r c. direction_at s surface (cell_in s t r c))) z t result) same a)

pub never_wide : {P : Type 0} (s : Size) (surface : Cells) (t at : ℕ) → IsLeastWide s (direction_grid s surface).cells t at → P
unfolding direction_grid
never_wide s surface t at w =
    let e : is_wide (cell_at (grid_by s (direction_at s surface)).cells at) ≡ is_wide (direction_at s surface at) = ap is_wide (get_or-map-range_with_len (direction_at s surface) 0 (cells_in s) at at None w.within (omega arith)) in
    let f = direction_narrow s surface at in
    let t : is_wide (cell_at (grid_by s (direction_at s surface)).cells at) ≡ true = w.wide in
    absurd (cc)
