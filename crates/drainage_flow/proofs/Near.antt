-- Where a cell drains to depends on the cell and its neighbours alone.
use Rattle.std.proofs.Common.{◌≡◌, ℕ, zero, suc, ◌*◌, ◌/◌, ◌<◌, Option, Some, None, refl, sym, ◌∙◌, ap, arith, inl, inr, ℤ, pos, ◌+ℤ◌}
use Rattle.std.specs.Prelude.{option_and_then, slice_get}
use Rattle.std.proofs.lemmas.Int.{ints}
use Rattle.std.proofs.lemmas.Bool.{cases_lt}
use Rattle.std.proofs.lemmas.Nat.{mul-le}
use Rattle.map_nums.specs.Grids.{Size, Cells, cell_at, cells_in, moved, near, row_of, column_of, compass}
use Rattle.map_defs.specs.Drainage.{drop_to, drop_at, winner_at}
use Rattle.map_defs.specs.Flow.{downstream_of}
use Rattle.drainage_flow.specs.Steepest.{offset_at}
use Rattle.drainage_flow.proofs.Steepest.{steepest_some, steepest_as, winner_is, winner_null}
use Rattle.drainage_flow.proofs.Places.{line_some, place_some, place_lines}

-- ---- the same ways down

winner_same : (s : Size) (before after : Cells) (at : ℕ) → cell_at before at ≡ cell_at after at → ((u : ℕ) → u < 8 → near s before at (offset_at u) ≡ near s after at (offset_at u)) → winner_at s before at ≡ winner_at s after at
winner_same s before after at e n = same_or (cell_at before at) refl
  where
    same_or : (o : Option ℤ) → cell_at before at ≡ o → winner_at s before at ≡ winner_at s after at
    same_or None h = sym (winner_null s before at h) ∙ winner_null s after at (sym e ∙ h)
    same_or (Some z) h =
        let w = steepest_some (λ k. drop_at s before at z (offset_at k)) 8 in
        let v = steepest_as (λ k. drop_at s before at z (offset_at k)) (λ k. drop_at s after at z (offset_at k)) w.0 w.1 (λ u l. ap (drop_to z (offset_at u)) (n u l)) w.2 in
        sym (winner_is s before at z w.0 w.1 h w.2) ∙ winner_is s after at z w.0 w.1 (sym e ∙ h) v

pub downstream_same : (s : Size) (before after : Cells) (at : ℕ) → cell_at before at ≡ cell_at after at → ((u : ℕ) → u < 8 → near s before at (offset_at u) ≡ near s after at (offset_at u)) → downstream_of s before at ≡ downstream_of s after at
unfolding downstream_of
downstream_same s before after at e n = ap (λ w. option_and_then (moved s at) (option_and_then (slice_get compass) w)) (winner_same s before after at e n)

-- ---- a neighbour's neighbour

pub opposite : (k : ℕ) → k < 8 → (j : ℕ) × (j < 8) × ((offset_at k).0 +ℤ (offset_at j).0 ≡ pos 0) × ((offset_at k).1 +ℤ (offset_at j).1 ≡ pos 0)
opposite zero h = (4, omega arith, refl, refl)
opposite (suc zero) h = (5, omega arith, refl, refl)
opposite (suc (suc zero)) h = (6, omega arith, refl, refl)
opposite (suc (suc (suc zero))) h = (7, omega arith, refl, refl)
opposite (suc (suc (suc (suc zero)))) h = (0, omega arith, refl, refl)
opposite (suc (suc (suc (suc (suc zero))))) h = (1, omega arith, refl, refl)
opposite (suc (suc (suc (suc (suc (suc zero)))))) h = (2, omega arith, refl, refl)
opposite (suc (suc (suc (suc (suc (suc (suc zero))))))) h = (3, omega arith, refl, refl)
opposite (suc (suc (suc (suc (suc (suc (suc (suc k)))))))) h = absurd (omega arith)

-- the row of a place
row_within : (x rows columns : ℕ) → 0 < columns → x < rows * columns → x / columns < rows
row_within x rows columns some l = elim (cases_lt (x / columns) rows) as (λ _. x / columns < rows) [ inl h ↦ h | inr h ↦ (let m = mul-le rows columns (x / columns) columns h (omega arith) in absurd (omega (arith, m, l))) ]

pub moved_back : (s : Size) (x y k : ℕ) → 0 < s.columns → x < cells_in s → k < 8 → moved s x (offset_at k) ≡ Some y → (j : ℕ) × (j < 8) × (moved s y (offset_at j) ≡ Some x) × (y < cells_in s)
moved_back s x y k some l h e =
    let p = place_lines s (pos (row_of s x) +ℤ (offset_at k).0) (pos (column_of s x) +ℤ (offset_at k).1) y some e in
    let o = opposite k h in
    let r : pos (row_of s y) +ℤ (offset_at o.0).0 ≡ pos (row_of s x) = omega (arith, ints, p.0, o.2) in
    let c : pos (column_of s y) +ℤ (offset_at o.0).1 ≡ pos (column_of s x) = omega (arith, ints, p.1, o.3) in
    let rows : row_of s x < s.rows = row_within x s.rows s.columns some l in
    let columns : column_of s x < s.columns = omega arith in
    let q = place_some s (pos (row_of s y) +ℤ (offset_at o.0).0) (pos (column_of s y) +ℤ (offset_at o.0).1) (row_of s x) (column_of s x) (sym (line_some (pos (row_of s y) +ℤ (offset_at o.0).0) s.rows (row_of s x) r rows)) (sym (line_some (pos (column_of s y) +ℤ (offset_at o.0).1) s.columns (column_of s x) c columns)) in
    (o.0, o.1, q ∙ ap (λ (z : ℕ). let f : Option ℕ = Some z in f) (omega arith), p.2)
