-- Places of a row that are joined with those of the row above it.
use Rattle.std.proofs.Common.{◌≡◌, inl, inr, ℕ, suc, ◌+◌, ◌-◌, ◌*◌, ◌<◌, ◌≤◌, length, min, refl, sym, ◌∙◌, ap, subst, arith, true}
use Rattle.std.proofs.lemmas.Bool.{cases_lt}
use Rattle.std.proofs.lemmas.List.{length-map}
use Rattle.std.proofs.lemmas.Nat.{div-mul-add, mod_below}
use Rattle.std.specs.Prelude.{is_some}
use Rattle.map_nums.specs.Grids.{Size, IsSize, Cells, cells_in, row_of, column_of, is_neighbour}
use Rattle.region_labels.specs.Provisional.{AreProvisional, IsJoinStep, IsTiedTo, IsTiedAbove}
use Rattle.region_labels.proofs.Rows.{IsPlace, place_of, only_place, row_lt}
use Rattle.region_labels.proofs.Walks.{near_is, near_so}

-- ---- steps

pub step_none : (s : Size) (cells labels : Cells) → AreProvisional s cells labels → IsJoinStep s cells labels labels
step_none s cells labels h = record { provisional = h; marks = refl; tied = λ i j e. e }

pub step_then : (s : Size) (cells la lb lc : Cells) → IsJoinStep s cells la lb → IsJoinStep s cells lb lc → IsJoinStep s cells la lc
step_then s cells la lb lc p q = record { provisional = q.provisional; marks = q.marks ∙ p.marks; tied = λ i j e. q.tied i j (p.tied i j e) }

pub step_count : (s : Size) (cells old new : Cells) → IsJoinStep s cells old new → length new ≡ length old
step_count s cells old new p = sym (length-map new is_some) ∙ ap length p.marks ∙ length-map old is_some

-- ---- the row above a place

pub row_within : (s : Size) (row column n : ℕ) → IsSize s → column < s.columns → row * s.columns + column < n → n ≤ cells_in s → row < s.rows
row_within s row column n size l m few = omega (arith, row_lt s (row * s.columns + column) size (omega (arith, m, few)), div-mul-add row s.columns column l)

module _ (s : Size) (size : IsSize s) (row column : ℕ) (some : 0 < row) (row_in : row < s.rows) (column_in : column < s.columns) where
  abbrev at : ℕ
  at = row * s.columns + column

  at_place : IsPlace s row column at
  at_place = place_of s row column s.columns refl row_in column_in

  abbrev above : ℕ → ℕ
  above c = (row - 1) * s.columns + c

  above_place : (c : ℕ) → c < s.columns → IsPlace s (row - 1) c (above c)
  above_place c l = place_of s (row - 1) c s.columns refl (omega (arith, row_in)) l

  at_below : (row - 1) * s.columns + s.columns + column ≡ at
  at_below =
      let next : suc (row - 1) ≡ row = omega (arith, some) in
      let whole : (row - 1) * s.columns + s.columns ≡ suc (row - 1) * s.columns = omega arith in
      ap (λ k. k + column) (whole ∙ ap (λ k. k * s.columns) next)

  above_near : (c : ℕ) → c < s.columns → column - 1 ≤ c → c < column + 2 → is_neighbour s (above c) at ≡ true
  above_near c l low high =
      let p = above_place c l in
      let q = at_place in
      near_so s (above c) at record {
        other = λ e. absurd (omega (arith, sym p.row_is ∙ ap (row_of s) e ∙ q.row_is, some));
        rows = omega (arith, p.row_is, q.row_is, some);
        columns = omega (arith, p.column_is, q.column_is, low, high);
      }

  -- by the columns' number
  pub near_by : (columns c : ℕ) → columns ≡ s.columns → c < columns → column - 1 ≤ c → c < column + 2 → is_neighbour s ((row - 1) * columns + c) ((row - 1) * columns + columns + column) ≡ true
  near_by columns c e l low high = rw (e) (ap (is_neighbour s (above c)) at_below ∙ above_near c (omega (arith, l, e)) low high)

  module _ (cells : Cells) where
    pub tied_by : (new : Cells) (columns c : ℕ) → columns ≡ s.columns → IsTiedTo s cells ((row - 1) * columns + columns + column) new ((row - 1) * columns + c) → IsTiedTo s cells at new (above c)
    tied_by new columns c e h =
        let P : ℕ → Type 0 = λ n. IsTiedTo s cells ((row - 1) * n + n + column) new ((row - 1) * n + c) in
        let Q : ℕ → Type 0 = λ n. IsTiedTo s cells n new (above c) in
        subst Q at_below (subst P e h)

    -- those in columns before c
    abbrev pub IsTiedTill : ℕ → Cells → Type 0
    IsTiedTill c labels = (i : ℕ) → row_of s i + 1 ≡ row → column_of s i < c → IsTiedTo s cells at labels i

    pub tied_begun : (labels : Cells) (low : ℕ) → low ≡ column - 1 → IsTiedTill low labels
    tied_begun labels low e i r l z p q near =
        let n = near_is s i at near in
        absurd (omega (arith, n.columns, at_place.column_is, l, e))

    pub tied_more : (old new : Cells) (c : ℕ) → c < s.columns → IsJoinStep s cells old new → IsTiedTo s cells at new (above c) → IsTiedTill c old → IsTiedTill (c + 1) new
    tied_more old new c l step here before i r m = elim (cases_lt (column_of s i) c) as (λ _. IsTiedTo s cells at new i) [
      | inl k ↦ (λ z p q near. step.tied i at (before i r k z p q near))
      | inr k ↦ (let same : i ≡ above c = only_place s (row - 1) c i (above c) (above_place c l) (omega (arith, r)) (omega (arith, k, m)) in
          let P : ℕ → Type 0 = IsTiedTo s cells at new in
          subst P (sym same) here)
    ]

    pub tied_above : (labels : Cells) (c : ℕ) → min (column + 2) s.columns ≤ c → IsTiedTill c labels → IsTiedAbove s cells at labels
    tied_above labels c e till i r z p q near =
        let n = near_is s i at near in
        till i (r ∙ at_place.row_is) (omega (arith, n.columns, at_place.column_is, e, mod_below i s.columns size.some_column)) z p q near

-- ---- all places of a row

pub rows_more : (s : Size) (cells old new : Cells) (row c : ℕ) → IsJoinStep s cells old new → ((k : ℕ) → k < c → IsTiedAbove s cells (row * s.columns + k) old) → IsTiedAbove s cells (row * s.columns + c) new → (k : ℕ) → k < c + 1 → IsTiedAbove s cells (row * s.columns + k) new
rows_more s cells old new row c step before here k l = elim (cases_lt k c) as (λ _. IsTiedAbove s cells (row * s.columns + k) new) [
  | inl m ↦ (λ i r z p q near. step.tied i (row * s.columns + k) (before k m i r z p q near))
  | inr m ↦ (let e : c ≡ k = omega (arith, l, m) in
      let P : ℕ → Type 0 = λ j. IsTiedAbove s cells (row * s.columns + j) new in
      subst P e here)
]
