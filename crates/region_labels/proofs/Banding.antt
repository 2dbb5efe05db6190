-- Labels of one more band of rows.
use Rattle.std.proofs.Common.{◌≡◌, inl, inr, ℕ, ◌+◌, ◌-◌, ◌*◌, ◌<◌, ◌≤◌, ◌++◌, length, Option, None, refl, sym, ◌∙◌, ap, subst, arith, ℤ, true}
use Rattle.std.proofs.lemmas.Bool.{cases_lt}
use Rattle.std.proofs.lemmas.List.{get_or_append_left, get_or-append_right, length-append}
use Rattle.std.proofs.lemmas.Nat.{mul-add-lt, div-add-mod', div_below, mod_below}
use Rattle.map_nums.specs.Grids.{Size, IsSize, Cells, cell_at, cells_in, row_of, column_of, is_neighbour}
use Rattle.map_defs.specs.Regions.{Has}
use Rattle.region_labels.specs.Provisional.{IsProvisional, AreProvisional, AreTied, IsJoinStep, IsTiedAbove, place_from, IsLabelBand}
use Rattle.region_labels.specs.Roots.{told_by, told_in, root_in}
use Rattle.region_labels.specs.declared.bands.LabelBand.{LabelBand}
use Rattle.region_labels.proofs.Rooting.{root_told, followed_alike}
use Rattle.region_labels.proofs.Seams.{step_count}
use Rattle.region_labels.proofs.Tying.{told_least, back_of, provisional_at}
use Rattle.region_labels.proofs.Walks.{near_is, near_sym}

module _ (s : Size) (cells : Cells) (end : ℕ) (band : LabelBand) (is : IsLabelBand s cells band.first end band) (labels : Cells) (rows : length labels ≡ band.first * s.columns) (h : AreProvisional s cells labels) where
  abbrev both : Cells
  both = labels ++ band.labels.items

  count : length both ≡ length labels + length band.labels.items
  count = length-append labels band.labels.items

  -- they are those of the rows to before the band's end
  pub few : length both ≤ cells_in s
  few =
      let first = band.first in
      let some : first + (end - first) ≡ end = omega (arith, is.some) in
      let all : end + (s.rows - end) ≡ s.rows = omega (arith, is.within) in
      let upto : (first + (end - first)) * s.columns ≡ end * s.columns = ap (λ n. n * s.columns) some in
      let whole : (end + (s.rows - end)) * s.columns ≡ cells_in s = ap (λ n. n * s.columns) all in
      omega (arith, count, rows, is.count, upto, whole)

  at_left : (i : ℕ) → i < length labels → cell_at both i ≡ cell_at labels i
  at_left i l = get_or_append_left labels band.labels.items None i l

  at_right : (i : ℕ) → length labels ≤ i → cell_at both i ≡ cell_at band.labels.items (i - length labels)
  at_right i l = get_or-append_right labels band.labels.items (length labels) i None refl l

  place_is : (i : ℕ) → length labels ≤ i → place_from s band.first (i - length labels) ≡ i
  place_is i l = omega (arith, rows, l)

  right_provisional : (i : ℕ) → length labels ≤ i → i < length both → IsProvisional s cells i (cell_at cells i) (cell_at both i)
  right_provisional i l m =
      let k = i - length labels in
      let P : ℕ → Type 0 = λ j. IsProvisional s cells j (cell_at cells j) (cell_at both i) in
      let Q : Option ℤ → Type 0 = IsProvisional s cells (place_from s band.first k) (cell_at cells (place_from s band.first k)) in
      subst P (place_is i l) (subst Q (sym (at_right i l)) (is.each k (omega (arith, l, m, count))))

  pub band_provisional : AreProvisional s cells both
  band_provisional i l = elim (cases_lt i (length labels)) as (λ _. IsProvisional s cells i (cell_at cells i) (cell_at both i)) [
    | inl m ↦ subst (IsProvisional s cells i (cell_at cells i)) (sym (at_left i m)) (h i m)
    | inr m ↦ right_provisional i m l
  ]

  -- ---- neighbours that are both above the band, or both in it

  left_root : (i : ℕ) → i < length labels → root_in both i ≡ root_in labels i
  left_root i l = followed_alike (told_in labels) (told_in both) (length labels) i i (told_least labels (back_of s cells labels h)) (λ j m. ap (told_by j) (at_left j m)) l

  left_tied : AreTied s cells labels → (z : ℤ) (i j : ℕ) → i < length labels → j < length labels → Has s cells z i → Has s cells z j → is_neighbour s i j ≡ true → root_in both i ≡ root_in both j
  left_tied tied z i j l m p q near = left_root i l ∙ tied z i j l m p q near ∙ sym (left_root j m)

  right_tied : (z : ℤ) (i j : ℕ) → length labels ≤ i → i < length both → length labels ≤ j → j < length both → Has s cells z i → Has s cells z j → is_neighbour s i j ≡ true → root_in both i ≡ root_in both j
  right_tied z i j li mi lj mj p q near =
      let k = i - length labels in
      let l = j - length labels in
      let ei : i ≡ place_from s band.first k = sym (place_is i li) in
      let ej : j ≡ place_from s band.first l = sym (place_is j lj) in
      let H : ℕ → Type 0 = Has s cells z in
      let N : ℕ → ℕ → Type 0 = λ x y. is_neighbour s x y ≡ true in
      let same : cell_at both i ≡ cell_at both j = at_right i li ∙ is.alike z k l (omega (arith, li, mi, count)) (omega (arith, lj, mj, count)) (subst H ei p) (subst H ej q) (subst (λ (x : ℕ). N x (place_from s band.first l)) ei (subst (N i) ej near)) ∙ sym (at_right j lj) in
      let one = provisional_at s cells z i (cell_at cells i) (cell_at both i) p.1 (band_provisional i mi) in
      let told_one : told_in both i ≡ one.0 = ap (told_by i) one.1 in
      let told_other : told_in both j ≡ one.0 = ap (told_by j) (sym same ∙ one.1) in
      let back = told_least both (back_of s cells both band_provisional) in
      sym (root_told (told_in both) back i) ∙ ap (root_in both) (told_one ∙ sym told_other) ∙ root_told (told_in both) back j

  -- ---- all neighbours

  module _ (size : IsSize s) (tied : AreTied s cells labels) (new : Cells) (step : IsJoinStep s cells both new) (seam : (c : ℕ) → c < s.columns → IsTiedAbove s cells (band.first * s.columns + c) new) where
    not_above : (j : ℕ) → length labels ≤ j → band.first ≤ row_of s j
    not_above j l = elim (cases_lt (row_of s j) band.first) as (λ _. band.first ≤ row_of s j) [
      | inl m ↦ absurd (omega (arith, mul-add-lt (row_of s j) s.columns (column_of s j) band.first m (mod_below j s.columns size.some_column), div-add-mod' j s.columns, rows, l))
      | inr m ↦ m
    ]

    across : (z : ℤ) (i j : ℕ) → i < length labels → length labels ≤ j → Has s cells z i → Has s cells z j → is_neighbour s i j ≡ true → root_in new i ≡ root_in new j
    across z i j l m p q near =
        let n = near_is s i j near in
        let up : row_of s i < band.first = div_below i s.columns band.first size.some_column (omega (arith, l, rows)) in
        let down = not_above j m in
        let row : row_of s j ≡ band.first = omega (arith, n.rows, up, down) in
        let e : band.first * s.columns + column_of s j ≡ j = ap (λ r. r * s.columns + column_of s j) (sym row) ∙ div-add-mod' j s.columns in
        let P : ℕ → Type 0 = λ x. IsTiedAbove s cells x new in
        subst P e (seam (column_of s j) (mod_below j s.columns size.some_column)) i (omega (arith, n.rows, up, down)) z p q near

    pub band_tied : AreTied s cells new
    band_tied z i j l m p q near =
        let n = step_count s cells both new step in
        elim (cases_lt i (length labels)) as (λ _. root_in new i ≡ root_in new j) [
          | inl a ↦ elim (cases_lt j (length labels)) as (λ _. root_in new i ≡ root_in new j) [
            | inl b ↦ step.tied i j (left_tied tied z i j a b p q near)
            | inr b ↦ across z i j a b p q near
          ]
          | inr a ↦ elim (cases_lt j (length labels)) as (λ _. root_in new i ≡ root_in new j) [
            | inl b ↦ sym (across z j i b a q p (near_sym s i j near))
            | inr b ↦ step.tied i j (right_tied z i j a (omega (arith, l, n)) b (omega (arith, m, n)) p q near)
          ]
        ]

  -- no row is above the first one
  pub first_seam : (new : Cells) → band.first ≡ 0 → IsSize s → (c : ℕ) → c < s.columns → IsTiedAbove s cells (band.first * s.columns + c) new
  first_seam new e size c l i r = absurd (omega (arith, r, none))
    where
      none : row_of s (band.first * s.columns + c) < 1
      none = div_below (band.first * s.columns + c) s.columns 1 size.some_column (let first : band.first * s.columns ≡ 0 = ap (λ n. n * s.columns) e ∙ omega arith in omega (arith, first, l))
