-- Places by row and column, and what is reached round one of them.
use Rattle.std.proofs.Common.{◌≡◌, inl, inr, ℕ, ◌+◌, ◌-◌, ◌*◌, ◌/◌, ◌%◌, ◌<◌, ◌≤◌, Bool, true, false, List, [], ◌∷◌, ◌++◌, length, get_or, min, Option, Some, None, IsSome, refl, sym, ◌∙◌, ap, subst, arith, ℤ}
use Rattle.std.specs.Prelude.{slice_set}
use Rattle.std.proofs.lemmas.Bool.{cases_lt, cases_eq, both_ways}
use Rattle.std.proofs.lemmas.List.Sums.{sum_by-cons}
use Rattle.std.proofs.lemmas.Nat.{div-mul-add, mod-mul-add, mul-add-lt, div-add-mod', div_below, mod_below}
use Rattle.map_nums.specs.Grids.{Size, IsSize, Cells, cell_at, cells_in, row_of, column_of, gap, is_neighbour}
use Rattle.map_defs.specs.Regions.{Has}
use Rattle.region_labels.specs.Flood.{is_marked, one_if, marks_in, FloodState, reached, IsFlooding, IsFlooded, IsRoundTo, IsGrown, IsRowPart, IsAllMarked, IsAfter}
use Rattle.region_labels.proofs.Walks.{IsNear, near_is, near_so}
use Rattle.region_labels.proofs.Flooding.{grown_then, grown_reached, reached_marked, flood_root}

-- the place of a row and a column
pub record IsPlace (s : Size) (row c j : ℕ) : Type 0 where
  pub within : j < cells_in s
  pub row_is : row_of s j ≡ row
  pub column_is : column_of s j ≡ c

in_grid : (s : Size) (row c : ℕ) → row < s.rows → c < s.columns → row * s.columns + c < cells_in s
in_grid s row c r l = omega (arith, mul-add-lt row s.columns c s.rows r l)

pub place_of : (s : Size) (row c columns : ℕ) → columns ≡ s.columns → row < s.rows → c < s.columns → IsPlace s row c (row * columns + c)
place_of s row c columns e r l = rw (e) record { within = in_grid s row c r l; row_is = div-mul-add row s.columns c l; column_is = mod-mul-add row s.columns c l }

pub only_place : (s : Size) (row c i j : ℕ) → IsPlace s row c j → row_of s i ≡ row → column_of s i ≡ c → i ≡ j
only_place s row c i j p r q =
    sym (div-add-mod' i s.columns) ∙ ap (λ n. n * s.columns + i % s.columns) (r ∙ sym p.row_is) ∙ ap (λ n. j / s.columns * s.columns + n) (q ∙ sym p.column_is) ∙ div-add-mod' j s.columns

pub row_lt : (s : Size) (i : ℕ) → IsSize s → i < cells_in s → row_of s i < s.rows
row_lt s i h l = div_below i s.columns s.rows h.some_column l

-- ---- a step along a row

module _ (s : Size) (cells : Cells) (value : Option ℤ) (from row c j : ℕ) (old f new : FloodState) (p : IsPlace s row c j) (rows : gap (row_of s from) row ≤ 1) (columns : gap (column_of s from) c ≤ 1) (size : length f.marks ≡ cells_in s) (is : new ≡ reached cells value j f) where
  step_grown : IsGrown s cells value from f new
  step_grown =
      let P : FloodState → Type 0 = IsGrown s cells value from f in
      subst P (sym is) (grown_reached s cells value from j f (rw (p.row_is) rows) (rw (p.column_is) columns) p.within size)

  pub row_grown : IsGrown s cells value from old f → IsGrown s cells value from old new
  row_grown g = grown_then s cells value from old f new g step_grown

  pub row_near : (low : ℕ) → IsRowPart s cells value from row low c f.marks → IsRowPart s cells value from row low (c + 1) new.marks
  row_near low near i l r q w e k = elim (cases_lt (column_of s i) c) as (λ _. is_marked new.marks i ≡ true) [
    | inl m ↦ step_grown.marked i (near i l r q w e m)
    | inr m ↦ (let same : i ≡ j = only_place s row c i j p r (omega (arith, k, m)) in
        let here : is_marked new.marks j ≡ true = rw (is) (reached_marked cells value j f (omega (arith, p.within, size)) (ap (cell_at cells) (sym same) ∙ e)) in
        ap (is_marked new.marks) same ∙ here)
  ]

-- ---- a region

pub marks_most : (marks : List Bool) → marks_in marks ≤ length marks
marks_most [] = omega arith
marks_most (true ∷ marks) = omega (arith, marks_most marks, sum_by-cons one_if true marks)
marks_most (false ∷ marks) = omega (arith, marks_most marks, sum_by-cons one_if false marks)

-- no more places are found than there are
pub few_found : (s : Size) (cells : Cells) (z : ℤ) (root : ℕ) (before : List Bool) (f : FloodState) → IsFlooding s cells z root before f → length f.found ≤ cells_in s
few_found s cells z root before f h = omega (arith, h.counted, h.size, marks_most f.marks)

pub some_value : (v : Option ℤ) → IsSome v → (z : ℤ) × (v ≡ Some z)
some_value None h = absurd (both_ways false refl h)
some_value (Some z) h = (z, refl)

-- the place on the left
left_of : (s : Size) (i from : ℕ) → IsSize s → from ≡ i + 1 → 0 < column_of s from → (row_of s i ≡ row_of s from) × (column_of s i + 1 ≡ column_of s from)
left_of s i from h e k =
    let n = s.columns in
    let q = from / n in
    let r = from % n in
    let t : q * n + r ≡ from = div-add-mod' from n in
    let is : i ≡ q * n + (r - 1) = omega (arith, e, t, k) in
    let b : r - 1 < n = omega (arith, mod_below from n h.some_column) in
    (ap (λ x. x / n) is ∙ div-mul-add q n (r - 1) b, omega (arith, ap (λ x. x % n) is ∙ mod-mul-add q n (r - 1) b, k))

not_both : (b : Bool) → b ≡ true → b ≡ false → ⊥
not_both b p q = cc

-- ---- the neighbours of one more place

module _ (s : Size) (cells : Cells) (z : ℤ) (value : Option ℤ) (root head from j : ℕ) (before : List Bool) (after : Bool) (f new : FloodState) (size : IsSize s) (e : value ≡ Some z) (l : head < length f.found) (at : from ≡ get_or f.found head 0) (floods : IsFlooding s cells z root before f) (follows : after ≡ true → IsAfter f.found head) (g : IsGrown s cells value from f new) (near : IsAllMarked s cells value from after new.marks) (round : IsRoundTo s cells z head f) (d : IsNear s from j) (has : Has s cells z j) where
  -- those next to the place on the left are marked since that was worked on
  left_known : after ≡ true → 0 < column_of s from → column_of s j ≤ column_of s from → is_marked new.marks j ≡ true
  left_known t k m =
      let a = follows t in
      let p = get_or f.found (head - 1) 0 in
      let b = left_of s p from size (at ∙ a.place) k in
      let here = (floods.each (head - 1) (omega (arith, l))).marked in
      let rows : gap (row_of s p) (row_of s j) ≤ 1 = rw (b.0) d.rows in
      let columns : gap (column_of s p) (column_of s j) ≤ 1 = omega (arith, b.1, d.columns, m) in
      elim (cases_eq p j) as (λ _. is_marked new.marks j ≡ true) [
        | inl same ↦ g.marked j (ap (is_marked f.marks) (sym same) ∙ here)
        | inr other ↦ g.marked j (round (head - 1) (omega (arith, a.some)) j (near_so s p j (record { other = other; rows = rows; columns = columns })) has)
      ]

  around : (b : Bool) → after ≡ b → is_marked new.marks j ≡ true
  around true t = elim (cases_lt (column_of s from) (column_of s j)) as (λ _. is_marked new.marks j ≡ true) [
    | inl m ↦ near j has.0 d.rows d.columns (λ _ _. m) (has.1 ∙ sym e)
    | inr m ↦ elim (cases_lt 0 (column_of s from)) as (λ _. is_marked new.marks j ≡ true) [
      | inl k ↦ left_known t k m
      | inr k ↦ near j has.0 d.rows d.columns (λ _ q. absurd (omega (arith, q, k))) (has.1 ∙ sym e)
    ]
  ]
  around false t = near j has.0 d.rows d.columns (λ q _. absurd (not_both after q t)) (has.1 ∙ sym e)

  pub next_known : is_marked new.marks j ≡ true
  next_known = around after refl

-- one more place has no further neighbour
pub round_next : (s : Size) (cells : Cells) (z : ℤ) (value : Option ℤ) (root head from : ℕ) (before : List Bool) (after : Bool) (f new : FloodState) → IsSize s → value ≡ Some z → head < length f.found → from ≡ get_or f.found head 0 → IsFlooding s cells z root before f → (after ≡ true → IsAfter f.found head) → IsGrown s cells value from f new → IsAllMarked s cells value from after new.marks → IsRoundTo s cells z head f → IsRoundTo s cells z (head + 1) new
round_next s cells z value root head from before after f new size e l at floods follows g near round k m j n has = elim (cases_lt k head) as (λ _. is_marked new.marks j ≡ true) [
  | inl q ↦ g.marked j (round k q j (rw (g.stays k (omega (arith, q, l))) at n) has)
  | inr q ↦ (let same : k ≡ head = omega (arith, m, q) in
      let is : get_or new.found k 0 ≡ from = g.stays k (omega (arith, same, l)) ∙ ap (λ i. get_or f.found i 0) same ∙ sym at in
      let d = near_is s from j (ap (λ i. is_neighbour s i j) (sym is) ∙ n) in
      next_known s cells z value root head from j before after f new size e l at floods follows g near round d has)
]

pub region_begun : (s : Size) (cells : Cells) (z : ℤ) (root : ℕ) (extent : Size) (marks : List Bool) (cleared f : FloodState) → length marks ≡ cells_in s → Has s cells z root → is_marked marks root ≡ false → cleared ≡ record { size = extent; marks = marks; found = [] } → f ≡ record cleared { marks = slice_set cleared.marks root true; found = cleared.found ++ root ∷ [] } → IsFlooding s cells z root marks f
region_begun s cells z root extent marks cleared f n has new c e =
    let is : f ≡ record { size = extent; marks = slice_set marks root true; found = root ∷ [] } = e ∙ ap (λ (x : FloodState). record x { marks = slice_set x.marks root true; found = x.found ++ root ∷ [] }) c in
    let P : FloodState → Type 0 = IsFlooding s cells z root marks in
    subst P (sym is) (flood_root s extent cells z root marks n has new)

pub region_done : (s : Size) (cells : Cells) (z : ℤ) (root head : ℕ) (before : List Bool) (f : FloodState) → IsFlooding s cells z root before f → IsRoundTo s cells z head f → length f.found ≤ head → IsFlooded s cells z root before f
region_done s cells z root head before f h round l = record { flooding = h; round = λ k m. round k (omega (arith, m, l)) }

-- a row next to row x comes before the end of the rows round it
pub in_round : (x y n h r : ℕ) → h ≡ min (x + 2) n → h ≤ r → gap x y ≤ 1 → y < n → y < r
in_round x y n h r e l g m = omega arith

-- fewer places are left
pub less : (n h k f : ℕ) → 0 < k → h < f → f ≤ n → n - (h + k) < n - h
less n h k f p l m = omega arith
