-- A region is reached by runs: each place of a run is joined to the one before it.
use Rattle.std.proofs.Common.{◌≡◌, inl, inr, ℕ, ◌+◌, ◌-◌, ◌*◌, ◌/◌, ◌%◌, ◌<◌, ◌≤◌, Bool, true, false, List, [], ◌∷◌, ◌++◌, length, get_or, min, Option, Some, IsSome, refl, sym, ◌∙◌, ap, subst, arith, ℤ}
use Rattle.std.specs.Prelude.{is_some, slice_set}
use Rattle.std.proofs.lemmas.Bool.{cases_lt}
use Rattle.std.proofs.lemmas.List.{length-map}
use Rattle.std.proofs.lemmas.Nat.{div-mul-add, mod-mul-add, div-add-mod', mod_below}
use Rattle.map_nums.specs.Grids.{Size, IsSize, Cells, cell_at, cells_in, row_of, column_of, gap, is_neighbour}
use Rattle.region_labels.specs.Flood.{is_marked, Holds, FloodState, reached, IsRoundTo, IsGrown}
use Rattle.region_labels.specs.Lists.{ListState, labelled, flood_of, MayGet}
use Rattle.region_labels.specs.Runs.{IsRunTo, IsBareFrom, IsRunIn, IsClose, IsRunGrown, IsRunRowTo, IsRunRound}
use Rattle.region_labels.proofs.Walks.{near_is}
use Rattle.region_labels.proofs.Flooding.{grown_then, grown_reached, reached_marked, holds_kept, holds_last}
use Rattle.region_labels.proofs.Rows.{IsPlace, place_of}
use Rattle.region_labels.proofs.Listing.{labelled_at, flood_reached, may_then, may_added}

-- ---- places along a row

pub along_row : (s : Size) (i j : ℕ) → IsSize s → i ≤ j → j < (row_of s i + 1) * s.columns → (row_of s j ≡ row_of s i) × (column_of s j ≡ column_of s i + (j - i))
along_row s i j h l m =
    let n = s.columns in
    let q = i / n in
    let r = i % n in
    let t : q * n + r ≡ i = div-add-mod' i n in
    let is : j ≡ q * n + (r + (j - i)) = omega (arith, t, l) in
    let b : r + (j - i) < n = omega (arith, t, l, m) in
    (ap (λ x. x / n) is ∙ div-mul-add q n (r + (j - i)) b, ap (λ x. x % n) is ∙ mod-mul-add q n (r + (j - i)) b)

pub in_row : (s : Size) (i row : ℕ) → row_of s i ≡ row → row * s.columns + column_of s i ≡ i
in_row s i row e = ap (λ q. q * s.columns + i % s.columns) (sym e) ∙ div-add-mod' i s.columns

pub column_lt : (s : Size) (i : ℕ) → IsSize s → column_of s i < s.columns
column_lt s i h = mod_below i s.columns h.some_column

-- ---- one more place of a run

grown_on : (s : Size) (cells : Cells) (value : Option ℤ) (from via : ℕ) (a b c : FloodState) → IsGrown s cells value from a b → Holds b.found via → IsGrown s cells value via b c → IsGrown s cells value from a c
grown_on s cells value from via a b c g held h = record {
  floods = λ z root before e p m. h.floods z root before e (g.floods z root before e p m) held;
  marked = λ i e. h.marked i (g.marked i e);
  extent = h.extent ∙ g.extent;
  size = h.size ∙ g.size;
  grows = omega (arith, g.grows, h.grows);
  stays = λ k l. h.stays k (omega (arith, l, g.grows)) ∙ g.stays k l;
}

-- what a run from place `at` to before place j leaves
pub record IsRunning (s : Size) (cells : Cells) (value label : Option ℤ) (at j : ℕ) (old l : ListState) : Type 0 where
  pub grown : (from : ℕ) → IsClose s from at → IsGrown s cells value from (flood_of old) (flood_of l)
  pub labels : MayGet label old.labels l.labels
  pub marked : (k : ℕ) → at ≤ k → k < j → is_marked (labelled l.labels) k ≡ true
  pub last : at < j → Holds l.found (j - 1)

module _ (s : Size) (cells : Cells) (value label : Option ℤ) (at j : ℕ) (old l new : ListState) (size : IsSize s) (some : IsSome label) (from_at : at ≤ j) (in_it : j < (row_of s at + 1) * s.columns) (within : j < cells_in s) (full : length l.labels ≡ cells_in s) (none : is_some (cell_at l.labels j) ≡ false) (same : cell_at cells j ≡ value) (is : new ≡ record l { labels = slice_set l.labels j label; found = l.found ++ j ∷ [] }) (h : IsRunning s cells value label at j old l) where
  reaches : flood_of new ≡ reached cells value j (flood_of l)
  reaches = ap flood_of is ∙ flood_reached cells value label j l some none same

  full_marks : length (labelled l.labels) ≡ cells_in s
  full_marks = length-map l.labels is_some ∙ full

  step : (from : ℕ) → IsClose s from j → IsGrown s cells value from (flood_of l) (flood_of new)
  step from c = let P : FloodState → Type 0 = IsGrown s cells value from (flood_of l) in subst P (sym reaches) (grown_reached s cells value from j (flood_of l) c.0 c.1 within full_marks)

  -- the place before lies next to it
  beside : at < j → IsClose s (j - 1) j
  beside m =
      let a = along_row s at j size from_at in_it in
      let b = along_row s at (j - 1) size (omega (arith, m)) (omega (arith, m, in_it)) in
      (omega (arith, a.0, b.0), omega (arith, a.1, b.1, m))

  grown_more : (from : ℕ) → IsClose s from at → IsGrown s cells value from (flood_of old) (flood_of new)
  grown_more from c = elim (cases_lt at j) as (λ _. IsGrown s cells value from (flood_of old) (flood_of new)) [
    | inl m ↦ grown_on s cells value from (j - 1) (flood_of old) (flood_of l) (flood_of new) (h.grown from c) (h.last m) (step (j - 1) (beside m))
    | inr m ↦ (let e : at ≡ j = omega (arith, from_at, m) in
        grown_then s cells value from (flood_of old) (flood_of l) (flood_of new) (h.grown from c) (step from (let P : ℕ → Type 0 = IsClose s from in subst P e c)))
  ]

  here : is_marked (labelled new.labels) j ≡ true
  here = ap (λ (f : FloodState). is_marked f.marks j) reaches ∙ reached_marked cells value j (flood_of l) (omega (arith, within, full_marks)) same

  pub run_more : IsRunning s cells value label at (j + 1) old new
  run_more = record {
    grown = grown_more;
    labels = may_then label old.labels l.labels new.labels h.labels (may_added label l.labels new.labels j (omega (arith, within, full)) none (ap (λ (x : ListState). x.labels) is));
    marked = λ k a b. elim (cases_lt k j) as (λ _. is_marked (labelled new.labels) k ≡ true) [
      | inl m ↦ (step j (omega arith, omega arith)).marked k (h.marked k a m)
      | inr m ↦ (let e : j ≡ k = omega (arith, b, m) in let P : ℕ → Type 0 = λ i. is_marked (labelled new.labels) i ≡ true in subst P e here)
    ];
    last = λ _. let e : j ≡ j + 1 - 1 = omega arith in
        let P : List ℕ → Type 0 = λ xs. Holds xs (j + 1 - 1) in
        let Q : ℕ → Type 0 = Holds (l.found ++ j ∷ []) in
        subst P (sym (ap (λ (x : ListState). x.found) is)) (subst Q e (holds_last l.found j));
  }

-- ---- what was reached from the places of a run

pub run_grown_none : (s : Size) (cells : Cells) (value : Option ℤ) (at count : ℕ) (a : FloodState) → IsRunGrown s cells value at count a a
run_grown_none s cells value at count a = record { floods = λ z root before e p m. p; marked = λ i e. e; extent = refl; size = refl; grows = omega arith; stays = λ k l. refl }

pub run_grown_then : (s : Size) (cells : Cells) (value : Option ℤ) (at count : ℕ) (a b c : FloodState) → IsRunGrown s cells value at count a b → IsRunGrown s cells value at count b c → IsRunGrown s cells value at count a c
run_grown_then s cells value at count a b c g h = record {
  floods = λ z root before e p m. h.floods z root before e (g.floods z root before e p m) (λ k l. holds_kept a.found b.found (at + k) g.grows g.stays (m k l));
  marked = λ i e. h.marked i (g.marked i e);
  extent = h.extent ∙ g.extent;
  size = h.size ∙ g.size;
  grows = omega (arith, g.grows, h.grows);
  stays = λ k l. h.stays k (omega (arith, l, g.grows)) ∙ g.stays k l;
}

run_grown_one : (s : Size) (cells : Cells) (value : Option ℤ) (at count k : ℕ) (a b : FloodState) → k < count → IsGrown s cells value (at + k) a b → IsRunGrown s cells value at count a b
run_grown_one s cells value at count k a b l g = record {
  floods = λ z root before e p m. g.floods z root before e p (m k l);
  marked = g.marked;
  extent = g.extent;
  size = g.size;
  grows = g.grows;
  stays = g.stays;
}

-- ---- a row next to a run

nearest : (x c n : ℕ) → 0 < n → x ≤ c + 1 → c ≤ x + n → (min (c - x) (n - 1) < n) × (gap (x + min (c - x) (n - 1)) c ≤ 1)
nearest x c n h l m = (omega (arith, h), omega (arith, h, l, m))

pub next_place : (s : Size) (row n m next : ℕ) → n ≡ s.columns → row < s.rows → row * n ≤ next → next < row * n + min m n → IsPlace s row (next - row * n) next
next_place s row n m next e r l h =
    let is : row * n + (next - row * n) ≡ next = omega (arith, l) in
    let P : ℕ → Type 0 = IsPlace s row (next - row * n) in
    subst P is (place_of s row (next - row * n) n e r (omega (arith, e, h, l)))

-- from one of the run's places
pub run_grown_from : (s : Size) (cells : Cells) (value : Option ℤ) (at count row next : ℕ) (a b c : FloodState) → IsSize s → 0 < count → column_of s at + count ≤ s.columns → gap (row_of s at) row ≤ 1 → row_of s next ≡ row → column_of s at ≤ column_of s next + 1 → column_of s next ≤ column_of s at + count → IsRunGrown s cells value at count a b → ((from : ℕ) → IsClose s from next → IsGrown s cells value from b c) → IsRunGrown s cells value at count a c
run_grown_from s cells value at count row next a b c size some run close r l m g h =
    let k = min (column_of s next - column_of s at) (count - 1) in
    let n = nearest (column_of s at) (column_of s next) count some l m in
    let t = in_row s at (row_of s at) refl in
    let w = along_row s at (at + k) size (omega arith) (omega (arith, t, run, n.0)) in
    let k_is : at + k - at ≡ k = omega arith in
    run_grown_then s cells value at count a b c g (run_grown_one s cells value at count k b c n.0 (h (at + k) (omega (arith, w.0, close, r), omega (arith, w.1, k_is, n.1))))

pub run_row_more : (s : Size) (cells : Cells) (value : Option ℤ) (at count row next end stop : ℕ) (old new : List Bool) → IsSize s → end ≡ row * s.columns + s.columns → ((i : ℕ) → is_marked old i ≡ true → is_marked new i ≡ true) → IsRunTo cells value next end stop new → IsRunRowTo s cells value at count row next old → IsRunRowTo s cells value at count row (stop + 1) new
run_row_more s cells value at count row next end stop old new size e more run near j l r a b v k = elim (cases_lt j next) as (λ _. is_marked new j ≡ true) [
  | inl m ↦ more j (near j l r a b v m)
  | inr m ↦ elim (cases_lt j stop) as (λ _. is_marked new j ≡ true) [
    | inl n ↦ run.marked j m n
    | inr n ↦ (let is : stop ≡ j = omega (arith, k, n) in
        let P : ℕ → Type 0 = λ i. is_marked new i ≡ true in
        subst P is (run.stopped (omega (arith, is, in_row s j row r, column_lt s j size, e)) (ap (cell_at cells) is ∙ v)))
  ]
]

-- ---- a run has no further neighbour

pub run_next : (s : Size) (cells : Cells) (z : ℤ) (value : Option ℤ) (head count at : ℕ) (f new : FloodState) → IsSize s → value ≡ Some z → at ≡ get_or f.found head 0 → IsRunIn f.found head count → column_of s at + count ≤ s.columns → IsRunGrown s cells value at count f new → IsRunRound s cells value at count new.marks → IsRoundTo s cells z head f → IsRoundTo s cells z (head + count) new
run_next s cells z value head count at f new size e is run fits g near round k l j n has = elim (cases_lt k head) as (λ _. is_marked new.marks j ≡ true) [
  | inl m ↦ g.marked j (round k m j (let P : ℕ → Type 0 = λ i. is_neighbour s i j ≡ true in subst P (g.stays k (omega (arith, m, run.within))) n) has)
  | inr m ↦ (let i = k - head in
      let i_lt : i < count = omega (arith, l, m) in
      let k_is : k ≡ head + i = omega (arith, m) in
      let here : get_or new.found k 0 ≡ at + i = g.stays k (omega (arith, l, run.within)) ∙ ap (λ x. get_or f.found x 0) k_is ∙ run.each i i_lt ∙ ap (λ x. x + i) (sym is) in
      let d = near_is s (at + i) j (ap (λ x. is_neighbour s x j) (sym here) ∙ n) in
      let w = along_row s at (at + i) size (omega arith) (omega (arith, in_row s at (row_of s at) refl, fits, i_lt)) in
      let off : at + i - at ≡ i = omega arith in
      near j has.0 (omega (arith, d.rows, w.0)) (omega (arith, d.columns, w.1, off)) (omega (arith, d.columns, w.1, off, i_lt)) (has.1 ∙ sym e))
]

-- ---- places that have labels are passed over

module _ (s : Size) (cells : Cells) (value : Option ℤ) (at count row : ℕ) where
  -- none of a row's places comes before the one on the left of the first
  pub row_begun : (n : ℕ) (marks : List Bool) → n ≡ row * s.columns + (column_of s at - 1) → IsRunRowTo s cells value at count row n marks
  row_begun n marks e j l r a b v m = absurd (omega (arith, in_row s j row r, a, m, e))

  pub row_passed : (n m end stop : ℕ) (labels : Cells) → IsRunRowTo s cells value at count row n (labelled labels) → m ≤ n → IsBareFrom labels m end stop → IsRunRowTo s cells value at count row stop (labelled labels)
  row_passed n m end stop labels near le bare j l r a b v k = elim (cases_lt j n) as (λ _. is_marked (labelled labels) j ≡ true) [
    | inl x ↦ near j l r a b v x
    | inr x ↦ labelled_at labels j ∙ bare.labelled j (omega (arith, x, le)) k
  ]
