-- Labels of a band of rows, taken as a map of its own, on the map that the rows are of.
use Rattle.std.proofs.Common.{◌≡◌, ℕ, suc, ◌+◌, ◌-◌, ◌*◌, ◌<◌, ◌≤◌, true, List, [], ◌∷◌, ◌++◌, length, map, get_or, take, drop, Option, Some, None, refl, sym, ◌∙◌, ap, subst, arith, ℤ, pos}
use Rattle.std.specs.Prelude.{filter, is_some, slice_set}
use Rattle.std.proofs.Math.ListN.{get_or-map, drop_of_length-le}
use Rattle.std.proofs.Math.Nat.{add-mul, mul-add-div_right, mul-add-mod_self_right}
use Rattle.std.proofs.lemmas.List.{append_assoc, append-nil, drop_more, get_or-append_right, get_or-drop, get_or-take, length-drop, length-map, length-take-le, map-append, set-append_right, take_all, take_more}
use Rattle.std.proofs.lemmas.Nat.{mul-le}
use Rattle.map_nums.specs.Grids.{Size, IsSize, Cells, cell_at, cells_in, places, row_of, column_of, is_neighbour}
use Rattle.map_defs.specs.Regions.{Has, WalkTo, IsFirstJoined, IsLabelOf, AreRegions}
use Rattle.region_labels.specs.Flood.{marks_in, IsJoined}
use Rattle.region_labels.specs.Lists.{labelled}
use Rattle.region_labels.specs.Moves.{moved_label, IsUpTo}
use Rattle.region_labels.specs.Provisional.{IsProvisional, place_from, IsLabelBand}
use Rattle.region_labels.specs.declared.bands.LabelBand.{LabelBand}
use Rattle.region_labels.proofs.Walks.{near_is, near_so, near_sym, ends, joined_self, joined_more, short, joined_long}
use Rattle.region_labels.proofs.Listing.{labels_counted}

-- ---- labels that are moved one by one

-- those before place k are moved
abbrev pub moved_to : (Option ℤ → Option ℤ) → ℕ → Cells → Cells
moved_to f k labels = map f (take k labels) ++ drop k labels

module _ (f : Option ℤ → Option ℤ) (labels : Cells) (k : ℕ) (within : k < length labels) where
  abbrev done : Cells
  done = map f (take k labels)

  abbrev here : Option ℤ
  here = get_or labels k None

  done_count : length done ≡ k
  done_count = length-map (take k labels) f ∙ length-take-le k labels (omega (arith, within))

  nought : k - k ≡ 0
  nought = omega arith

  pub moved_here : (d : Option ℤ) → get_or (moved_to f k labels) k d ≡ get_or labels k d
  moved_here d =
      let e : k + 0 ≡ k = omega arith in
      get_or-append_right done (drop k labels) k k d done_count (omega arith) ∙ ap (λ i. get_or (drop k labels) i d) nought ∙ get_or-drop k labels 0 d ∙ ap (λ i. get_or labels i d) e

  pub moved_next : (y : Option ℤ) → y ≡ f (get_or labels k None) → slice_set (moved_to f k labels) k y ≡ moved_to f (k + 1) labels
  moved_next y e =
      set-append_right done (drop k labels) k k y done_count (omega arith)
      ∙ ap (λ i. done ++ slice_set (drop k labels) i y) nought
      ∙ ap (λ (ys : Cells). done ++ slice_set ys 0 y) (drop_more labels k None within)
      ∙ sym (append_assoc done (y ∷ []) (drop (k + 1) labels))
      ∙ ap (λ (ys : Cells). ys ++ drop (k + 1) labels) (ap (λ v. done ++ v ∷ []) e ∙ sym (map-append f (take k labels) (here ∷ [])) ∙ ap (map f) (sym (take_more labels k None within)))

pub moved_all : (f : Option ℤ → Option ℤ) (labels : Cells) (k : ℕ) → length labels ≤ k → moved_to f k labels ≡ map f labels
moved_all f labels k l =
    let none : drop k labels ≡ [] = drop_of_length-le labels l in
    ap (λ (ys : Cells). map f (take k labels) ++ ys) none ∙ append-nil (map f (take k labels)) ∙ ap (map f) (take_all k labels l)

moved_some : (by : ℕ) (label : Option ℤ) → is_some (moved_label by label) ≡ is_some label
moved_some by None = refl
moved_some by (Some z) = refl

labelled_still : (by : ℕ) (labels : Cells) → labelled (map (moved_label by) labels) ≡ labelled labels
labelled_still by [] = refl
labelled_still by (label ∷ labels) = ap (λ b. b ∷ labelled (map (moved_label by) labels)) (moved_some by label) ∙ ap (λ bs. is_some label ∷ bs) (labelled_still by labels)

-- ---- places of a band

abbrev pub band_size : Size → ℕ → ℕ → Size
band_size s first end = record { rows = end - first; columns = s.columns }

abbrev pub band_cells : ℕ → ℕ → ℕ → Cells → Cells
band_cells columns first end cells = take (end * columns - first * columns) (drop (first * columns) cells)

pub rows_apart : (first end n : ℕ) → first ≤ end → first * n + (end - first) * n ≡ end * n
rows_apart first end n l =
    let e : first + (end - first) ≡ end = omega (arith, l) in
    sym (add-mul first (end - first) n) ∙ ap (λ r. r * n) e

module _ (s : Size) (cells : Cells) (first end : ℕ) (size : IsSize s) (count : length cells ≡ cells_in s) (some : first < end) (within : end ≤ s.rows) where
  abbrev n : ℕ
  n = s.columns

  abbrev band : Size
  band = band_size s first end

  abbrev part : Cells
  part = band_cells n first end cells

  abbrev at : ℕ → ℕ
  at k = place_from s first k

  apart : first * n + (end - first) * n ≡ end * n
  apart = rows_apart first end n (omega (arith, some))

  end_most : end * n ≤ s.rows * n
  end_most = mul-le end n s.rows n within (omega arith)

  pub band_count : length part ≡ cells_in band
  band_count =
      let l : end * n - first * n ≤ length (drop (first * n) cells) = omega (arith, length-drop (first * n) cells, count, end_most) in
      length-take-le (end * n - first * n) (drop (first * n) cells) l ∙ omega (arith, apart)

  band_at : (k : ℕ) → k < cells_in band → cell_at part k ≡ cell_at cells (at k)
  band_at k l = get_or-take (end * n - first * n) (drop (first * n) cells) k None (omega (arith, apart, l)) ∙ get_or-drop (first * n) cells k None

  on_map : (k : ℕ) → k < cells_in band → at k < cells_in s
  on_map k l = omega (arith, apart, end_most, l)

  row_there : (k : ℕ) → row_of s (at k) ≡ first + row_of band k
  row_there k = mul-add-div_right size.some_column first k

  column_there : (k : ℕ) → column_of s (at k) ≡ column_of band k
  column_there k = mul-add-mod_self_right first n k

  near_there : (k l : ℕ) → is_neighbour band k l ≡ true → is_neighbour s (at k) (at l) ≡ true
  near_there k l e =
      let d = near_is band k l e in
      near_so s (at k) (at l) (record { other = λ q. d.other (omega (arith, q)); rows = rw (row_there k, row_there l) (omega (arith, d.rows)); columns = rw (column_there k, column_there l) d.columns })

  near_here : (k l : ℕ) → is_neighbour s (at k) (at l) ≡ true → is_neighbour band k l ≡ true
  near_here k l e =
      let d = near_is s (at k) (at l) e in
      near_so band k l (record { other = λ q. d.other (ap at q); rows = omega (arith, d.rows, row_there k, row_there l); columns = rw (← column_there k, ← column_there l) d.columns })

  has_there : (z : ℤ) (k : ℕ) → Has band part z k → Has s cells z (at k)
  has_there z k h = (on_map k h.0, sym (band_at k h.0) ∙ h.1)

  has_here : (z : ℤ) (k : ℕ) → k < cells_in band → Has s cells z (at k) → Has band part z k
  has_here z k l h = (l, band_at k l ∙ h.1)

  walk_there : (z : ℤ) (a k : ℕ) (js : List ℕ) → WalkTo band part z a k js → IsJoined s cells z (at a) (at k)
  walk_there z a k [] w = let P : ℕ → Type 0 = λ i. IsJoined s cells z (at i) (at k) in subst P w.1 (joined_self s cells z (at k) (has_there z k w.0))
  walk_there z a k (j ∷ js) w = joined_more s cells z (at a) (at j) (at k) (walk_there z a j js w.2) (near_there j k w.1) (has_there z k w.0)

  -- ---- labels of a band

  first_most : (z : ℤ) (k p : ℕ) → IsFirstJoined band part z k p → p ≤ k
  first_most z k p h = h.least k (short band part z k k (joined_self band part z k (ends band part z p k h.joined.0 h.joined.1)))

  -- a neighbour's first place comes no later
  first_near : (z : ℤ) (k l p q : ℕ) → IsFirstJoined band part z k p → IsFirstJoined band part z l q → is_neighbour band l k ≡ true → p ≤ q
  first_near z k l p q h g e = h.least q (short band part z q k (joined_more band part z q l k (joined_long band part z q l g.joined) e (ends band part z p k h.joined.0 h.joined.1)))

  label_there : (k : ℕ) (c label : Option ℤ) → IsLabelOf band part k c label → IsProvisional s cells (at k) c (moved_label (first * n) label)
  label_there k None label h = ap (moved_label (first * n)) h
  label_there k (Some z) label h =
      let p = h.0 in
      let e : suc p + first * n ≡ suc (at p) = omega arith in
      (at p, ap (moved_label (first * n)) h.1 ∙ ap (λ m. Some (pos m)) e, omega (arith, first_most z k p h.2), walk_there z p k h.2.joined.0 h.2.joined.1)

  label_most : (k : ℕ) (c label : Option ℤ) → k < cells_in band → IsLabelOf band part k c label → IsUpTo (first * n) label
  label_most k None label l h = let P : Option ℤ → Type 0 = IsUpTo (first * n) in subst P (sym h) tt
  label_most k (Some z) label l h =
      let P : Option ℤ → Type 0 = IsUpTo (first * n) in
      subst P (sym h.1) (omega (arith, first_most z k h.0 h.2, on_map k l, size.most_cells))

  module _ (labels : Cells) (r : AreRegions band part labels) where
    pub band_most : (k : ℕ) → k < length labels → IsUpTo (first * n) (cell_at labels k)
    band_most k l = let m : k < cells_in band = omega (arith, l, r.full) in label_most k (cell_at part k) (cell_at labels k) m (r.each k m)

    abbrev moved : Cells
    moved = map (moved_label (first * n)) labels

    moved_is : (k : ℕ) → cell_at moved k ≡ moved_label (first * n) (cell_at labels k)
    moved_is k = get_or-map (moved_label (first * n)) labels k None

    moved_count : length moved ≡ cells_in band
    moved_count = length-map labels (moved_label (first * n)) ∙ r.full

    each : (k : ℕ) → k < length moved → IsProvisional s cells (at k) (cell_at cells (at k)) (cell_at moved k)
    each k l =
        let m : k < cells_in band = omega (arith, l, moved_count) in
        rw (moved_is k, ← band_at k m) (label_there k (cell_at part k) (cell_at labels k) (r.each k m))

    alike : (z : ℤ) (k l : ℕ) → k < length moved → l < length moved → Has s cells z (at k) → Has s cells z (at l) → is_neighbour s (at k) (at l) ≡ true → cell_at moved k ≡ cell_at moved l
    alike z k l a b h g e =
        let one : k < cells_in band = omega (arith, a, moved_count) in
        let other : l < cells_in band = omega (arith, b, moved_count) in
        let P : Option ℤ → Type 0 = λ c. IsLabelOf band part k c (cell_at labels k) in
        let Q : Option ℤ → Type 0 = λ c. IsLabelOf band part l c (cell_at labels l) in
        let p = subst P (has_here z k one h).1 (r.each k one) in
        let q = subst Q (has_here z l other g).1 (r.each l other) in
        let near = near_here k l e in
        let same : p.0 ≡ q.0 = omega (arith, first_near z k l p.0 q.0 p.2 q.2 (near_sym band k l near), first_near z l k q.0 p.0 q.2 p.2 near) in
        moved_is k ∙ ap (moved_label (first * n)) (p.1 ∙ ap (λ i. Some (pos (suc i))) same ∙ sym q.1) ∙ sym (moved_is l)

    pub band_is : (b : LabelBand) → b.first ≡ first → b.labels.items ≡ moved → b.count ≡ length (filter (λ i. is_some (cell_at labels i)) (places band)) → IsLabelBand s cells first end b
    band_is b row items counted = record {
      some = some;
      within = within;
      row = row;
      count = rw (items) moved_count;
      each = rw (items) each;
      alike = rw (items) alike;
      counted = rw (items) (counted ∙ sym (labels_counted band labels r.full) ∙ ap marks_in (sym (labelled_still (first * n) labels)));
    }

-- ---- the columns as they were told

module _ (s : Size) (cells : Cells) (first end columns : ℕ) (columns_are : columns ≡ s.columns) (z : Size) (z_is : z ≡ record { rows = end - first; columns = columns }) where
  pub told_count : IsSize s → length cells ≡ cells_in s → first < end → end ≤ s.rows → length (band_cells columns first end cells) ≡ cells_in z
  told_count size count some within = rw (z_is, columns_are) (band_count s cells first end size count some within)

  pub told_regions : (labels : Cells) → AreRegions z (band_cells columns first end cells) labels → AreRegions (band_size s first end) (band_cells s.columns first end cells) labels
  told_regions labels r =
      let P : ℕ → Type 0 = λ m. AreRegions (record { rows = end - first; columns = m }) (band_cells m first end cells) labels in
      subst P columns_are (subst (λ (x : Size). AreRegions x (band_cells columns first end cells) labels) z_is r)

  pub told_filter : (labels : Cells) (count : ℕ) → count ≡ length (filter (λ i. is_some (cell_at labels i)) (places z)) → count ≡ length (filter (λ i. is_some (cell_at labels i)) (places (band_size s first end)))
  told_filter labels count e =
      let is : z ≡ band_size s first end = z_is ∙ ap (λ m. let x : Size = record { rows = end - first; columns = m } in x) columns_are in
      e ∙ ap (λ (x : Size). length (filter (λ i. is_some (cell_at labels i)) (places x))) is
