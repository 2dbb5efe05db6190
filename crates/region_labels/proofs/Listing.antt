-- Labels in one list, where a place that has a label is one that was reached.
use Rattle.std.proofs.Common.{◌≡◌, ◌⊎◌, inl, inr, ℕ, suc, ◌+◌, ◌<◌, ◌≤◌, Bool, true, false, cond, List, [], ◌∷◌, ◌++◌, length, replicate, Option, Some, None, IsSome, refl, sym, ◌∙◌, ap, subst, arith, ℤ, pos}
use Rattle.std.specs.Prelude.{filter, is_some, slice_set}
use Rattle.std.proofs.Math.ListN.{get_or-map}
use Rattle.std.proofs.lemmas.Bool.{cases_lt, cases_Bool, cases_eq, both_ways}
use Rattle.std.proofs.lemmas.List.{map-set, length-map, get_or-set_same, get_or-set_other, get_or-replicate, get_or_past, length-replicate}
use Rattle.std.proofs.lemmas.List.Sums.{sum_by-cons}
use Rattle.map_nums.specs.Grids.{Size, Cells, cell_at, cells_in, places}
use Rattle.map_defs.specs.Cells.{same_cell}
use Rattle.map_defs.specs.Regions.{AreRegions}
use Rattle.map_defs.proofs.RegionCells.{same_so}
use Rattle.region_labels.specs.Flood.{is_marked, one_if, marks_in, Holds, FloodState, reached, IsFlooded}
use Rattle.region_labels.specs.Repairs.{IsLabelling, IsLabelled, IsLabelStep, IsHandled}
use Rattle.region_labels.specs.Lists.{ListState, labelled, flood_of, MayGet, AreHandledTo}
use Rattle.region_labels.proofs.Flooding.{held}
use Rattle.region_labels.proofs.Labelling.{step_region}
use Rattle.region_labels.proofs.Results.{first_now}
use Rattle.region_labels.proofs.Touched.{marks_filter}

-- ---- which places have a label

pub labelled_at : (labels : Cells) (i : ℕ) → is_marked (labelled labels) i ≡ is_some (cell_at labels i)
labelled_at labels i = get_or-map is_some labels i None

none_of : (o : Option ℤ) → is_some o ≡ false → o ≡ None
none_of None e = refl
none_of (Some z) e = absurd (both_ways true e refl)

none_labelled : (labels : Cells) (i : ℕ) → cell_at labels i ≡ None → is_marked (labelled labels) i ≡ false
none_labelled labels i e = labelled_at labels i ∙ ap is_some e

pub no_labels : (n i : ℕ) → cell_at (replicate n None) i ≡ None
no_labels n i = elim (cases_lt i n) as (λ _. cell_at (replicate n None) i ≡ None) [
  | inl l ↦ get_or-replicate n i None None l
  | inr l ↦ get_or_past (replicate n None) i None (omega (arith, l, length-replicate {A = Option ℤ} n None))
]

none_marked : (labels : Cells) → ((i : ℕ) → cell_at labels i ≡ None) → marks_in (labelled labels) ≡ 0
none_marked [] h = refl
none_marked (None ∷ labels) h = omega (arith, none_marked labels (λ i. h (suc i)), sum_by-cons one_if false (labelled labels))
none_marked (Some z ∷ labels) h = let e : Some z ≡ None = h 0 in cc

pub none_counted : (labels : Cells) (n : ℕ) → labels ≡ replicate n None → marks_in (labelled labels) ≡ 0
none_counted labels n e = none_marked labels (λ i. ap (λ (xs : Cells). cell_at xs i) e ∙ no_labels n i)

-- ---- one more place

pub flood_added : (label : Option ℤ) (j : ℕ) (l : ListState) → IsSome label → flood_of (record l { labels = slice_set l.labels j label; found = l.found ++ j ∷ [] }) ≡ record (flood_of l) { marks = slice_set (labelled l.labels) j true; found = l.found ++ j ∷ [] }
flood_added label j l some = ap (λ (marks : List Bool). let f : FloodState = record { size = l.size; marks = marks; found = l.found ++ j ∷ [] } in f) (map-set is_some l.labels j label ∙ ap (λ b. slice_set (labelled l.labels) j b) some)

-- a place that gets a label is reached
pub flood_reached : (cells : Cells) (value label : Option ℤ) (j : ℕ) (l : ListState) → IsSome label → is_some (cell_at l.labels j) ≡ false → cell_at cells j ≡ value → flood_of (record l { labels = slice_set l.labels j label; found = l.found ++ j ∷ [] }) ≡ reached cells value j (flood_of l)
flood_reached cells value label j l some none same =
    let f = flood_of l in
    let g : FloodState = record f { marks = slice_set f.marks j true; found = f.found ++ j ∷ [] } in
    flood_added label j l some
    ∙ sym (ap (λ b. cond b f (cond (same_cell (cell_at cells j) value) g f)) (labelled_at l.labels j ∙ none) ∙ ap (λ b. cond b g f) (same_so (cell_at cells j) value same))

pub may_stay : (label : Option ℤ) (labels : Cells) → MayGet label labels labels
may_stay label labels i = inl refl

pub may_then : (label : Option ℤ) (a b c : Cells) → MayGet label a b → MayGet label b c → MayGet label a c
may_then label a b c p q i = elim (q i) as (λ _. (cell_at c i ≡ cell_at a i) ⊎ ((cell_at a i ≡ None) × (cell_at c i ≡ label))) [
  | inl e ↦ elim (p i) as (λ _. (cell_at c i ≡ cell_at a i) ⊎ ((cell_at a i ≡ None) × (cell_at c i ≡ label))) [ inl d ↦ inl (e ∙ d) | inr d ↦ inr (d.0, e ∙ d.1) ]
  | inr e ↦ elim (p i) as (λ _. (cell_at c i ≡ cell_at a i) ⊎ ((cell_at a i ≡ None) × (cell_at c i ≡ label))) [ inl d ↦ inr (sym d ∙ e.0, e.1) | inr d ↦ inr (d.0, e.1) ]
]

may_set : (label : Option ℤ) (labels : Cells) (j : ℕ) → j < length labels → cell_at labels j ≡ None → MayGet label labels (slice_set labels j label)
may_set label labels j l none i = elim (cases_eq i j) as (λ _. (cell_at (slice_set labels j label) i ≡ cell_at labels i) ⊎ ((cell_at labels i ≡ None) × (cell_at (slice_set labels j label) i ≡ label))) [
  | inl e ↦ inr (ap (cell_at labels) e ∙ none, ap (cell_at (slice_set labels j label)) e ∙ get_or-set_same labels j label None l)
  | inr n ↦ inl (get_or-set_other labels j i label None n)
]

pub may_added : (label : Option ℤ) (labels new : Cells) (j : ℕ) → j < length labels → is_some (cell_at labels j) ≡ false → new ≡ slice_set labels j label → MayGet label labels new
may_added label labels new j l e is = let P : Cells → Type 0 = MayGet label labels in subst P (sym is) (may_set label labels j l (none_of (cell_at labels j) e))

-- ---- a region

module _ (s : Size) (cells : Cells) (z : ℤ) (root : ℕ) (old : Cells) (l : ListState) (h : IsFlooded s cells z root (labelled old) (flood_of l)) (full : length old ≡ cells_in s) where
  -- its places have the label
  region_labelled : (label : Option ℤ) → MayGet label old l.labels → IsLabelled l.found label old l.labels
  region_labelled label may = record {
    count = sym (length-map l.labels is_some) ∙ h.flooding.size ∙ sym full;
    done = λ i d. let f = held s cells z root (labelled old) (flood_of l) h.flooding i d in
        elim (may i) as (λ _. cell_at l.labels i ≡ label) [
          | inl e ↦ absurd (both_ways (is_marked (labelled l.labels) i) (labelled_at l.labels i ∙ ap is_some e ∙ sym (labelled_at old i) ∙ f.fresh) f.marked)
          | inr e ↦ e.1
        ];
    other = λ i n. elim (may i) as (λ _. cell_at l.labels i ≡ cell_at old i) [
      | inl e ↦ e
      | inr e ↦ elim (cases_Bool (is_marked (labelled l.labels) i)) as (λ _. cell_at l.labels i ≡ cell_at old i) [
        | inl b ↦ absurd (n (h.flooding.only i b (none_labelled old i e.0)))
        | inr b ↦ none_of (cell_at l.labels i) (sym (labelled_at l.labels i) ∙ b) ∙ sym e.0
      ]
    ];
  }

  -- its root is its first place where all places before were labelled
  root_low : AreHandledTo cells old root → (j : ℕ) → Holds l.found j → root ≤ j
  root_low before j d =
      let f = held s cells z root (labelled old) (flood_of l) h.flooding j d in
      elim (cases_lt j root) as (λ _. root ≤ j) [
        | inl k ↦ absurd (both_ways (is_marked (labelled old) j) f.fresh (before j k (ap is_some f.has.1)))
        | inr k ↦ k
      ]

  pub region_step : AreHandledTo cells old root → MayGet (Some (pos (suc root))) old l.labels → IsLabelStep s cells old (labelled old) l.labels (labelled l.labels)
  region_step before may =
      step_region s cells z root root (labelled old) (flood_of l) h h.flooding.root_found (root_low before) old l.labels (region_labelled (Some (pos (suc root))) may) (length-map old is_some ∙ full)

  pub root_handled : IsHandled cells (labelled l.labels) root
  root_handled some = (held s cells z root (labelled old) (flood_of l) h.flooding root h.flooding.root_found).marked

  pub region_counted : marks_in (labelled l.labels) ≡ marks_in (labelled old) + length l.found
  region_counted = h.flooding.counted

-- ---- all regions

pub step_none : (s : Size) (cells labels : Cells) (marks : List Bool) → IsLabelStep s cells labels marks labels marks
step_none s cells labels marks = record { keeps = λ begun h. h; marked = λ i e. e; size = refl; more = omega arith }

pub labels_right : (s : Size) (cells begun labels : Cells) → length begun ≡ cells_in s → length labels ≡ cells_in s → begun ≡ replicate (cells_in s) None → IsLabelStep s cells begun (labelled begun) labels (labelled labels) → AreHandledTo cells labels (cells_in s) → AreRegions s cells labels
labels_right s cells begun labels full count none step handled =
    let none_at : (i : ℕ) → cell_at begun i ≡ None = λ i. ap (λ (xs : Cells). cell_at xs i) none ∙ no_labels (cells_in s) i in
    let l : IsLabelling s cells begun begun (labelled begun) = record {
      size = length-map begun is_some ∙ full;
      whole = λ z i m. absurd (both_ways (is_marked (labelled begun) i) (none_labelled begun i (none_at i)) m);
      right = λ i m. absurd (both_ways (is_marked (labelled begun) i) (none_labelled begun i (none_at i)) m);
      other = λ i u. refl;
    } in
    first_now s cells begun labels (labelled labels) (λ i _. none_at i) (step.keeps begun l) handled count

pub labels_counted : (s : Size) (labels : Cells) → length labels ≡ cells_in s → marks_in (labelled labels) ≡ length (filter (λ i. is_some (cell_at labels i)) (places s))
labels_counted s labels n = marks_filter s (λ i. is_some (cell_at labels i)) (labelled labels) (length-map labels is_some ∙ n) (λ i l. labelled_at labels i)
