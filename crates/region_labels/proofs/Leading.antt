-- Labels that lead to one place in each region lead to its first place.
use Rattle.std.proofs.Common.{◌≡◌, ℕ, ◌+◌, ◌*◌, ◌<◌, ◌≤◌, ◌++◌, List, [], ◌∷◌, length, drop, get_or, false, Option, Some, None, refl, sym, ◌∙◌, ap, subst, arith, ℤ}
use Rattle.std.specs.Prelude.{filter, is_some}
use Rattle.std.specs.List.{All}
use Rattle.std.proofs.lemmas.List.Elements.{All-cons}
use Rattle.std.proofs.lemmas.List.{ext_get_or, length-map, length-append, drop_more, drop_all}
use Rattle.std.proofs.lemmas.List.FromFn.{get_or-map-range_with_len, length-map-range_with_len}
use Rattle.std.proofs.lemmas.List.Sums.{sum_by-append}
use Rattle.std.proofs.lemmas.Nat.{mul-le}
use Rattle.map_nums.specs.Grids.{Size, Cells, cell_at, cells_in, places}
use Rattle.map_defs.specs.Regions.{Has, WalkTo, IsFirstJoined, IsLabelOf, IsRegionLabel, AreRegions}
use Rattle.region_labels.specs.Flood.{one_if, marks_in}
use Rattle.region_labels.specs.Lists.{labelled}
use Rattle.region_labels.specs.Provisional.{IsProvisional, AreProvisional, AreTied, IsJoinStep, IsLabelBand, AreLabelBands, IsLabelList}
use Rattle.region_labels.specs.Roots.{root_in, numbered, resolved, resolved_cells}
use Rattle.region_labels.specs.declared.bands.LabelBand.{LabelBand}
use Rattle.region_labels.specs.declared.shows.ProvisionalLabels.{ProvisionalLabels}
use Rattle.region_labels.proofs.Listing.{labelled_at, labels_counted}
use Rattle.region_labels.proofs.Moving.{rows_apart}
use Rattle.region_labels.proofs.Rows.{marks_most}
use Rattle.region_labels.proofs.Seams.{step_count}
use Rattle.region_labels.proofs.Tying.{back_of, root_joined, root_least}
use Rattle.region_labels.proofs.Walks.{ends, short, joined_long}

numbered_some : (root : ℕ) (label : Option ℤ) → is_some (numbered root label) ≡ is_some label
numbered_some root None = refl
numbered_some root (Some z) = refl

module _ (s : Size) (cells labels : Cells) (full : length labels ≡ cells_in s) (h : AreProvisional s cells labels) (tied : AreTied s cells labels) where
  abbrev shown : Cells
  shown = resolved_cells s labels

  shown_count : length shown ≡ cells_in s
  shown_count = length-map-range_with_len (resolved labels) 0 (cells_in s)

  shown_at : (i : ℕ) → i < cells_in s → cell_at shown i ≡ resolved labels i
  shown_at i l = get_or-map-range_with_len (resolved labels) 0 (cells_in s) i i None l (omega arith)

  -- a walk leads to one place
  one_root : (z : ℤ) (first i : ℕ) (js : List ℕ) → WalkTo s cells z first i js → root_in labels first ≡ root_in labels i
  one_root z first i [] w = ap (root_in labels) (sym w.1)
  one_root z first i (j ∷ js) w = let at = ends s cells z first j js w.2 in one_root z first j js w.2 ∙ tied z j i (omega (arith, at.0, full)) (omega (arith, w.0.0, full)) at w.0 w.1

  root_first : (z : ℤ) (i : ℕ) → Has s cells z i → IsFirstJoined s cells z i (root_in labels i)
  root_first z i has = record {
    joined = short s cells z (root_in labels i) i (root_joined s cells labels h z i (omega (arith, has.0, full)) has);
    least = λ j w. let w' = joined_long s cells z j i w in omega (arith, root_least s cells labels h j, one_root z j i w'.0 w'.1);
  }

  label_right : (i : ℕ) → i < cells_in s → (cell label : Option ℤ) → cell ≡ cell_at cells i → IsProvisional s cells i cell label → IsLabelOf s cells i cell (numbered (root_in labels i) label)
  label_right i l None label e p = ap (numbered (root_in labels i)) p
  label_right i l (Some z) label e p = (root_in labels i, ap (numbered (root_in labels i)) p.1, root_first z i (l, sym e))

  regions : AreRegions s cells shown
  regions = record {
    full = shown_count;
    each = λ i l. subst (IsRegionLabel s cells i) (sym (shown_at i l)) (label_right i l (cell_at cells i) (cell_at labels i) refl (h i (omega (arith, l, full))));
  }

  same_marks : labelled shown ≡ labelled labels
  same_marks =
      ext_get_or false (labelled shown) (labelled labels) (length-map shown is_some ∙ shown_count ∙ sym full ∙ sym (length-map labels is_some))
      (λ i l. labelled_at shown i ∙ ap is_some (shown_at i (omega (arith, l, length-map shown is_some, shown_count))) ∙ numbered_some (root_in labels i) (cell_at labels i) ∙ sym (labelled_at labels i))

  counted : marks_in (labelled labels) ≡ length (filter (λ i. is_some (cell_at shown i)) (places s))
  counted = ap marks_in (sym same_marks) ∙ labels_counted s shown shown_count

  list_is : (list : ProvisionalLabels) → list.labels.items ≡ labels → list.worked ≡ cells_in s + marks_in (labelled labels) → IsLabelList s cells list
  list_is list items worked = record {
    back = rw (items) (back_of s cells labels h);
    count = ap length items ∙ full;
    regions = rw (items) regions;
    worked = rw (items) (worked ∙ ap (λ n. cells_in s + n) counted);
  }

-- so they do after more places were joined
pub step_list : (s : Size) (cells old new : Cells) → length old ≡ cells_in s → IsJoinStep s cells old new → AreTied s cells old → (list : ProvisionalLabels) → list.labels.items ≡ new → list.worked ≡ cells_in s + marks_in (labelled old) → IsLabelList s cells list
step_list s cells old new full step tied list items worked =
    let n = step_count s cells old new step in
    list_is s cells new (n ∙ full) step.provisional (λ z i j l m p q near. step.tied i j (tied z i j (omega (arith, l, n)) (omega (arith, m, n)) p q near)) list items (worked ∙ ap (λ ms. cells_in s + marks_in ms) (sym step.marks))

-- ---- bands in their order

pub bands_within : (s : Size) (cells : Cells) (row : ℕ) (bands : List LabelBand) → AreLabelBands s cells row bands → All (λ (band : LabelBand). band.first < s.rows) bands
bands_within s cells row [] h = λ k d l. absurd (omega (arith, l))
bands_within s cells row (band ∷ bands) h = let is = h.1 in All-cons (λ (band : LabelBand). band.first < s.rows) band bands (omega (arith, is.row, is.some, is.within)) (bands_within s cells h.0 bands h.2)

pub next_band : (s : Size) (cells : Cells) (bands : List LabelBand) (k row : ℕ) (band : LabelBand) → k < length bands → band ≡ get_or bands k band → AreLabelBands s cells row (drop k bands) → (end : ℕ) × IsLabelBand s cells row end band × AreLabelBands s cells end (drop (k + 1) bands)
next_band s cells bands k row band l e h =
    let d : drop k bands ≡ band ∷ drop (k + 1) bands = drop_more bands k band l ∙ ap (λ (x : LabelBand). x ∷ drop (k + 1) bands) (sym e) in
    subst (λ (bs : List LabelBand). AreLabelBands s cells row bs) d h

pub marks_joined : (xs ys new : Cells) → labelled new ≡ labelled xs ++ labelled ys → marks_in (labelled new) ≡ marks_in (labelled xs) + marks_in (labelled ys)
marks_joined xs ys new e = ap marks_in e ∙ sum_by-append one_if (labelled xs) (labelled ys)

pub count_joined : (xs ys new : Cells) → labelled new ≡ labelled xs ++ labelled ys → length new ≡ length xs + length ys
count_joined xs ys new e = omega (arith, length-map new is_some, ap length e, length-append (labelled xs) (labelled ys), length-map xs is_some, length-map ys is_some)

-- the first rows to before the band's end have labels now
pub rows_joined : (s : Size) (cells labels new : Cells) (band : LabelBand) (row end : ℕ) → length labels ≡ row * s.columns → IsLabelBand s cells row end band → labelled new ≡ labelled labels ++ labelled band.labels.items → length new ≡ end * s.columns
rows_joined s cells labels new band row end above is e = omega (arith, count_joined labels band.labels.items new e, above, is.count, rows_apart row end s.columns (omega (arith, is.some)))

pub few_marks : (s : Size) (labels : Cells) (row : ℕ) → length labels ≡ row * s.columns → row ≤ s.rows → marks_in (labelled labels) ≤ cells_in s
few_marks s labels row e l = omega (arith, marks_most (labelled labels), length-map labels is_some, e, mul-le row s.columns s.rows s.columns l (omega arith))

pub rows_all : (s : Size) (cells : Cells) (bands : List LabelBand) (k row : ℕ) → length bands ≤ k → AreLabelBands s cells row (drop k bands) → row ≡ s.rows
rows_all s cells bands k row l h = subst (λ (bs : List LabelBand). AreLabelBands s cells row bs) (drop_all k bands l) h
