-- After all steps the labels are the regions.
use Rattle.std.proofs.Common.{◌≡◌, ◌⊎◌, inl, inr, ℕ, zero, suc, ◌+◌, ◌<◌, ◌≤◌, Bool, false, List, length, get_or, take, map, replicate, Option, Some, None, IsSome, refl, sym, ◌∙◌, ap, subst, arith, ℤ}
use Rattle.std.proofs.lemmas.Bool.{cases_lt, cases_Bool, cases_eq, both_ways}
use Rattle.std.proofs.lemmas.List.{get_or-replicate, length-replicate, get_or_past, ext_get_or}
use Rattle.std.proofs.lemmas.List.FromFn.{get_or-map-range_with_len, length-map-range_with_len}
use Rattle.map_nums.specs.Grids.{Size, Cells, cell_at, cells_in, places}
use Rattle.map_defs.specs.Cells.{same_cell}
use Rattle.map_defs.specs.Regions.{IsLabelOf, IsRegionLabel, AreRegions}
use Rattle.map_defs.proofs.RegionCells.{same_is, same_so}
use Rattle.layer_tiles.specs.Tiles.{Block}
use Rattle.layer_tiles.specs.Patches.{patched}
use Rattle.tile_work.specs.Working.{base_of, begun_cells}
use Rattle.region_labels.specs.Flood.{is_marked, Holds}
use Rattle.region_labels.specs.Repairs.{IsLabelling, IsHandled, AreHandledRound, IsClearedAt, IsCleared, HoldsChanged}
use Rattle.region_labels.proofs.Repairs.{label_kept}
use Rattle.region_labels.proofs.Labelling.{take_holds, holds_take, take_last}

-- before the first step
pub no_marks : (n i : ℕ) → is_marked (replicate n false) i ≡ false
no_marks n i = elim (cases_lt i n) as (λ _. is_marked (replicate n false) i ≡ false) [
  | inl l ↦ get_or-replicate n i false false l
  | inr l ↦ get_or_past (replicate n false) i false (omega (arith, l, length-replicate n false))
]

pub labelling_begun : (s : Size) (now labels : Cells) (n : ℕ) → n ≡ cells_in s → IsLabelling s now labels labels (replicate n false)
labelling_begun s now labels n e = record {
  size = length-replicate n false ∙ e;
  whole = λ z i m. absurd (both_ways (is_marked (replicate n false) i) (no_marks n i) m);
  right = λ i m. absurd (both_ways (is_marked (replicate n false) i) (no_marks n i) m);
  other = λ i u. refl;
}

null_label : (s : Size) (now : Cells) (i : ℕ) (label : Option ℤ) → cell_at now i ≡ None → label ≡ None → IsRegionLabel s now i label
null_label s now i label e n = let P : Option ℤ → Type 0 = λ c. IsLabelOf s now i c label in subst P (sym e) n

null_was : (s : Size) (was : Cells) (i : ℕ) (label : Option ℤ) → cell_at was i ≡ None → IsRegionLabel s was i label → label ≡ None
null_was s was i label e r = let P : Option ℤ → Type 0 = λ c. IsLabelOf s was i c label in subst P e r

some_of : (c : Option ℤ) → (c ≡ None) ⊎ IsSome c
some_of None = inl refl
some_of (Some z) = inr refl

-- a list has a place or not
held_to : (found : List ℕ) (i n : ℕ) → n ≤ length found → Holds found i ⊎ ((k : ℕ) → k < n → get_or found k 0 ≡ i → ⊥)
held_to found i zero l = inr (λ k m. absurd (omega (arith, m)))
held_to found i (suc n) l = elim (held_to found i n (omega arith)) as (λ _. Holds found i ⊎ ((k : ℕ) → k < suc n → get_or found k 0 ≡ i → ⊥)) [
  | inl h ↦ inl h
  | inr h ↦ elim (cases_eq (get_or found n 0) i) as (λ _. Holds found i ⊎ ((k : ℕ) → k < suc n → get_or found k 0 ≡ i → ⊥)) [
    | inl e ↦ inl (n, omega arith, e)
    | inr e ↦ inr (λ k m q. elim (cases_lt k n) as (λ _. ⊥) [ inl p ↦ h k p q | inr p ↦ (let z : k ≡ n = omega (arith, m, p) in e (ap (λ j. get_or found j 0) (sym z) ∙ q)) ])
  ]
]

is_held : (found : List ℕ) (i : ℕ) → Holds found i ⊎ (Holds found i → ⊥)
is_held found i = elim (held_to found i (length found) (omega arith)) as (λ _. Holds found i ⊎ (Holds found i → ⊥)) [ inl h ↦ inl h | inr h ↦ inr (λ d. h d.0 d.1 d.2) ]

-- ---- after a repair

module _ (s : Size) (was now old cleared labels : Cells) (changed : List ℕ) (marks : List Bool) (right : AreRegions s was old) (all : HoldsChanged s was now changed) (clear : IsCleared now changed old cleared) (l : IsLabelling s now cleared labels marks) (handled : (k : ℕ) → k < length changed → AreHandledRound s now marks (get_or changed k 0)) where
  handled_at : (c : ℕ) → Holds changed c → AreHandledRound s now marks c
  handled_at c h = let P : ℕ → Type 0 = AreHandledRound s now marks in subst P h.2 (handled h.0 h.1)

  -- the label is the one that stood there
  kept_here : (i : ℕ) → is_marked marks i ≡ false → (Holds changed i → IsSome (cell_at now i)) → cell_at labels i ≡ cell_at old i
  kept_here i u some = l.other i u ∙ clear.other i some

  null_here : (i : ℕ) → i < cells_in s → is_marked marks i ≡ false → cell_at now i ≡ None → cell_at labels i ≡ None
  null_here i m u e = elim (cases_Bool (same_cell (cell_at was i) (cell_at now i))) as (λ _. cell_at labels i ≡ None) [
    | inl q ↦ (let same = same_is (cell_at was i) (cell_at now i) q in
        let before : cell_at old i ≡ None = null_was s was i (cell_at old i) (same ∙ e) (right.each i m) in
        elim (is_held changed i) as (λ _. cell_at labels i ≡ None) [
          | inl h ↦ l.other i u ∙ clear.here i h e
          | inr h ↦ kept_here i u (λ d. absurd (h d)) ∙ before
        ])
    | inr q ↦ l.other i u ∙ clear.here i (all i m (λ p. both_ways (same_cell (cell_at was i) (cell_at now i)) q (same_so (cell_at was i) (cell_at now i) p))) e
  ]

  pub label_now : (i : ℕ) → i < cells_in s → IsRegionLabel s now i (cell_at labels i)
  label_now i m = elim (cases_Bool (is_marked marks i)) as (λ _. IsRegionLabel s now i (cell_at labels i)) [
    | inl e ↦ l.right i e
    | inr u ↦ elim (some_of (cell_at now i)) as (λ _. IsRegionLabel s now i (cell_at labels i)) [
      | inl e ↦ null_label s now i (cell_at labels i) e (null_here i m u e)
      | inr some ↦ (let P : Option ℤ → Type 0 = IsRegionLabel s now i in
          subst P (sym (kept_here i u (λ _. some)))
          (label_kept s was now marks l.whole (λ c k q. handled_at c (all c k q)) i (cell_at old i) m u (cell_at now i) refl some (right.each i m)))
    ]
  ]

  pub regions_now : length labels ≡ cells_in s → AreRegions s now labels
  regions_now n = record { full = n; each = label_now }

-- ---- after the first labelling

pub first_now : (s : Size) (now begun labels : Cells) (marks : List Bool) → ((i : ℕ) → i < cells_in s → cell_at begun i ≡ None) → IsLabelling s now begun labels marks → ((i : ℕ) → i < cells_in s → IsHandled now marks i) → length labels ≡ cells_in s → AreRegions s now labels
first_now s now begun labels marks none l handled n = record {
  full = n;
  each = λ i m. elim (cases_Bool (is_marked marks i)) as (λ _. IsRegionLabel s now i (cell_at labels i)) [
    | inl e ↦ l.right i e
    | inr u ↦ elim (some_of (cell_at now i)) as (λ _. IsRegionLabel s now i (cell_at labels i)) [
      | inl e ↦ null_label s now i (cell_at labels i) e (l.other i u ∙ none i m)
      | inr some ↦ absurd (both_ways (is_marked marks i) u (handled i m some))
    ]
  ];
}

-- ---- clearing

pub cleared_more : (now : Cells) (changed : List ℕ) (old cells new : Cells) (k at : ℕ) → k < length changed → at ≡ get_or changed k 0 → IsClearedAt now at cells new → IsCleared now (take k changed) old cells → IsCleared now (take (k + 1) changed) old new
cleared_more now changed old cells new k at l e c h = record {
  count = c.count ∙ h.count;
  here = λ i d n. elim (take_holds changed k i l d) as (λ _. cell_at new i ≡ None) [
    | inl q ↦ (let z : i ≡ at = q ∙ sym e in ap (cell_at new) z ∙ c.here (ap (cell_at now) (sym z) ∙ n))
    | inr q ↦ elim (cases_eq i at) as (λ _. cell_at new i ≡ None) [
      | inl z ↦ ap (cell_at new) z ∙ c.here (ap (cell_at now) (sym z) ∙ n)
      | inr z ↦ c.other i (λ w. absurd (z w)) ∙ h.here i q n
    ]
  ];
  other = λ i some. c.other i (λ w. some (let P : ℕ → Type 0 = Holds (take (k + 1) changed) in subst P (sym (w ∙ e)) (take_last changed k l))) ∙ h.other i (λ d. some (holds_take changed k i l d));
}

-- ---- the layer that is worked on

pub begun_same : (s : Size) (cells : Cells) → length cells ≡ cells_in s → begun_cells s (Some cells) ≡ cells
unfolding begun_cells
begun_same s cells n =
    ext_get_or None (map (cell_at cells) (places s)) cells (length-map-range_with_len (cell_at cells) 0 (cells_in s) ∙ sym n)
    (λ i l. let m : i < cells_in s = omega (arith, l, length-map-range_with_len (cell_at cells) 0 (cells_in s)) in get_or-map-range_with_len (cell_at cells) 0 (cells_in s) i i None m (omega arith))

pub made : (s z : Size) (before : Option (List (Option ℤ))) (base cells : Cells) (tiles : List (ℕ × Block)) → z ≡ s → base_of before ≡ base → patched z (base_of before) tiles ≡ cells → patched s base tiles ≡ cells
made s z before base cells tiles e f m = ap (λ (x : Size). patched x base tiles) (sym e) ∙ ap (λ (xs : Cells). patched z xs tiles) (sym f) ∙ m
