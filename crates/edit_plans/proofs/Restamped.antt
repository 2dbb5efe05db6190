-- The stamps of a layer that is put in place are those of the state after.
use Rattle.std.proofs.Common.{◌≡◌, ℕ, zero, suc, ◌+◌, ◌*◌, ◌/◌, ◌%◌, ◌<◌, ◌≤◌, inl, inr, Bool, true, false, cond, not, ◌==◌, List, [], ◌∷◌, map, get_or, replicate, Option, Some, None, unwrap_or, refl, sym, ap, ◌∙◌, arith, if◌then◌else◌}
use Rattle.std.specs.Prelude.{filter}
use Rattle.std.specs.List.{range_with_len, list_any}
use Rattle.std.proofs.lemmas.Bool.{true≢false, false≢true, both_ways, or_left, or_right, or_cases, eqb-true, eq-eqb, cases_eq, cases_Bool, not-false, false_from_ne_true}
use Rattle.std.proofs.lemmas.List.{length-replicate, get_or-replicate}
use Rattle.std.proofs.lemmas.List.FromFn.{fill_by_all}
use Rattle.map_nums.specs.Grids.{Size, IsSize, Cells, cell_at, cells_in}
use Rattle.map_nums.specs.Tiles.{tiles}
use Rattle.map_defs.specs.Ops.{Name}
use Rattle.map_defs.specs.Cells.{same_cell}
use Rattle.map_defs.specs.Differences.{differs, tile_has, changed_tiles}
use Rattle.map_defs.proofs.RegionCells.{same_is, same_so}
use Rattle.layer_tiles.specs.Tiles.{tiles_in, tile_of, tile_start, tile_height, tile_width, tile_cells}
use Rattle.layer_tiles.specs.Layers.{IsStamped, IsChangedTile}
use Rattle.layer_tiles.proofs.Rounds.{here, back, IsAt}
use Rattle.layer_tiles.proofs.Strides.{same_tile, get_or-strided}
use Rattle.map_edits.specs.WholeStates.{WholeState, cells_of, stamps_of}
use Rattle.map_edits.specs.LayerChanges.{now_of, changed_of}
use Rattle.edit_plans.specs.StampLaws.{OldIsStamped, NewIsStamped}
use Rattle.map_edits.proofs.Cuts.{filter_all}

-- ---- numbers in a row that pass two tests

pub any_so : (p q : ℕ → Bool) (a n i : ℕ) → a ≤ i → i < a + n → p i ≡ true → q i ≡ true → list_any p (filter q (range_with_len a n)) ≡ true
any_so p q a zero i low high e f = absurd (omega arith)
any_so p q a (suc n) i low high e f = elim (cases_eq a i) [
  | inl same ↦ rw (ap q same ∙ f) (or_left (p a) (list_any p rest) (ap p same ∙ e))
  | inr other ↦ behind (q a) (any_so p q (a + 1) n i (omega (arith, other)) (omega arith) e f)
]
  where
    rest : List ℕ
    rest = filter q (range_with_len (a + 1) n)

    behind : (b : Bool) → list_any p rest ≡ true → list_any p (cond b (a ∷ rest) rest) ≡ true
    behind true h = or_right (p a) (list_any p rest) h
    behind false h = h

pub record IsAnyOf (p q : ℕ → Bool) (a n : ℕ) : Type 0 where
  pub place : ℕ
  pub from : a ≤ place
  pub below : place < a + n
  pub first : p place ≡ true
  pub second : q place ≡ true

pub any_is : (p q : ℕ → Bool) (a n : ℕ) → list_any p (filter q (range_with_len a n)) ≡ true → IsAnyOf p q a n
any_is p q a zero e = absurd (false≢true e)
any_is p q a (suc n) e = elim (cases_Bool (q a)) [
  | inl f ↦ elim (or_cases (p a) (list_any p rest) (rw f at e)) [
    | inl h ↦ record { place = a; from = omega arith; below = omega arith; first = h; second = f }
    | inr h ↦ later (any_is p q (a + 1) n h)
  ]
  | inr f ↦ later (any_is p q (a + 1) n (rw f at e))
]
  where
    rest : List ℕ
    rest = filter q (range_with_len (a + 1) n)

    later : IsAnyOf p q (a + 1) n → IsAnyOf p q a (suc n)
    later r = record { place = r.place; from = omega (arith, r.from); below = omega (arith, r.below); first = r.first; second = r.second }

-- a number is among those that pass exactly where it passes
among_passing : (q : ℕ → Bool) (n k : ℕ) → k < n → list_any (λ j. j == k) (filter q (range_with_len 0 n)) ≡ q k
among_passing q n k below = elim (cases_Bool (q k)) [
  | inl e ↦ any_so (λ j. j == k) q 0 n k (omega arith) (omega arith) (eq-eqb k k refl) e ∙ sym e
  | inr e ↦ false_from_ne_true (list_any (λ j. j == k) (filter q (range_with_len 0 n))) (λ f.
      let r = any_is (λ j. j == k) q 0 n f in
      both_ways (q k) e (ap q (sym (eqb-true r.place k r.first)) ∙ r.second)) ∙ sym e
]

-- ---- a tile differs exactly where it has a cell that differs

module _ (s : Size) (before after : Cells) (t : ℕ) (size : IsSize s) (within : t < tiles_in s) where
  not_differs : (i : ℕ) → differs before after i ≡ false → cell_at before i ≡ cell_at after i
  not_differs i e = same_is (cell_at before i) (cell_at after i) (not-false (same_cell (cell_at before i) (cell_at after i)) e)

  same_where_none : tile_has s (differs before after) t ≡ false → tile_cells s before t ≡ tile_cells s after t
  same_where_none e = same_tile s before after t
      (λ r c p q. let w = here s t r c size within p q in
      let i = tile_start s t + r * s.columns + c in
      by_test i w.within w.tile (differs before after i) refl)
    where
      by_test : (i : ℕ) → i < cells_in s → tile_of s i ≡ t → (b : Bool) → differs before after i ≡ b → cell_at before i ≡ cell_at after i
      by_test i l h true f = absurd (both_ways (tile_has s (differs before after) t) e (any_so (λ i. tile_of s i == t) (differs before after) 0 (cells_in s) i (omega arith) (omega arith) (eq-eqb (tile_of s i) t h) f))
      by_test i l h false f = not_differs i f

  other_where_some : tile_has s (differs before after) t ≡ true → IsChangedTile s before after t
  other_where_some e same =
      let r = any_is (λ i. tile_of s i == t) (differs before after) 0 (cells_in s) e in
      let i = r.place in
      let at = back s i size (omega (arith, r.below)) in
      let tile : tile_of s i ≡ t = eqb-true (tile_of s i) t r.first in
      let one : cell_at before i ≡ get_or (tile_cells s before (tile_of s i)) (i / s.columns % 32 * tile_width s (tile_of s i) + i % s.columns % 32) None = cell_in before i at in
      let other : cell_at after i ≡ get_or (tile_cells s after (tile_of s i)) (i / s.columns % 32 * tile_width s (tile_of s i) + i % s.columns % 32) None = cell_in after i at in
      let equal : cell_at before i ≡ cell_at after i =
      one ∙ ap (λ u. get_or (tile_cells s before u) (i / s.columns % 32 * tile_width s (tile_of s i) + i % s.columns % 32) None) tile
      ∙ ap (λ cs. get_or cs (i / s.columns % 32 * tile_width s (tile_of s i) + i % s.columns % 32) None) same
      ∙ ap (λ u. get_or (tile_cells s after u) (i / s.columns % 32 * tile_width s (tile_of s i) + i % s.columns % 32) None) (sym tile) ∙ sym other in
      true≢false (sym r.second ∙ ap not (same_so (cell_at before i) (cell_at after i) equal))
    where
      cell_in : (cells : Cells) (i : ℕ) → IsAt s i → cell_at cells i ≡ get_or (tile_cells s cells (tile_of s i)) (i / s.columns % 32 * tile_width s (tile_of s i) + i % s.columns % 32) None
      cell_in cells i at =
          ap (cell_at cells) (sym at.place)
          ∙ sym (get_or-strided cells (tile_start s (tile_of s i)) s.columns (tile_height s (tile_of s i)) (tile_width s (tile_of s i)) (i / s.columns % 32) (i % s.columns % 32) (i / s.columns % 32 * tile_width s (tile_of s i) + i % s.columns % 32) None at.row at.column refl)

-- ---- stamps

abbrev stamp_by : List ℕ → ℕ → List ℕ → ℕ → ℕ
stamp_by changed number old k = if list_any (λ j. j == k) changed then number else get_or old k 0

old_stamped : (s : Size) (before after : Cells) (stamp : ℕ) (old new : List ℕ) → IsSize s → IsStamped s before after stamp old new → new ≡ map (stamp_by (changed_tiles s (Some before) after) stamp old) (tiles s)
unfolding changed_tiles
old_stamped s before after stamp old new size h =
    fill_by_all (stamp_by (changed_tiles s (Some before) after) stamp old) new (tiles_in s) 0 h.count
    (λ k below. each k below (tile_has s (differs before after) k) refl)
  where
    each : (k : ℕ) → k < tiles_in s → (b : Bool) → tile_has s (differs before after) k ≡ b → get_or new k 0 ≡ stamp_by (filter (tile_has s (differs before after)) (tiles s)) stamp old k
    each k below true e = h.changed k below (other_where_some s before after k size below e) ∙ sym (ap (λ (b : Bool). if b then stamp else get_or old k 0) (among_passing (tile_has s (differs before after)) (tiles_in s) k below ∙ e))
    each k below false e = h.same k below (same_where_none s before after k size below e) ∙ sym (ap (λ (b : Bool). if b then stamp else get_or old k 0) (among_passing (tile_has s (differs before after)) (tiles_in s) k below ∙ e))

new_stamped : (s : Size) (now : Cells) (stamp : ℕ) (old : List ℕ) → replicate (tiles_in s) stamp ≡ map (stamp_by (changed_tiles s None now) stamp old) (tiles s)
unfolding changed_tiles
new_stamped s now stamp old =
    fill_by_all (stamp_by (tiles s) stamp old) (replicate (tiles_in s) stamp) (tiles_in s) 0 (length-replicate (tiles_in s) stamp)
    (λ k below.
    get_or-replicate (tiles_in s) k stamp 0 below
    ∙ sym (ap (λ (b : Bool). if b then stamp else get_or old k 0) (ap (list_any (λ j. j == k)) (sym (filter_all (λ j. true) (λ j. refl) (range_with_len 0 (tiles_in s)))) ∙ among_passing (λ j. true) (tiles_in s) k below)))

-- ---- by the states

now_is : (t : WholeState) (n : Name) (now : Cells) → cells_of t.names n ≡ Some now → now_of t.names n ≡ now
now_is t n now e = ap (λ (o : Option Cells). unwrap_or o []) e

pub old_is_stamped : OldIsStamped
old_is_stamped s t n was now old new size before after kept h =
    old_stamped t.names.size was now t.names.number old new size h
    ∙ ap (λ cs. map (stamp_by (changed_tiles t.names.size (Some was) cs) t.names.number old) (tiles t.names.size)) (sym (now_is t n now after))
    ∙ ap (λ o. map (stamp_by (changed_tiles t.names.size o (now_of t.names n)) t.names.number old) (tiles t.names.size)) (sym before)
    ∙ ap (λ o. map (stamp_by (changed_of s.names t.names n) t.names.number (unwrap_or o [])) (tiles t.names.size)) (sym kept)

pub new_is_stamped : NewIsStamped
new_is_stamped s t n now before =
    new_stamped t.names.size (now_of t.names n) t.names.number (unwrap_or (stamps_of s.stamps n) [])
    ∙ ap (λ o. map (stamp_by (changed_tiles t.names.size o (now_of t.names n)) t.names.number (unwrap_or (stamps_of s.stamps n) [])) (tiles t.names.size)) (sym before)
