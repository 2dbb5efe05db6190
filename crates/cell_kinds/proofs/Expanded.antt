-- Runs that stand for cells: one cell more, and the runs in order.
use Rattle.std.proofs.Common.{◌≡◌, ℕ, zero, suc, ◌+◌, ◌<◌, ◌≤◌, List, [], ◌∷◌, ◌++◌, length, get_or, take, replicate, map, refl, sym, ◌∙◌, ap, subst, arith, ℤ, Option, Some, None, IsPermutation, append_assoc, add-one}
use Rattle.std.specs.List.{flat_map}
use Rattle.std.specs.List.Sorted.{IsSortedBy}
use Rattle.std.specs.Ordering.{int_cmp, is_lt}
use Rattle.std.proofs.lemmas.Int.{ints}
use Rattle.std.proofs.lemmas.List.{append-nil, get_or_append_left, length_push, replicate_more, take_more}
use Rattle.std.proofs.lemmas.List.Concat.{flat_map-append}
use Rattle.std.proofs.lemmas.List.Elements.{All-head, All-tail, All-push, All-from_get_or}
use Rattle.std.proofs.lemmas.List.Sorted.{All-permutation, length_permutation, IsPermutation-refl, IsPermutation-trans, IsPermutation-append_left, IsPermutation-append_right, IsPermutation-append_comm}
use Rattle.map_nums.specs.Grids.{Size, IsSize, Cells, cells_in, largest_area}
use Rattle.map_nums.proofs.Exchanges.{along_permutation}
use Rattle.map_defs.specs.Cells.{same_cell}
use Rattle.layer_tiles.specs.Cells.{IsCell, AreCells, word_of}
use Rattle.cell_kinds.specs.declared.kinds.Run.{Run}
use Rattle.cell_kinds.specs.Counted.{kind_from, counted_kinds}
use Rattle.cell_kinds.specs.Runs.{runs_of}
use Rattle.cell_kinds.specs.Expanded.{expanded, AreFilled, AreRuns}
use Rattle.cell_kinds.proofs.Compared.{IsUpTo}
use Rattle.cell_kinds.proofs.KindLists.{IsUpToAll}
use Rattle.cell_kinds.proofs.Counting.{Rises}
use Rattle.cell_kinds.proofs.Ascending.{InRange, in_range_from_all, rises_from_sorted, sorted_kinds}

-- ---- one cell more

expanded-push : (rs : List Run) (r : Run) → expanded (rs ++ r ∷ []) ≡ expanded rs ++ replicate r.count r.cell
expanded-push rs r =
    flat_map-append (λ (s : Run). replicate s.count s.cell) rs (r ∷ [])
    ∙ ap (λ (l : Cells). expanded rs ++ l) (append-nil (replicate r.count r.cell))

filled_before : (rs : List Run) (r : Run) → AreFilled (rs ++ r ∷ []) → AreFilled rs
filled_before rs r h k d l = subst (λ (s : Run). 0 < s.count) (get_or_append_left rs (r ∷ []) d k l) (h k d (omega (arith, length_push rs r)))

-- the cell begins a run
pub run_more : (rs : List Run) (cs : Cells) (c : Option ℤ) → AreRuns rs cs → AreRuns (rs ++ record { cell = c; count = 1 } ∷ []) (cs ++ c ∷ [])
run_more rs cs c a = record {
  filled = All-push (λ (r : Run). 0 < r.count) rs (record { cell = c; count = 1 }) a.filled (omega arith);
  expands = expanded-push rs (record { cell = c; count = 1 }) ∙ ap (λ (l : Cells). l ++ c ∷ []) a.expands;
}

-- the cell is that of the last run
pub run_longer : (rs : List Run) (r : Run) (cs : Cells) → AreRuns (rs ++ r ∷ []) cs → AreRuns (rs ++ record { cell = r.cell; count = r.count + 1 } ∷ []) (cs ++ r.cell ∷ [])
run_longer rs r cs a =
    let now : Run = record { cell = r.cell; count = r.count + 1 } in
    record {
      filled = All-push (λ (s : Run). 0 < s.count) rs now (filled_before rs r a.filled) (omega arith);
      expands =
          expanded-push rs now
          ∙ ap (λ (l : Cells). expanded rs ++ l) (sym (replicate_more r.count r.cell))
          ∙ sym (append_assoc (expanded rs) (replicate r.count r.cell) (r.cell ∷ []))
          ∙ ap (λ (l : Cells). l ++ r.cell ∷ []) (sym (expanded-push rs r) ∙ a.expands);
    }

-- the cells so far and the next one
pub cells_more : (start cells rest : Cells) (c d x : Option ℤ) (i : ℕ) → cells ≡ c ∷ rest → i < length rest → x ≡ get_or rest i d → (start ++ take (i + 1) cells) ++ x ∷ [] ≡ start ++ take (i + 1 + 1) cells
cells_more start cells rest c d x i h l e =
    let there : get_or cells (i + 1) d ≡ get_or rest i d = rw (h, add-one) refl in
    let within : i + 1 < length cells = omega (arith, ap length h) in
    append_assoc start (take (i + 1) cells) (x ∷ [])
    ∙ ap (λ (y : Option ℤ). start ++ (take (i + 1) cells ++ y ∷ [])) (e ∙ sym there)
    ∙ ap (λ (ys : Cells). start ++ ys) (sym (take_more cells (i + 1) d within))

-- ---- in order

flat_map-permutation : {X A : Type 0} (f : X → List A) (xs ys : List X) → IsPermutation xs ys → IsPermutation (flat_map f xs) (flat_map f ys)
flat_map-permutation {X} f =
    along_permutation (λ (xs ys : List X). IsPermutation (flat_map f xs) (flat_map f ys)) (λ xs. IsPermutation-refl (flat_map f xs)) (λ x xs ys h. IsPermutation-append_right (f x) (flat_map f xs) (flat_map f ys) h)
    (λ x y xs. rw (sym (append_assoc (f x) (f y) (flat_map f xs)), sym (append_assoc (f y) (f x) (flat_map f xs))) (IsPermutation-append_left (flat_map f xs) (f x ++ f y) (f y ++ f x) (IsPermutation-append_comm (f x) (f y))))
    (λ xs ys zs h k. IsPermutation-trans (flat_map f xs) (flat_map f ys) (flat_map f zs) h k)

expanded-permutation : (rs ss : List Run) → IsPermutation rs ss → IsPermutation (expanded rs) (expanded ss)
expanded-permutation rs ss p = flat_map-permutation (λ (r : Run). replicate r.count r.cell) rs ss p

in_range_behind : (n : ℕ) (c : Option ℤ) (ys : Cells) → InRange (replicate n c ++ ys) → InRange ys × (0 < n → IsCell c)
in_range_behind zero c ys h = (h, λ l. absurd (omega arith))
in_range_behind (suc n) c ys h = ((in_range_behind n c ys h.1).0, λ l. h.0)

in_range_runs : (rs : List Run) → AreFilled rs → InRange (expanded rs) → InRange (map (λ (r : Run). r.cell) rs)
in_range_runs [] f h = tt
in_range_runs (r ∷ rs) f h =
    let b = in_range_behind r.count r.cell (expanded rs) h in
    (b.1 (All-head (λ (s : Run). 0 < s.count) r rs f), in_range_runs rs (All-tail (λ (s : Run). 0 < s.count) r rs f) b.0)

up_to_itself : (c : Option ℤ) → IsUpTo c c
up_to_itself None = tt
up_to_itself (Some z) = omega (arith, ints)

up_to_repeated : (b : Option ℤ) (n : ℕ) (c : Option ℤ) (ys : Cells) → IsUpTo b c → IsUpToAll b ys → IsUpToAll b (replicate n c ++ ys)
up_to_repeated b zero c ys h k = k
up_to_repeated b (suc n) c ys h k = (h, up_to_repeated b n c ys h k)

up_to_expanded : (b : Option ℤ) (rs : List Run) → IsUpToAll b (map (λ (r : Run). r.cell) rs) → IsUpToAll b (expanded rs)
up_to_expanded b [] h = tt
up_to_expanded b (r ∷ rs) h = up_to_repeated b r.count r.cell (expanded rs) h.0 (up_to_expanded b rs h.1)

rises_repeated : (n : ℕ) (c : Option ℤ) (ys : Cells) → IsUpToAll c ys → Rises ys → Rises (replicate n c ++ ys)
rises_repeated zero c ys h k = k
rises_repeated (suc n) c ys h k = (up_to_repeated c n c ys (up_to_itself c) h, rises_repeated n c ys h k)

rises_expanded : (rs : List Run) → Rises (map (λ (r : Run). r.cell) rs) → Rises (expanded rs)
rises_expanded [] h = tt
rises_expanded (r ∷ rs) h = rises_repeated r.count r.cell (expanded rs) (up_to_expanded r.cell rs h.0) (rises_expanded rs h.1)

module _ (cells : Cells) (runs sorted : List Run) (a : AreRuns runs cells) (perm : IsPermutation runs sorted) where
  pub sorted_filled : AreFilled sorted
  sorted_filled = All-permutation (λ (r : Run). 0 < r.count) runs sorted perm a.filled

  pub sorted_few : (s : Size) → IsSize s → length cells ≡ cells_in s → length (expanded sorted) ≤ largest_area
  sorted_few s h n = omega (arith, h.most_cells, length_permutation (expanded runs) (expanded sorted) (expanded-permutation runs sorted perm), ap length a.expands)

  -- runs that were put in order by their cells hold the kinds of those
  pub sorted_runs : AreCells cells → IsSortedBy (λ (r s : Run). is_lt (int_cmp (word_of r.cell) (word_of s.cell))) sorted → map kind_from (runs_of same_cell (expanded sorted)) ≡ counted_kinds cells
  sorted_runs are s =
      let moved : IsPermutation cells (expanded sorted) = subst (λ (l : Cells). IsPermutation l (expanded sorted)) a.expands (expanded-permutation runs sorted perm) in
      let range = in_range_from_all (expanded sorted) (All-permutation IsCell cells (expanded sorted) moved (All-from_get_or IsCell cells None (λ i l. are.each i))) in
      sorted_kinds cells (expanded sorted) moved (rises_expanded sorted (rises_from_sorted (λ (r : Run). r.cell) sorted (in_range_runs sorted sorted_filled range) s))
