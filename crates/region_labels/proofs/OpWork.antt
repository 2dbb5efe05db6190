-- The work of a repair, in the words that all operations share.
use Rattle.std.proofs.Common.{◌≡◌, ◌≢◌, inl, inr, ℕ, ◌+◌, ◌<◌, Bool, true, false, List, [], ◌∷◌, length, get_or, Some, None, refl, sym, ◌∙◌, ap, subst, arith, cond, eqb}
use Rattle.std.specs.Prelude.{◌||◌, ◌&&◌, ◌==◌, not, filter}
use Rattle.std.specs.List.{list_any, range_with_len, AllPairs}
use Rattle.std.specs.Cmp.{IsEquivalence}
use Rattle.std.proofs.lemmas.Bool.{both_ways, and_parts, and_from, or_cases, or_left, not_from_false, not_from_true, false_from_ne_true, eqb-true, eq-eqb}
use Rattle.std.proofs.lemmas.Bool.Decides.{Decides-eqb}
use Rattle.std.proofs.lemmas.List.{get_or_default}
use Rattle.std.proofs.lemmas.List.Folds.{list_any_at}
use Rattle.std.proofs.lemmas.List.Kept.{AllPairs-filter}
use Rattle.std.proofs.lemmas.List.FromFn.{length-range_with_len, get_or-range_with_len}
use Rattle.std.proofs.lemmas.Map.Made.{IsDistinct-from_AllPairs, is_member-filter, length-from_same_keys}
use Rattle.map_nums.specs.Grids.{Size, Cells, cell_at, cells_in, places, is_neighbour}
use Rattle.map_defs.specs.Cells.{same_cell}
use Rattle.map_defs.specs.Differences.{has_changed}
use Rattle.map_defs.specs.Ops.{region_op, Term}
use Rattle.map_defs.specs.Work.{in_one_region, is_touched, first_work, op_work}
use Rattle.map_defs.proofs.RegionCells.{same_is, same_so}
use Rattle.changed_cells.specs.Changed.{AreChanged}
use Rattle.region_labels.specs.Flood.{Holds}
use Rattle.region_labels.proofs.Touched.{any_found, place_is}
use Rattle.region_labels.proofs.Works.{same_test}

eqb_laws : IsEquivalence eqb
eqb_laws = record {
  refl = λ x. eq-eqb x x refl;
  symm = λ x y. same_test (eqb x y) (eqb y x) (λ e. eq-eqb y x (sym (eqb-true x y e))) (λ e. eq-eqb x y (sym (eqb-true y x e)));
  congr = λ x y z e. ap (λ k. eqb k z) (eqb-true x y e);
}

places_apart : (n : ℕ) → AllPairs (λ x y. x ≢ y) (range_with_len 0 n)
places_apart n i j d l m e =
    let k = length-range_with_len 0 n in
    omega (arith, l, e, get_or-range_with_len 0 n i d (omega (arith, l, m, k)), get_or-range_with_len 0 n j d (omega (arith, m, k)))

-- ---- a list of changed places has the members of the filter

module _ (s : Size) (was now : Cells) (found : List ℕ) (h : AreChanged s was now found) where
  abbrev p : ℕ → Bool
  p = has_changed (was ∷ []) (now ∷ [])

  changed_so : (q : ℕ) → (cell_at was q ≡ cell_at now q → ⊥) → p q ≡ true
  changed_so q n = or_left (not (same_cell (cell_at was q) (cell_at now q))) false (not_from_false (same_cell (cell_at was q) (cell_at now q)) (false_from_ne_true (same_cell (cell_at was q) (cell_at now q)) (λ e. n (same_is (cell_at was q) (cell_at now q) e))))

  changed_is : (q : ℕ) → p q ≡ true → cell_at was q ≡ cell_at now q → ⊥
  changed_is q e same = elim (or_cases (not (same_cell (cell_at was q) (cell_at now q))) false e) as (λ _. ⊥) [
    | inl t ↦ both_ways (not (same_cell (cell_at was q) (cell_at now q))) (not_from_true (same_cell (cell_at was q) (cell_at now q)) (same_so (cell_at was q) (cell_at now q) same)) t
    | inr t ↦ both_ways false refl t
  ]

  member_place : (q : ℕ) → list_any (eqb q) (places s) ≡ true → q < cells_in s
  member_place q e =
      let r = any_found (eqb q) (places s) e in
      let l : r.0 < cells_in s = omega (arith, r.1, length-range_with_len 0 (cells_in s)) in
      omega (arith, eqb-true q (get_or (places s) r.0 0) r.2, place_is s r.0 l, l)

  place_member : (q : ℕ) → q < cells_in s → list_any (eqb q) (places s) ≡ true
  place_member q l = list_any_at (eqb q) (places s) q 0 (omega (arith, l, length-range_with_len 0 (cells_in s))) (eq-eqb q (get_or (places s) q 0) (sym (place_is s q l)))

  pub held_found : (q : ℕ) → list_any (eqb q) (filter p (places s)) ≡ true → Holds found q
  held_found q e =
      let m = and_parts (list_any (eqb q) (places s)) (p q) (sym (is_member-filter eqb_laws p q (λ x t. ap p (eqb-true q x t)) (places s)) ∙ e) in
      h.all q (member_place q m.0) (changed_is q m.1)

  found_held : (q : ℕ) → list_any (eqb q) found ≡ true → list_any (eqb q) (filter p (places s)) ≡ true
  found_held q e =
      let r = any_found (eqb q) found e in
      let same : q ≡ get_or found r.0 0 = eqb-true q (get_or found r.0 0) r.2 in
      let P : ℕ → Type 0 = λ x. x < cells_in s in
      let Q : ℕ → Type 0 = λ x. cell_at was x ≡ cell_at now x → ⊥ in
      is_member-filter eqb_laws p q (λ x t. ap p (eqb-true q x t)) (places s)
      ∙ and_from (list_any (eqb q) (places s)) (p q) (place_member q (subst P (sym same) (h.within r.0 r.1))) (changed_so q (subst Q (sym same) (h.differ r.0 r.1)))

  held_any : (q : ℕ) → Holds found q → list_any (eqb q) found ≡ true
  held_any q d = list_any_at (eqb q) found d.0 0 d.1 (eq-eqb q (get_or found d.0 0) (sym d.2))

  pub same_length : length found ≡ length (filter p (places s))
  same_length =
      length-from_same_keys eqb_laws found (filter p (places s))
      (IsDistinct-from_AllPairs Decides-eqb found (λ i j d l m e. h.apart i j l m (get_or_default found i 0 d (omega (arith, l, m)) ∙ e ∙ get_or_default found j d 0 m)))
      (IsDistinct-from_AllPairs Decides-eqb (filter p (places s)) (AllPairs-filter (λ x y. x ≢ y) p (places s) (places_apart (cells_in s))))
      (λ q. same_test (list_any (eqb q) found) (list_any (eqb q) (filter p (places s))) (found_held q) (λ e. held_any q (held_found q e)))

-- ---- what is touched depends on the members alone

touched_more : (s : Size) (labels : Cells) (xs ys : List ℕ) (i : ℕ) → ((k : ℕ) → k < length xs → Holds ys (get_or xs k 0)) → is_touched s labels xs i ≡ true → is_touched s labels ys i ≡ true
touched_more s labels xs ys i more e =
    let r = any_found (λ j. in_one_region labels i j && list_any (λ c. (c == j) || is_neighbour s c j) xs) (places s) e in
    let j = get_or (places s) r.0 0 in
    let t = and_parts (in_one_region labels i j) (list_any (λ c. (c == j) || is_neighbour s c j) xs) r.2 in
    let q = any_found (λ c. (c == j) || is_neighbour s c j) xs t.1 in
    let d = more q.0 q.1 in
    let P : ℕ → Type 0 = λ c. ((c == j) || is_neighbour s c j) ≡ true in
    list_any_at (λ j. in_one_region labels i j && list_any (λ c. (c == j) || is_neighbour s c j) ys) (places s) r.0 0 r.1
    (and_from (in_one_region labels i j) (list_any (λ c. (c == j) || is_neighbour s c j) ys) t.0 (list_any_at (λ c. (c == j) || is_neighbour s c j) ys d.0 0 d.1 (subst P (sym d.2) q.2)))

filter_same : (f g : ℕ → Bool) → ((x : ℕ) → f x ≡ g x) → (xs : List ℕ) → filter f xs ≡ filter g xs
filter_same f g h [] = refl
filter_same f g h (x ∷ xs) = ap (λ v. cond v (x ∷ filter f xs) (filter f xs)) (h x) ∙ ap (λ ys. cond (g x) (x ∷ ys) ys) (filter_same f g h xs)

pub work_of : (s : Size) (was now old labels : Cells) (found : List ℕ) (t : Term) → AreChanged s was now found → length found + length (filter (is_touched s labels found) (places s)) ≡ op_work (region_op t) s (was ∷ []) (now ∷ []) (Some old) labels
unfolding op_work
work_of s was now old labels found t h =
    let ys = filter (has_changed (was ∷ []) (now ∷ [])) (places s) in
    let there : (k : ℕ) → k < length found → Holds ys (get_or found k 0) = λ k l.
    (let r = any_found (eqb (get_or found k 0)) ys (found_held s was now found h (get_or found k 0) (held_any s was now found h (get_or found k 0) (k, l, refl))) in (r.0, r.1, sym (eqb-true (get_or found k 0) (get_or ys r.0 0) r.2))) in
    let back : (k : ℕ) → k < length ys → Holds found (get_or ys k 0) = λ k l. held_found s was now found h (get_or ys k 0) (list_any_at (eqb (get_or ys k 0)) ys k 0 l (eq-eqb (get_or ys k 0) (get_or ys k 0) refl)) in
    let e : filter (is_touched s labels found) (places s) ≡ filter (is_touched s labels ys) (places s) =
    filter_same (is_touched s labels found) (is_touched s labels ys) (λ i. same_test (is_touched s labels found i) (is_touched s labels ys i) (touched_more s labels found ys i there) (touched_more s labels ys found i back)) (places s) in
    ap (λ n. n + length (filter (is_touched s labels found) (places s))) (same_length s was now found h) ∙ ap (λ (zs : List ℕ). length ys + length zs) e

pub first_of : (s : Size) (before after : List Cells) (labels : Cells) (t : Term) → first_work s labels ≡ op_work (region_op t) s before after None labels
unfolding op_work
first_of s before after labels t = refl
