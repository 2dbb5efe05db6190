-- The places at which one of two operands changed.
use Rattle.std.proofs.Common.{◌≡◌, ◌≢◌, ◌⊎◌, inl, inr, ℕ, suc, ◌+◌, ◌<◌, ◌≤◌, Bool, true, false, cond, List, [], ◌∷◌, ◌++◌, length, get_or, refl, sym, ◌∙◌, ap, subst, arith, eqb}
use Rattle.std.specs.Prelude.{◌||◌, not, filter}
use Rattle.std.specs.List.{list_any, range_with_len, AllPairs}
use Rattle.std.specs.Cmp.{IsEquivalence}
use Rattle.std.proofs.lemmas.Bool.{cases_lt, both_ways, and_parts, and_from, or_cases, or_left, or_right, not_from_false, not_from_true, false_from_ne_true, eqb-true, eq-eqb}
use Rattle.std.proofs.lemmas.Bool.Decides.{Decides-eqb}
use Rattle.std.proofs.lemmas.List.{get_or_default, get_or_append_left, get_or_push, length_push}
use Rattle.std.proofs.lemmas.List.Folds.{list_any_at}
use Rattle.std.proofs.lemmas.List.Kept.{AllPairs-filter}
use Rattle.std.proofs.lemmas.List.FromFn.{length-range_with_len, get_or-range_with_len}
use Rattle.std.proofs.lemmas.Map.Made.{IsDistinct-from_AllPairs, is_member-filter, length-from_same_keys}
use Rattle.map_nums.specs.Grids.{Size, Cells, cell_at, cells_in, places}
use Rattle.map_defs.specs.Cells.{same_cell}
use Rattle.map_defs.specs.Differences.{differs, has_changed}
use Rattle.map_defs.proofs.RegionCells.{same_is, same_so}
use Rattle.changed_cells.specs.Changed.{AreChanged, HoldsPlace}
use Rattle.changed_cells.specs.Unions.{AreAllPlaces, AreJoinedTo, IsAddedUnless}

-- ---- tests

pub same_test : (a b : Bool) → (a ≡ true → b ≡ true) → (b ≡ true → a ≡ true) → a ≡ b
same_test true true f h = refl
same_test true false f h = sym (f refl)
same_test false true f h = h refl
same_test false false f h = refl

pub differs_so : (was now : Cells) (i : ℕ) → cell_at was i ≢ cell_at now i → differs was now i ≡ true
differs_so was now i n = not_from_false (same_cell (cell_at was i) (cell_at now i)) (false_from_ne_true (same_cell (cell_at was i) (cell_at now i)) (λ e. n (same_is (cell_at was i) (cell_at now i) e)))

pub differs_is : (was now : Cells) (i : ℕ) → differs was now i ≡ true → cell_at was i ≢ cell_at now i
differs_is was now i e = λ same. both_ways (not (same_cell (cell_at was i) (cell_at now i))) (not_from_true (same_cell (cell_at was i) (cell_at now i)) (same_so (cell_at was i) (cell_at now i) same)) e

from_not : (b : Bool) → not b ≡ false → b ≡ true
from_not true e = refl
from_not false e = absurd (both_ways true e refl)

pub differs_not : (was now : Cells) (i : ℕ) → differs was now i ≡ false → cell_at was i ≡ cell_at now i
differs_not was now i e = same_is (cell_at was i) (cell_at now i) (from_not (same_cell (cell_at was i) (cell_at now i)) e)

-- ---- one list after the other

held_more : (found : List ℕ) (i j : ℕ) → HoldsPlace found i → HoldsPlace (found ++ j ∷ []) i
held_more found i j h = (h.0, omega (arith, h.1, length_push found j), get_or_append_left found (j ∷ []) 0 h.0 h.1 ∙ h.2)

pub joined_start : (s : Size) (was now : Cells) (more found : List ℕ) → AreChanged s was now found → AreJoinedTo s (differs was now) more 0 found
joined_start s was now more found h = record {
  within = h.within;
  each = λ m l. inl (differs_so was now (get_or found m 0) (h.differ m l));
  first = λ i l e. h.all i l (differs_is was now i e);
  rest = λ j l. absurd (omega (arith, l));
  apart = h.apart;
}

pub joined_next : (s : Size) (p : ℕ → Bool) (more old new : List ℕ) (k at : ℕ) → at ≡ get_or more k 0 → at < cells_in s → ((a b : ℕ) → a < b → b < length more → get_or more a 0 ≢ get_or more b 0) → k < length more → IsAddedUnless (p at) at old new → AreJoinedTo s p more k old → AreJoinedTo s p more (k + 1) new
joined_next s p more old new k at here l apart m (inl d) h = let P : List ℕ → Type 0 = AreJoinedTo s p more (k + 1) in
    subst P (sym d.1)
    (record {
      within = h.within;
      each = λ a q. elim (h.each a q) as (λ _. (p (get_or old a 0) ≡ true) ⊎ ((j : ℕ) × (j < k + 1) × (get_or more j 0 ≡ get_or old a 0))) [ inl e ↦ inl e | inr e ↦ inr (e.0, omega (arith, e.1), e.2) ];
      first = h.first;
      rest = λ j q. elim (cases_lt j k) as (λ _. HoldsPlace old (get_or more j 0)) [ inl r ↦ h.rest j r | inr r ↦ (let e : j ≡ k = omega (arith, q, r) in let Q : ℕ → Type 0 = HoldsPlace old in subst Q (here ∙ ap (λ x. get_or more x 0) (sym e)) (h.first at l d.0)) ];
      apart = h.apart;
    })
joined_next s p more old new k at here l apart m (inr d) h = let P : List ℕ → Type 0 = AreJoinedTo s p more (k + 1) in
    subst P (sym d.1)
    (record {
      within = λ a q. elim (cases_lt a (length old)) as (λ _. get_or (old ++ at ∷ []) a 0 < cells_in s) [
        | inl r ↦ omega (arith, h.within a r, get_or_append_left old (at ∷ []) 0 a r)
        | inr r ↦ omega (arith, l, get_or_push old at 0 a (omega (arith, q, r, length_push old at)))
      ];
      each = λ a q. elim (cases_lt a (length old)) as (λ _. (p (get_or (old ++ at ∷ []) a 0) ≡ true) ⊎ ((j : ℕ) × (j < k + 1) × (get_or more j 0 ≡ get_or (old ++ at ∷ []) a 0))) [
        | inl r ↦ (let z = get_or_append_left old (at ∷ []) 0 a r in
            elim (h.each a r) as (λ _. (p (get_or (old ++ at ∷ []) a 0) ≡ true) ⊎ ((j : ℕ) × (j < k + 1) × (get_or more j 0 ≡ get_or (old ++ at ∷ []) a 0))) [ inl e ↦ inl (ap p z ∙ e) | inr e ↦ inr (e.0, omega (arith, e.1), e.2 ∙ sym z) ])
        | inr r ↦ inr (k, omega arith, sym here ∙ sym (get_or_push old at 0 a (omega (arith, q, r, length_push old at))))
      ];
      first = λ i q e. held_more old i at (h.first i q e);
      rest = λ j q. elim (cases_lt j k) as (λ _. HoldsPlace (old ++ at ∷ []) (get_or more j 0)) [
        | inl r ↦ held_more old (get_or more j 0) at (h.rest j r)
        | inr r ↦ (let e : j ≡ k = omega (arith, q, r) in (length old, omega (arith, length_push old at), get_or_push old at 0 (length old) refl ∙ here ∙ ap (λ x. get_or more x 0) (sym e)))
      ];
      apart = λ a b q r e. elim (cases_lt b (length old)) as (λ _. ⊥) [
        | inl t ↦ h.apart a b q t (sym (get_or_append_left old (at ∷ []) 0 a (omega (arith, q, t))) ∙ e ∙ get_or_append_left old (at ∷ []) 0 b t)
        | inr t ↦ (let z : b ≡ length old = omega (arith, r, t, length_push old at) in
            let y : get_or old a 0 ≡ at = sym (get_or_append_left old (at ∷ []) 0 a (omega (arith, q, z))) ∙ e ∙ get_or_push old at 0 b (sym z) in
            elim (h.each a (omega (arith, q, z))) as (λ _. ⊥) [
              | inl u ↦ both_ways (p at) d.0 (ap p (sym y) ∙ u)
              | inr u ↦ apart u.0 k u.1 m (u.2 ∙ y ∙ here)
            ])
      ];
    })

pub joined_all : (s : Size) (was1 now1 was2 now2 : Cells) (more found : List ℕ) (k : ℕ) → length more ≤ k → k ≤ length more → AreChanged s was2 now2 more → AreJoinedTo s (differs was1 now1) more k found → AreAllPlaces s (has_changed (was1 ∷ was2 ∷ []) (now1 ∷ now2 ∷ [])) found
joined_all s was1 now1 was2 now2 more found k low high c h = record {
  within = h.within;
  pass = λ m l. let i = get_or found m 0 in elim (h.each m l) as (λ _. (differs was1 now1 i || (differs was2 now2 i || false)) ≡ true) [
    | inl e ↦ or_left (differs was1 now1 i) (differs was2 now2 i || false) e
    | inr e ↦ or_right (differs was1 now1 i) (differs was2 now2 i || false) (or_left (differs was2 now2 i) false (ap (differs was2 now2) (sym e.2) ∙ differs_so was2 now2 (get_or more e.0 0) (c.differ e.0 (omega (arith, e.1, high)))))
  ];
  all = λ i l e. elim (or_cases (differs was1 now1 i) (differs was2 now2 i || false) e) as (λ _. HoldsPlace found i) [
    | inl t ↦ h.first i l t
    | inr t ↦ elim (or_cases (differs was2 now2 i) false t) as (λ _. HoldsPlace found i) [
      | inl u ↦ (let r = c.all i l (differs_is was2 now2 i u) in let P : ℕ → Type 0 = HoldsPlace found in subst P r.2 (h.rest r.0 (omega (arith, r.1, low))))
      | inr u ↦ absurd (both_ways false refl u)
    ]
  ];
  apart = h.apart;
}

-- ---- how many

pub any_found : (p : ℕ → Bool) (xs : List ℕ) → list_any p xs ≡ true → (k : ℕ) × (k < length xs) × (p (get_or xs k 0) ≡ true)
any_found p [] e = absurd (both_ways false refl e)
any_found p (x ∷ xs) e = elim (or_cases (p x) (list_any p xs) e) as (λ _. (k : ℕ) × (k < length (x ∷ xs)) × (p (get_or (x ∷ xs) k 0) ≡ true)) [
  | inl h ↦ (0, omega arith, h)
  | inr h ↦ (let r = any_found p xs h in (suc r.0, omega (arith, r.1), r.2))
]

pub place_is : (s : Size) (i : ℕ) → i < cells_in s → get_or (places s) i 0 ≡ i
place_is s i l = get_or-range_with_len 0 (cells_in s) i 0 l ∙ omega arith

eqb_laws : IsEquivalence eqb
eqb_laws = record {
  refl = λ x. eq-eqb x x refl;
  symm = λ x y. same_test (eqb x y) (eqb y x) (λ e. eq-eqb y x (sym (eqb-true x y e))) (λ e. eq-eqb x y (sym (eqb-true y x e)));
  congr = λ x y z e. ap (λ k. eqb k z) (eqb-true x y e);
}

places_apart : (n : ℕ) → AllPairs (λ x y. x ≢ y) (range_with_len 0 n)
places_apart n i j d l m e =
    let k = length-range_with_len 0 n in
    omega (arith, l, e, get_or-range_with_len 0 n i d (omega (arith, l, m, k)), get_or-range_with_len 0 n j d (omega (arith, m, k)))

module _ (s : Size) (p : ℕ → Bool) (found : List ℕ) (h : AreAllPlaces s p found) where
  member_place : (q : ℕ) → list_any (eqb q) (places s) ≡ true → q < cells_in s
  member_place q e =
      let r = any_found (eqb q) (places s) e in
      let l : r.0 < cells_in s = omega (arith, r.1, length-range_with_len 0 (cells_in s)) in
      omega (arith, eqb-true q (get_or (places s) r.0 0) r.2, place_is s r.0 l, l)

  place_member : (q : ℕ) → q < cells_in s → list_any (eqb q) (places s) ≡ true
  place_member q l = list_any_at (eqb q) (places s) q 0 (omega (arith, l, length-range_with_len 0 (cells_in s))) (eq-eqb q (get_or (places s) q 0) (sym (place_is s q l)))

  held_found : (q : ℕ) → list_any (eqb q) (filter p (places s)) ≡ true → list_any (eqb q) found ≡ true
  held_found q e =
      let m = and_parts (list_any (eqb q) (places s)) (p q) (sym (is_member-filter eqb_laws p q (λ x t. ap p (eqb-true q x t)) (places s)) ∙ e) in
      let d = h.all q (member_place q m.0) m.1 in
      list_any_at (eqb q) found d.0 0 d.1 (eq-eqb q (get_or found d.0 0) (sym d.2))

  found_held : (q : ℕ) → list_any (eqb q) found ≡ true → list_any (eqb q) (filter p (places s)) ≡ true
  found_held q e =
      let r = any_found (eqb q) found e in
      let same : q ≡ get_or found r.0 0 = eqb-true q (get_or found r.0 0) r.2 in
      let P : ℕ → Type 0 = λ x. x < cells_in s in
      is_member-filter eqb_laws p q (λ x t. ap p (eqb-true q x t)) (places s)
      ∙ and_from (list_any (eqb q) (places s)) (p q) (place_member q (subst P (sym same) (h.within r.0 r.1))) (ap p same ∙ h.pass r.0 r.1)

  pub same_length : length found ≡ length (filter p (places s))
  same_length =
      length-from_same_keys eqb_laws found (filter p (places s))
      (IsDistinct-from_AllPairs Decides-eqb found (λ i j d l m e. h.apart i j l m (get_or_default found i 0 d (omega (arith, l, m)) ∙ e ∙ get_or_default found j d 0 m)))
      (IsDistinct-from_AllPairs Decides-eqb (filter p (places s)) (AllPairs-filter (λ x y. x ≢ y) p (places s) (places_apart (cells_in s))))
      (λ q. same_test (list_any (eqb q) found) (list_any (eqb q) (filter p (places s))) (found_held q) (held_found q))

one_fewer : (v w : Bool) (x : ℕ) (xs ys : List ℕ) → (v ≡ true → w ≡ true) → length xs ≤ length ys → length (cond v (x ∷ xs) xs) ≤ length (cond w (x ∷ ys) ys)
one_fewer true true x xs ys h l = omega (arith, l)
one_fewer true false x xs ys h l = absurd (both_ways false refl (h refl))
one_fewer false true x xs ys h l = omega (arith, l)
one_fewer false false x xs ys h l = l

pub fewer : (p q : ℕ → Bool) (xs : List ℕ) → ((i : ℕ) → p i ≡ true → q i ≡ true) → length (filter p xs) ≤ length (filter q xs)
fewer p q [] h = omega arith
fewer p q (x ∷ xs) h = one_fewer (p x) (q x) x (filter p xs) (filter q xs) (h x) (fewer p q xs h)

one_most : (v : Bool) (x n : ℕ) (xs : List ℕ) → length xs ≤ n → length (cond v (x ∷ xs) xs) ≤ suc n
one_most true x n xs l = omega (arith, l)
one_most false x n xs l = omega (arith, l)

pub filter_most : (p : ℕ → Bool) (xs : List ℕ) → length (filter p xs) ≤ length xs
filter_most p [] = omega arith
filter_most p (x ∷ xs) = one_most (p x) x (length xs) (filter p xs) (filter_most p xs)

pub all_changed : (s : Size) (was now : Cells) (found : List ℕ) → AreChanged s was now found → AreAllPlaces s (differs was now) found
all_changed s was now found h = record { within = h.within; pass = λ k l. differs_so was now (get_or found k 0) (h.differ k l); all = λ i l e. h.all i l (differs_is was now i e); apart = h.apart }

-- the changed places of one operand are no more than those of both
pub more_most : (s : Size) (was1 now1 was2 now2 : Cells) (more : List ℕ) → AreChanged s was2 now2 more → length more ≤ length (filter (has_changed (was1 ∷ was2 ∷ []) (now1 ∷ now2 ∷ [])) (places s))
more_most s was1 now1 was2 now2 more c =
    let a = same_length s (differs was2 now2) more (all_changed s was2 now2 more c) in
    let l = fewer (differs was2 now2) (has_changed (was1 ∷ was2 ∷ []) (now1 ∷ now2 ∷ [])) (places s) (λ i e. or_right (differs was1 now1 i) (differs was2 now2 i || false) (or_left (differs was2 now2 i) false e)) in
    omega (arith, a, l)

pub found_few : (s : Size) (p : ℕ → Bool) (found : List ℕ) → AreAllPlaces s p found → length found ≤ cells_in s
found_few s p found h = omega (arith, same_length s p found h, filter_most p (places s), length-range_with_len 0 (cells_in s))
