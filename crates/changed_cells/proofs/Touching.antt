-- Touched tiles, in their order.
use Rattle.std.proofs.Common.{◌≡◌, inl, inr, ℕ, zero, suc, ◌+◌, ◌*◌, ◌<◌, ◌≤◌, Bool, true, false, cond, List, [], ◌∷◌, length, get_or, refl, sym, ◌∙◌, ap, arith, eqb}
use Rattle.std.specs.Prelude.{filter}
use Rattle.std.specs.List.{Contains, range_with_len, list_any}
use Rattle.std.specs.List.Sorted.{IsStrictlyIncreasing}
use Rattle.std.proofs.lemmas.Bool.{cases_lt, cases_eq, cases_Bool, both_ways, or_left, or_right, eq-eqb}
use Rattle.std.proofs.lemmas.List.{get_or_default}
use Rattle.std.proofs.lemmas.List.FromFn.{length-range_with_len}
use Rattle.map_nums.specs.Grids.{Size, IsSize, Cells, cell_at, cells_in, places}
use Rattle.map_nums.specs.Tiles.{tiles}
use Rattle.map_defs.specs.Differences.{differs, tile_has}
use Rattle.layer_tiles.specs.Tiles.{tiles_in, tile_of, tile_start}
use Rattle.layer_tiles.specs.Layers.{IsChangedTile}
use Rattle.layer_tiles.specs.Changes.{ChangeState, cells_before}
use Rattle.layer_tiles.specs.ChangeFacts.{IsChange, IsNext}
use Rattle.layer_tiles.proofs.ChangeLaws.{untouched_place}
use Rattle.layer_tiles.proofs.Rounds.{here}
use Rattle.layer_tiles.proofs.Strides.{same_tile}
use Rattle.tile_work.proofs.Numbers.{ArePast, AreAhead, rises_far}
use Rattle.changed_cells.specs.Changed.{AreChangedTo, AreChanged}
use Rattle.changed_cells.proofs.Ordering.{tiles_skip, changed_all}
use Rattle.changed_cells.proofs.Joining.{place_is, differs_not}

-- ---- one touched tile after the other

-- the first k touched tiles are below `from`, and no other is
pub record IsSeen (touched : List ℕ) (from k : ℕ) : Type 0 where
  pub past : ArePast touched k from
  pub ahead : AreAhead touched k from
  pub within : k ≤ length touched

pub none_seen : (touched : List ℕ) → IsSeen touched 0 0
none_seen touched = record { past = λ j l. absurd (omega (arith, l)); ahead = λ j l m. omega arith; within = omega arith }

module _ (touched : List ℕ) (from k t : ℕ) (up : IsStrictlyIncreasing touched) (v : IsSeen touched from k) (n : IsNext touched from t) where
  held_is : get_or touched n.held.0 0 ≡ t
  held_is = sym (get_or_default touched n.held.0 t 0 n.held.1) ∙ n.held.2

  -- the next one is the k-th
  pub next_is : (k < length touched) × (get_or touched k 0 ≡ t)
  next_is =
      let j = n.held.0 in
      let l : k ≤ j = elim (cases_lt j k) as (λ _. k ≤ j) [
        | inl m ↦ absurd (omega (arith, v.past j m, held_is, n.not_below))
        | inr m ↦ m
      ] in
      let k_lt : k < length touched = omega (arith, l, n.held.1) in
      let least = n.least (get_or touched k 0) (k, k_lt, get_or_default touched k (get_or touched k 0) 0 k_lt) (v.ahead k (omega arith) k_lt) in
      elim (cases_eq k j) as (λ _. (k < length touched) × (get_or touched k 0 ≡ t)) [
        | inl e ↦ (k_lt, ap (λ x. get_or touched x 0) e ∙ held_is)
        | inr e ↦ absurd (omega (arith, rises_far touched up k j (omega (arith, l, e)) n.held.1, held_is, least))
      ]

  pub seen_next : IsSeen touched (t + 1) (k + 1)
  seen_next = record {
    past = λ j l. elim (cases_eq j k) as (λ _. get_or touched j 0 < t + 1) [
      | inl e ↦ omega (arith, ap (λ x. get_or touched x 0) e, next_is.1)
      | inr e ↦ omega (arith, rises_far touched up j k (omega (arith, l, e)) next_is.0, next_is.1)
    ];
    ahead = λ j l m. omega (arith, rises_far touched up k j (omega (arith, l)) m, next_is.1);
    within = omega (arith, next_is.0);
  }

-- the tiles before the next touched one stayed
pub skip_next : (c : ChangeState) (from t : ℕ) (found : List ℕ) → IsChange c → IsNext c.touched from t → AreChangedTo c.size (cells_before c) c.cells (from * 1024) found → AreChangedTo c.size (cells_before c) c.cells (t * 1024) found
skip_next c from t found h n a =
    tiles_skip c.size (cells_before c) c.cells from t found n.not_below
    (λ i l p q. untouched_place c h i l (λ m. omega (arith, n.least (tile_of c.size i) m p, q)))
    a

-- and those after the last one
pub skip_last : (c : ChangeState) (from : ℕ) (found : List ℕ) → IsChange c → from ≤ tiles_in c.size → ((t : ℕ) → Contains c.touched t → t < from) → AreChangedTo c.size (cells_before c) c.cells (from * 1024) found → AreChanged c.size (cells_before c) c.cells found
skip_last c from found h l none a =
    changed_all c.size (cells_before c) c.cells (tiles_in c.size) found h.size (omega arith)
    (tiles_skip c.size (cells_before c) c.cells from (tiles_in c.size) found l
    (λ i m p q. untouched_place c h i m (λ t. omega (arith, none (tile_of c.size i) t, p)))
    a)

-- ---- touched tiles that pass a test

one_more : (v : Bool) (x : ℕ) (xs ys : List ℕ) → v ≡ true → length xs ≤ length ys → length (x ∷ xs) ≤ length (cond v (x ∷ ys) ys)
one_more true x xs ys e l = omega (arith, l)
one_more false x xs ys e l = absurd (both_ways false refl e)

no_fewer : (v : Bool) (n x : ℕ) (ys : List ℕ) → n ≤ length ys → n ≤ length (cond v (x ∷ ys) ys)
no_fewer true n x ys l = omega (arith, l)
no_fewer false n x ys l = l

rest_up : (x : ℕ) (xs : List ℕ) → IsStrictlyIncreasing (x ∷ xs) → IsStrictlyIncreasing xs
rest_up x xs up k l = let e : suc k + 1 ≡ suc (k + 1) = omega arith in let h = up (suc k) (omega (arith, l)) in omega (arith, h, ap (λ i. get_or (x ∷ xs) i 0) e)

-- ascending numbers that pass are no more than all that pass
increasing_few : (xs : List ℕ) (p : ℕ → Bool) (k n : ℕ) → IsStrictlyIncreasing xs → ((j : ℕ) → j < length xs → (k ≤ get_or xs j 0) × (get_or xs j 0 < k + n) × (p (get_or xs j 0) ≡ true)) → length xs ≤ length (filter p (range_with_len k n))
increasing_few [] p k n up h = omega arith
increasing_few (x ∷ xs) p k zero up h = let a = h 0 (omega arith) in absurd (omega (arith, a.0, a.1))
increasing_few (x ∷ xs) p k (suc n) up h = elim (cases_eq x k) as (λ _. length (x ∷ xs) ≤ length (filter p (range_with_len k (suc n)))) [
  | inl e ↦ (let r = increasing_few xs p (k + 1) n (rest_up x xs up)
      (λ j l. let a = h (suc j) (omega (arith, l)) in let b = rises_far (x ∷ xs) up 0 (suc j) (omega arith) (omega (arith, l)) in (omega (arith, b, e), omega (arith, a.1), a.2)) in
      one_more (p k) k xs (filter p (range_with_len (k + 1) n)) (ap p (sym e) ∙ (h 0 (omega arith)).2) r)
  | inr e ↦ (let r = increasing_few (x ∷ xs) p (k + 1) n up
      (λ j l. let a = h j l in let b = least j l in (omega (arith, b, e, (h 0 (omega arith)).0), omega (arith, a.1), a.2)) in
      no_fewer (p k) (length (x ∷ xs)) k (filter p (range_with_len (k + 1) n)) r)
]
  where
    least : (j : ℕ) → j < length (x ∷ xs) → x ≤ get_or (x ∷ xs) j 0
    least j l = elim (cases_eq j 0) as (λ _. x ≤ get_or (x ∷ xs) j 0) [
      | inl e ↦ omega (arith, ap (λ i. get_or (x ∷ xs) i 0) e)
      | inr e ↦ omega (arith, rises_far (x ∷ xs) up 0 j (omega (arith, e)) l)
    ]

-- the touched tiles are no more than the tiles that pass what each of them passes
pub touched_few : (c : ChangeState) (p : ℕ → Bool) → IsChange c → ((t : ℕ) → Contains c.touched t → p t ≡ true) → length c.touched ≤ length (filter p (tiles c.size))
touched_few c p h all =
    increasing_few c.touched p 0 (tiles_in c.size) h.ascends
    (λ j l. let x = get_or c.touched j 0 in let m : Contains c.touched x = (j, l, get_or_default c.touched j x 0 l) in (omega arith, omega (arith, h.within x m), all x m))

-- ---- tiles with a changed cell

any_here : (p : ℕ → Bool) (v : Bool) (x : ℕ) (xs : List ℕ) → v ≡ true → p x ≡ true → list_any p (cond v (x ∷ xs) xs) ≡ true
any_here p true x xs e h = or_left (p x) (list_any p xs) h
any_here p false x xs e h = absurd (both_ways false refl e)

any_there : (p : ℕ → Bool) (v : Bool) (x : ℕ) (xs : List ℕ) → list_any p xs ≡ true → list_any p (cond v (x ∷ xs) xs) ≡ true
any_there p true x xs h = or_right (p x) (list_any p xs) h
any_there p false x xs h = h

any_filter : (p q : ℕ → Bool) (xs : List ℕ) (k : ℕ) → k < length xs → q (get_or xs k 0) ≡ true → p (get_or xs k 0) ≡ true → list_any p (filter q xs) ≡ true
any_filter p q [] k l e h = absurd (omega (arith, l))
any_filter p q (x ∷ xs) zero l e h = any_here p (q x) x (filter q xs) e h
any_filter p q (x ∷ xs) (suc k) l e h = any_there p (q x) x (filter q xs) (any_filter p q xs k (omega (arith, l)) e h)

-- the tile of a place that passes has one
pub has_so : (s : Size) (test : ℕ → Bool) (t i : ℕ) → i < cells_in s → test i ≡ true → tile_of s i ≡ t → tile_has s test t ≡ true
has_so s test t i l e h =
    let r = place_is s i l in
    any_filter (λ i. eqb (tile_of s i) t) test (places s) i (omega (arith, l, length-range_with_len 0 (cells_in s))) (ap test r ∙ e) (eq-eqb (tile_of s (get_or (places s) i 0)) t (ap (tile_of s) r ∙ h))

-- a tile whose cells are others has a place whose cell is another
pub changed_has : (s : Size) (before after : Cells) (t : ℕ) → IsSize s → t < tiles_in s → IsChangedTile s before after t → tile_has s (differs before after) t ≡ true
changed_has s before after t h l d = elim (cases_Bool (tile_has s (differs before after) t)) as (λ _. tile_has s (differs before after) t ≡ true) [
  | inl e ↦ e
  | inr e ↦ absurd (d (same_tile s before after t
      (λ r c p q. let w = here s t r c h l p q in
      let i = tile_start s t + r * s.columns + c in
      elim (cases_Bool (differs before after i)) as (λ _. cell_at before i ≡ cell_at after i) [
        | inl f ↦ absurd (both_ways (tile_has s (differs before after) t) e (has_so s (differs before after) t i w.within f w.tile))
        | inr f ↦ differs_not before after i f
      ])))
]
