-- How often each kind of a list stands there, with one more cell in front.
use Rattle.std.proofs.Common.{◌≡◌, ◌⊎◌, inl, inr, ℕ, ◌+◌, true, false, cond, List, [], ◌∷◌, map, refl, sym, ◌∙◌, ap, arith, ℤ, Option, IsPermutation}
use Rattle.std.proofs.lemmas.List.Sums.{sum_by-cons}
use Rattle.std.proofs.lemmas.List.Sorted.{sum_by-IsPermutation}
use Rattle.map_nums.specs.Grids.{Cells}
use Rattle.map_defs.specs.Cells.{same_cell}
use Rattle.map_defs.specs.Kinds.{with_kind, kinds_of, how_many}
use Rattle.cell_kinds.specs.Runs.{put_front, runs_of}
use Rattle.cell_kinds.proofs.Compared.{IsBelow, apart, cell_itself, below_or_same}
use Rattle.cell_kinds.proofs.KindLists.{kind_there, kind_first, first_last, kinds_of-permutation, IsBelowAll, IsUpToAll, IsAbsent, Climbs, below_all, absent_from_below, kinds_climb, kinds_up_to, absent_there}

-- a cell, and how often it stands in a list
abbrev pub with_count : Cells → Option ℤ → Option ℤ × ℕ
with_count xs c = (c, how_many xs c)

-- each kind with its count
abbrev pub told : Cells → List (Option ℤ × ℕ)
told xs = map (with_count xs) (kinds_of xs)

pub how_many-cons : (x : Option ℤ) (xs : Cells) (c : Option ℤ) → how_many (x ∷ xs) c ≡ cond (same_cell c x) 1 0 + how_many xs c
how_many-cons x xs c = sum_by-cons (λ (y : Option ℤ). cond (same_cell c y) 1 0) x xs

pub counted_once_more : (x : Option ℤ) (xs : Cells) (c : Option ℤ) → same_cell c x ≡ true → how_many (x ∷ xs) c ≡ how_many xs c + 1
counted_once_more x xs c e = how_many-cons x xs c ∙ rw e (omega arith)

pub counted_as_before : (x : Option ℤ) (xs : Cells) (c : Option ℤ) → same_cell c x ≡ false → how_many (x ∷ xs) c ≡ how_many xs c
counted_as_before x xs c e = how_many-cons x xs c ∙ rw e (omega arith)

pub none_counted : (x : Option ℤ) (xs : Cells) → IsAbsent x xs → how_many xs x ≡ 0
none_counted x [] h = refl
none_counted x (c ∷ cs) h = counted_as_before c cs x h.0 ∙ none_counted x cs h.1

-- the counts of the cells above x
counts_kept : (x : Option ℤ) (xs ds : Cells) → IsBelowAll x ds → map (with_count (x ∷ xs)) ds ≡ map (with_count xs) ds
counts_kept x xs [] h = refl
counts_kept x xs (d ∷ ds) h = rw (counted_as_before x xs d (apart x d h.0).back, counts_kept x xs ds h.1) refl

module _ (x : Option ℤ) (xs : Cells) where
  new_first : (ks : Cells) → IsBelowAll x ks → IsAbsent x xs → map (with_count (x ∷ xs)) (x ∷ ks) ≡ (x, 1) ∷ map (with_count xs) ks
  new_first ks h n =
      let one : how_many (x ∷ xs) x ≡ 1 = omega (arith, counted_once_more x xs x (cell_itself x), none_counted x xs n) in
      rw (one, counts_kept x xs ks h) refl

  front_at : (d : Option ℤ) (ds : Cells) → (x ≡ d) ⊎ IsBelow x d → Climbs (d ∷ ds) → (IsAbsent x (d ∷ ds) → IsAbsent x xs) → map (with_count (x ∷ xs)) (with_kind (d ∷ ds) x) ≡ put_front same_cell x (map (with_count xs) (d ∷ ds))
  front_at d ds (inl e) h n =
      let there : same_cell x d ≡ true = rw e (cell_itself d) in
      let back : same_cell d x ≡ true = rw e (cell_itself d) in
      let above : IsBelowAll x ds = rw e h.0 in
      rw (kind_there x d ds e, there, counted_once_more x xs d back, counts_kept x xs ds above) (ap (λ (c : Option ℤ). (c, how_many xs d + 1) ∷ map (with_count xs) ds) (sym e))
  front_at d ds (inr l) h n =
      let above : IsBelowAll x (d ∷ ds) = (l, below_all x d ds l h.0) in
      rw (kind_first x d ds l, new_first (d ∷ ds) above (n (absent_from_below x (d ∷ ds) above)), (apart x d l).there) refl

  front_more : (ks : Cells) → Climbs ks → IsUpToAll x ks → (IsAbsent x ks → IsAbsent x xs) → map (with_count (x ∷ xs)) (with_kind ks x) ≡ put_front same_cell x (map (with_count xs) ks)
  front_more [] h u n = new_first [] tt (n tt)
  front_more (d ∷ ds) h u n = front_at d ds (below_or_same x d u.0) h n

-- one more cell that is above none
pub told-cons : (x : Option ℤ) (xs : Cells) → IsUpToAll x xs → told (x ∷ xs) ≡ put_front same_cell x (told xs)
told-cons x xs h =
    ap (λ (ks : Cells). map (with_count (x ∷ xs)) ks) (first_last xs [] x)
    ∙ front_more x xs (kinds_of xs) (kinds_climb xs) (kinds_up_to x xs h) (absent_there x xs)

-- no cell is above a later one
abbrev pub Rises : Cells → Type 0
Rises [] = Unit {0}
Rises (x ∷ xs) = IsUpToAll x xs × Rises xs

-- in a list in order the runs are the kinds
pub runs_told : (xs : Cells) → Rises xs → runs_of same_cell xs ≡ told xs
runs_told [] h = refl
runs_told (x ∷ xs) h = ap (λ (es : List (Option ℤ × ℕ)). put_front same_cell x es) (runs_told xs h.1) ∙ sym (told-cons x xs h.0)

-- ---- in another order

map_agree : {X Y : Type 0} (f g : X → Y) → ((x : X) → f x ≡ g x) → (xs : List X) → map f xs ≡ map g xs
map_agree f g h [] = refl
map_agree f g h (x ∷ xs) = rw (h x, map_agree f g h xs) refl

pub how_many-permutation : (xs ys : Cells) (c : Option ℤ) → IsPermutation xs ys → how_many xs c ≡ how_many ys c
how_many-permutation xs ys c perm = sym (sum_by-IsPermutation (λ (y : Option ℤ). cond (same_cell c y) 1 0) xs ys perm)

pub told-permutation : (xs ys : Cells) → IsPermutation xs ys → told xs ≡ told ys
told-permutation xs ys perm =
    map_agree (with_count xs) (with_count ys) (λ c. ap (λ (n : ℕ). (c, n)) (how_many-permutation xs ys c perm)) (kinds_of xs)
    ∙ ap (λ (ks : Cells). map (with_count ys) ks) (kinds_of-permutation xs ys perm)
