-- Lists of different cells in ascending order, and one more cell in its place.
use Rattle.std.proofs.Common.{◌≡◌, ◌⊎◌, inl, inr, false, [], ◌∷◌, fold, refl, sym, ◌∙◌, ap, ℤ, Option, IsPermutation}
use Rattle.map_nums.specs.Grids.{Cells}
use Rattle.map_nums.proofs.Exchanges.{along_permutation}
use Rattle.map_defs.specs.Cells.{same_cell}
use Rattle.map_defs.specs.Kinds.{with_kind, kinds_of}
use Rattle.cell_kinds.proofs.Compared.{IsBelow, IsUpTo, apart, cell_itself, below_or_same, in_order, below_trans, up_to_trans}

-- ---- one more cell

pub kind_there : (c d : Option ℤ) (ds : Cells) → c ≡ d → with_kind (d ∷ ds) c ≡ d ∷ ds
kind_there c d ds e = rw e (rw (cell_itself d) refl)

pub kind_first : (c d : Option ℤ) (ds : Cells) → IsBelow c d → with_kind (d ∷ ds) c ≡ c ∷ d ∷ ds
kind_first c d ds h = let a = apart c d h in rw (a.there, a.before) refl

pub kind_later : (c d : Option ℤ) (ds : Cells) → IsBelow d c → with_kind (d ∷ ds) c ≡ d ∷ with_kind ds c
kind_later c d ds h = let a = apart d c h in rw (a.back, a.after) refl

-- how one cell stands to another
pub data Stands (c d : Option ℤ) : Type 0 where
  same : c ≡ d → Stands c d
  below : IsBelow c d → Stands c d
  above : IsBelow d c → Stands c d

pub stands : (c d : Option ℤ) → Stands c d
stands c d = from_order (in_order c d)
  where
    from_up_to : (c ≡ d) ⊎ IsBelow c d → Stands c d
    from_up_to (inl e) = same e
    from_up_to (inr l) = below l

    from_order : IsUpTo c d ⊎ IsBelow d c → Stands c d
    from_order (inl h) = from_up_to (below_or_same c d h)
    from_order (inr h) = above h

-- ---- the order in which two cells come does not matter

module _ (x y : Option ℤ) (l : IsBelow x y) where
  turned_before : (d : Option ℤ) (ds : Cells) → IsBelow x d → Stands y d → with_kind (with_kind (d ∷ ds) x) y ≡ with_kind (with_kind (d ∷ ds) y) x
  turned_before d ds h (same e) =
      rw (kind_first x d ds h, kind_later y x (d ∷ ds) l, kind_there y d ds e, kind_first x d ds h) refl
  turned_before d ds h (below k) =
      rw (kind_first x d ds h, kind_later y x (d ∷ ds) l, kind_first y d ds k, kind_first x y (d ∷ ds) l) refl
  turned_before d ds h (above k) =
      rw (kind_first x d ds h, kind_later y x (d ∷ ds) l, kind_later y d ds k, kind_first x d (with_kind ds y) h) refl

  turned_at : (d : Option ℤ) (ds : Cells) → Stands x d → with_kind (with_kind ds x) y ≡ with_kind (with_kind ds y) x → with_kind (with_kind (d ∷ ds) x) y ≡ with_kind (with_kind (d ∷ ds) y) x
  turned_at d ds (same e) rest =
      let k : IsBelow d y = rw (sym e) l in
      rw (kind_there x d ds e, kind_later y d ds k, kind_there x d (with_kind ds y) e) refl
  turned_at d ds (below h) rest = turned_before d ds h (stands y d)
  turned_at d ds (above h) rest =
      let k : IsBelow d y = below_trans d x y h l in
      rw (kind_later x d ds h, kind_later y d (with_kind ds x) k, kind_later y d ds k, kind_later x d (with_kind ds y) h) (ap (λ (ks : Cells). d ∷ ks) rest)

  turned : (ks : Cells) → with_kind (with_kind ks x) y ≡ with_kind (with_kind ks y) x
  turned [] = rw (kind_later y x [] l, kind_first x y [] l) refl
  turned (d ∷ ds) = turned_at d ds (stands x d) (turned ds)

pub turn : (ks : Cells) (x y : Option ℤ) → with_kind (with_kind ks x) y ≡ with_kind (with_kind ks y) x
turn ks x y = by_order (stands x y)
  where
    by_order : Stands x y → with_kind (with_kind ks x) y ≡ with_kind (with_kind ks y) x
    by_order (same e) = ap (λ (z : Option ℤ). with_kind (with_kind ks z) y) e ∙ ap (λ (z : Option ℤ). with_kind (with_kind ks y) z) (sym e)
    by_order (below l) = turned x y l ks
    by_order (above l) = sym (turned y x l ks)

-- the first cell may come last
pub first_last : (xs ks : Cells) (x : Option ℤ) → fold with_kind (with_kind ks x) xs ≡ with_kind (fold with_kind ks xs) x
first_last [] ks x = refl
first_last (y ∷ ys) ks x = ap (λ (l : Cells). fold with_kind l ys) (turn ks x y) ∙ first_last ys (with_kind ks y) x

pub kinds_of-permutation : (xs ys : Cells) → IsPermutation xs ys → kinds_of xs ≡ kinds_of ys
kinds_of-permutation xs ys perm =
    along_permutation (λ (xs ys : Cells). (ks : Cells) → fold with_kind ks xs ≡ fold with_kind ks ys) (λ xs ks. refl) (λ x xs ys h ks. h (with_kind ks x)) (λ x y xs ks. ap (λ (l : Cells). fold with_kind l xs) (turn ks x y)) (λ xs ys zs h k ks. h ks ∙ k ks) xs ys perm []

-- ---- ascending lists

-- c is below each cell
abbrev pub IsBelowAll : Option ℤ → Cells → Type 0
IsBelowAll c [] = Unit {0}
IsBelowAll c (d ∷ ds) = IsBelow c d × IsBelowAll c ds

-- c is not above any cell
abbrev pub IsUpToAll : Option ℤ → Cells → Type 0
IsUpToAll c [] = Unit {0}
IsUpToAll c (d ∷ ds) = IsUpTo c d × IsUpToAll c ds

-- c is no cell of the list
abbrev pub IsAbsent : Option ℤ → Cells → Type 0
IsAbsent c [] = Unit {0}
IsAbsent c (d ∷ ds) = (same_cell c d ≡ false) × IsAbsent c ds

abbrev pub Climbs : Cells → Type 0
Climbs [] = Unit {0}
Climbs (d ∷ ds) = IsBelowAll d ds × Climbs ds

pub below_all : (c d : Option ℤ) (ds : Cells) → IsBelow c d → IsBelowAll d ds → IsBelowAll c ds
below_all c d [] h k = tt
below_all c d (e ∷ es) h k = (below_trans c d e h k.0, below_all c d es h k.1)

pub up_to_all : (c d : Option ℤ) (ds : Cells) → IsUpTo c d → IsUpToAll d ds → IsUpToAll c ds
up_to_all c d [] h k = tt
up_to_all c d (e ∷ es) h k = (up_to_trans c d e h k.0, up_to_all c d es h k.1)

pub absent_from_below : (c : Option ℤ) (ds : Cells) → IsBelowAll c ds → IsAbsent c ds
absent_from_below c [] h = tt
absent_from_below c (d ∷ ds) h = ((apart c d h.0).there, absent_from_below c ds h.1)

module _ (b c : Option ℤ) where
  below_at : (d : Option ℤ) (ds : Cells) → Stands c d → IsBelow b c → IsBelowAll b (d ∷ ds) → IsBelowAll b (with_kind ds c) → IsBelowAll b (with_kind (d ∷ ds) c)
  below_at d ds (same e) h k r = rw (kind_there c d ds e) k
  below_at d ds (below l) h k r = rw (kind_first c d ds l) (h, k)
  below_at d ds (above l) h k r = rw (kind_later c d ds l) (k.0, r)

  below_with : (ks : Cells) → IsBelow b c → IsBelowAll b ks → IsBelowAll b (with_kind ks c)
  below_with [] h k = (h, tt)
  below_with (d ∷ ds) h k = below_at d ds (stands c d) h k (below_with ds h k.1)

  up_to_at : (d : Option ℤ) (ds : Cells) → Stands c d → IsUpTo b c → IsUpToAll b (d ∷ ds) → IsUpToAll b (with_kind ds c) → IsUpToAll b (with_kind (d ∷ ds) c)
  up_to_at d ds (same e) h k r = rw (kind_there c d ds e) k
  up_to_at d ds (below l) h k r = rw (kind_first c d ds l) (h, k)
  up_to_at d ds (above l) h k r = rw (kind_later c d ds l) (k.0, r)

  up_to_with : (ks : Cells) → IsUpTo b c → IsUpToAll b ks → IsUpToAll b (with_kind ks c)
  up_to_with [] h k = (h, tt)
  up_to_with (d ∷ ds) h k = up_to_at d ds (stands c d) h k (up_to_with ds h k.1)

  absent_at : (d : Option ℤ) (ds : Cells) → Stands c d → IsAbsent b (with_kind (d ∷ ds) c) → (IsAbsent b (with_kind ds c) → IsAbsent b ds × (same_cell b c ≡ false)) → IsAbsent b (d ∷ ds) × (same_cell b c ≡ false)
  absent_at d ds (same e) h rest = let k : IsAbsent b (d ∷ ds) = rw (kind_there c d ds e) at h in (k, rw e k.0)
  absent_at d ds (below l) h rest = let k : IsAbsent b (c ∷ d ∷ ds) = rw (kind_first c d ds l) at h in (k.1, k.0)
  absent_at d ds (above l) h rest =
      let k : IsAbsent b (d ∷ with_kind ds c) = rw (kind_later c d ds l) at h in
      let r = rest k.1 in
      ((k.0, r.0), r.1)

  absent_with : (ks : Cells) → IsAbsent b (with_kind ks c) → IsAbsent b ks × (same_cell b c ≡ false)
  absent_with [] h = (tt, h.0)
  absent_with (d ∷ ds) h = absent_at d ds (stands c d) h (absent_with ds)

climbs_at : (d : Option ℤ) (ds : Cells) (c : Option ℤ) → Stands c d → Climbs (d ∷ ds) → Climbs (with_kind ds c) → Climbs (with_kind (d ∷ ds) c)
climbs_at d ds c (same e) h r = rw (kind_there c d ds e) h
climbs_at d ds c (below l) h r = rw (kind_first c d ds l) ((l, below_all c d ds l h.0), h)
climbs_at d ds c (above l) h r = rw (kind_later c d ds l) (below_with d c ds l h.0, r)

climbs_with : (ks : Cells) (c : Option ℤ) → Climbs ks → Climbs (with_kind ks c)
climbs_with [] c h = (tt, tt)
climbs_with (d ∷ ds) c h = climbs_at d ds c (stands c d) h (climbs_with ds c h.1)

climbs_from : (xs ks : Cells) → Climbs ks → Climbs (fold with_kind ks xs)
climbs_from [] ks h = h
climbs_from (x ∷ xs) ks h = climbs_from xs (with_kind ks x) (climbs_with ks x h)

pub kinds_climb : (xs : Cells) → Climbs (kinds_of xs)
kinds_climb xs = climbs_from xs [] tt

up_to_from : (b : Option ℤ) (xs ks : Cells) → IsUpToAll b ks → IsUpToAll b xs → IsUpToAll b (fold with_kind ks xs)
up_to_from b [] ks h k = h
up_to_from b (x ∷ xs) ks h k = up_to_from b xs (with_kind ks x) (up_to_with b x ks k.0 h) k.1

pub kinds_up_to : (b : Option ℤ) (xs : Cells) → IsUpToAll b xs → IsUpToAll b (kinds_of xs)
kinds_up_to b xs h = up_to_from b xs [] tt h

absent_from : (b : Option ℤ) (xs ks : Cells) → IsAbsent b (fold with_kind ks xs) → IsAbsent b ks × IsAbsent b xs
absent_from b [] ks h = (h, tt)
absent_from b (x ∷ xs) ks h =
    let rest = absent_from b xs (with_kind ks x) h in
    let here = absent_with b x ks rest.0 in
    (here.0, (here.1, rest.1))

-- what is no kind of a list is no cell of it
pub absent_there : (b : Option ℤ) (xs : Cells) → IsAbsent b (kinds_of xs) → IsAbsent b xs
absent_there b xs h = (absent_from b xs [] h).1
