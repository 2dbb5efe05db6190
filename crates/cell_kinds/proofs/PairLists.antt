-- The pairs of two lists of cells, with one more pair in front.
use Rattle.std.proofs.Common.{◌≡◌, ◌⊎◌, inl, inr, ℕ, ◌+◌, Bool, true, false, cond, List, [], ◌∷◌, ◌++◌, map, refl, sym, ◌∙◌, ap, ℤ, Option}
use Rattle.std.specs.Prelude.{◌&&◌}
use Rattle.std.specs.List.{flat_map}
use Rattle.map_nums.specs.Grids.{Cells}
use Rattle.map_defs.specs.Cells.{same_cell}
use Rattle.map_defs.specs.Kinds.{Pair as Crossed, with_kind, kinds_of, how_many, values_in, pairs_with, pairs_of}
use Rattle.cell_kinds.specs.Runs.{put_front}
use Rattle.cell_kinds.proofs.Compared.{IsBelow, apart, cell_itself, below_or_same}
use Rattle.cell_kinds.proofs.KindLists.{kind_there, kind_first, first_last, IsBelowAll, IsUpToAll, IsAbsent, Climbs, below_all, absent_from_below, kinds_climb, kinds_up_to, absent_there}
use Rattle.cell_kinds.proofs.Counting.{with_count, told, told-cons}

pub crossed : Option ℤ → Option ℤ × ℕ → Crossed
crossed z e = record { zone = z; value = e.0; count = e.1 }

-- the pairs with one more of zone z and value v in front
abbrev pub put_pair : Option ℤ → Option ℤ → List Crossed → List Crossed
put_pair z v [] = record { zone = z; value = v; count = 1 } ∷ []
put_pair z v (p ∷ ps) = cond (same_cell z p.zone && same_cell v p.value) (record { zone = z; value = v; count = p.count + 1 } ∷ ps) (record { zone = z; value = v; count = 1 } ∷ p ∷ ps)

-- z is the zone of none
abbrev pub IsOtherZone : Option ℤ → List Crossed → Type 0
IsOtherZone z [] = Unit {0}
IsOtherZone z (p ∷ ps) = (same_cell z p.zone ≡ false) × IsOtherZone z ps

pub put_other : (z v : Option ℤ) (ps : List Crossed) → IsOtherZone z ps → put_pair z v ps ≡ record { zone = z; value = v; count = 1 } ∷ ps
put_other z v [] h = refl
put_other z v (p ∷ ps) h = rw h.0 refl

other_append : (z : Option ℤ) (ps qs : List Crossed) → IsOtherZone z ps → IsOtherZone z qs → IsOtherZone z (ps ++ qs)
other_append z [] qs h k = k
other_append z (p ∷ ps) qs h k = (h.0, other_append z ps qs h.1 k)

other_map : {X : Type 0} (z : Option ℤ) (f : X → Crossed) → ((x : X) → same_cell z (f x).zone ≡ false) → (xs : List X) → IsOtherZone z (map f xs)
other_map z f h [] = tt
other_map z f h (x ∷ xs) = (h x, other_map z f h xs)

module _ (zones values : Cells) where
  other_zones : (z : Option ℤ) (cs : Cells) → IsAbsent z cs → IsOtherZone z (flat_map (pairs_with zones values) cs)
  other_zones z [] h = tt
  other_zones z (c ∷ cs) h =
      other_append z (pairs_with zones values c) (flat_map (pairs_with zones values) cs)
      (other_map z (λ (v : Option ℤ). record { zone = c; value = v; count = how_many (values_in zones values c) v }) (λ v. h.0) (kinds_of (values_in zones values c)))
      (other_zones z cs h.1)

-- ---- the values of a zone

pub values_here : (z v : Option ℤ) (zones values : Cells) (c : Option ℤ) → same_cell c z ≡ true → values_in (z ∷ zones) (v ∷ values) c ≡ v ∷ values_in zones values c
values_here z v zones values c e = rw e refl

pub values_elsewhere : (z v : Option ℤ) (zones values : Cells) (c : Option ℤ) → same_cell c z ≡ false → values_in (z ∷ zones) (v ∷ values) c ≡ values_in zones values c
values_elsewhere z v zones values c e = rw e refl

pub no_values : (zones values : Cells) (c : Option ℤ) → IsAbsent c zones → values_in zones values c ≡ []
no_values [] values c h = refl
no_values (z ∷ zones) [] c h = refl
no_values (z ∷ zones) (v ∷ values) c h = values_elsewhere z v zones values c h.0 ∙ no_values zones values c h.1

-- the pairs of one zone, by its values alone
abbrev pub pairs_by : Option ℤ → Cells → List Crossed
pairs_by z values = map (λ (v : Option ℤ). record { zone = z; value = v; count = how_many values v }) (kinds_of values)

map_map : {X Y Z : Type 0} (f : X → Y) (g : Y → Z) (xs : List X) → map (λ (x : X). g (f x)) xs ≡ map g (map f xs)
map_map f g [] = refl
map_map f g (x ∷ xs) = ap (λ (l : List _). g (f x) ∷ l) (map_map f g xs)

pub by_told : (z : Option ℤ) (values : Cells) → pairs_by z values ≡ map (crossed z) (told values)
unfolding crossed
by_told z values = map_map (with_count values) (crossed z) (kinds_of values)

-- one more value in the first zone
crossed_front : (z v : Option ℤ) (es : List (Option ℤ × ℕ)) (rest : List Crossed) → IsOtherZone z rest → map (crossed z) (put_front same_cell v es) ++ rest ≡ put_pair z v (map (crossed z) es ++ rest)
unfolding crossed
crossed_front z v [] rest h = sym (put_other z v rest h)
crossed_front z v (e ∷ es) rest h = by_test (same_cell v e.0) refl
  where
    by_test : (b : Bool) → same_cell v e.0 ≡ b → map (crossed z) (put_front same_cell v (e ∷ es)) ++ rest ≡ put_pair z v (map (crossed z) (e ∷ es) ++ rest)
    by_test true k = rw (k, cell_itself z) refl
    by_test false k = rw (k, cell_itself z) refl

-- ---- one more pair

module _ (z v : Option ℤ) (zones values : Cells) (low : IsUpToAll v (values_in zones values z)) where
  as_before : (cs : Cells) → IsBelowAll z cs → flat_map (pairs_with (z ∷ zones) (v ∷ values)) cs ≡ flat_map (pairs_with zones values) cs
  as_before [] h = refl
  as_before (c ∷ cs) h =
      ap (λ (w : Cells). pairs_by c w ++ flat_map (pairs_with (z ∷ zones) (v ∷ values)) cs) (values_elsewhere z v zones values c (apart z c h.0).back)
      ∙ ap (λ (l : List Crossed). pairs_by c (values_in zones values c) ++ l) (as_before cs h.1)

  one_value : pairs_by z (v ∷ []) ≡ record { zone = z; value = v; count = 1 } ∷ []
  one_value = rw (cell_itself v) refl

  zone_new : (ks : Cells) → IsBelowAll z ks → IsAbsent z zones → flat_map (pairs_with (z ∷ zones) (v ∷ values)) (z ∷ ks) ≡ put_pair z v (flat_map (pairs_with zones values) ks)
  zone_new ks h n =
      let here : values_in (z ∷ zones) (v ∷ values) z ≡ v ∷ [] = values_here z v zones values z (cell_itself z) ∙ ap (λ (l : Cells). v ∷ l) (no_values zones values z n) in
      ap (λ (w : Cells). pairs_by z w ++ flat_map (pairs_with (z ∷ zones) (v ∷ values)) ks) here
      ∙ ap (λ (l : List Crossed). l ++ flat_map (pairs_with (z ∷ zones) (v ∷ values)) ks) one_value
      ∙ ap (λ (l : List Crossed). record { zone = z; value = v; count = 1 } ∷ l) (as_before ks h)
      ∙ sym (put_other z v (flat_map (pairs_with zones values) ks) (other_zones zones values z ks (absent_from_below z ks h)))

  zone_there : (ks : Cells) → IsBelowAll z ks → flat_map (pairs_with (z ∷ zones) (v ∷ values)) (z ∷ ks) ≡ put_pair z v (flat_map (pairs_with zones values) (z ∷ ks))
  zone_there ks h =
      let old = values_in zones values z in
      let rest = flat_map (pairs_with zones values) ks in
      ap (λ (w : Cells). pairs_by z w ++ flat_map (pairs_with (z ∷ zones) (v ∷ values)) ks) (values_here z v zones values z (cell_itself z))
      ∙ ap (λ (l : List Crossed). pairs_by z (v ∷ old) ++ l) (as_before ks h)
      ∙ ap (λ (l : List Crossed). l ++ rest) (by_told z (v ∷ old))
      ∙ ap (λ (es : List (Option ℤ × ℕ)). map (crossed z) es ++ rest) (told-cons v old low)
      ∙ crossed_front z v (told old) rest (other_zones zones values z ks (absent_from_below z ks h))
      ∙ ap (λ (l : List Crossed). put_pair z v (l ++ rest)) (sym (by_told z old))

  zone_at : (d : Option ℤ) (ds : Cells) → (z ≡ d) ⊎ IsBelow z d → Climbs (d ∷ ds) → (IsAbsent z (d ∷ ds) → IsAbsent z zones) → flat_map (pairs_with (z ∷ zones) (v ∷ values)) (with_kind (d ∷ ds) z) ≡ put_pair z v (flat_map (pairs_with zones values) (d ∷ ds))
  zone_at d ds (inl e) h n =
      let above : IsBelowAll z ds = rw e h.0 in
      ap (λ (ks : Cells). flat_map (pairs_with (z ∷ zones) (v ∷ values)) ks) (kind_there z d ds e)
      ∙ ap (λ (c : Option ℤ). flat_map (pairs_with (z ∷ zones) (v ∷ values)) (c ∷ ds)) (sym e)
      ∙ zone_there ds above
      ∙ ap (λ (c : Option ℤ). put_pair z v (flat_map (pairs_with zones values) (c ∷ ds))) e
  zone_at d ds (inr l) h n =
      let above : IsBelowAll z (d ∷ ds) = (l, below_all z d ds l h.0) in
      ap (λ (ks : Cells). flat_map (pairs_with (z ∷ zones) (v ∷ values)) ks) (kind_first z d ds l)
      ∙ zone_new (d ∷ ds) above (n (absent_from_below z (d ∷ ds) above))

  zone_more : (ks : Cells) → Climbs ks → IsUpToAll z ks → (IsAbsent z ks → IsAbsent z zones) → flat_map (pairs_with (z ∷ zones) (v ∷ values)) (with_kind ks z) ≡ put_pair z v (flat_map (pairs_with zones values) ks)
  zone_more [] h u n = zone_new [] tt (n tt)
  zone_more (d ∷ ds) h u n = zone_at d ds (below_or_same z d u.0) h n

  -- a pair that is above none
  pub pairs_of-cons : IsUpToAll z zones → pairs_of (z ∷ zones) (v ∷ values) ≡ put_pair z v (pairs_of zones values)
  pairs_of-cons u =
      ap (λ (ks : Cells). flat_map (pairs_with (z ∷ zones) (v ∷ values)) ks) (first_last zones [] z)
      ∙ zone_more (kinds_of zones) (kinds_climb zones) (kinds_up_to z zones u) (absent_there z zones)
