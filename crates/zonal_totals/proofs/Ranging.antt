-- Counts of ranges of tiles.
use Rattle.std.proofs.Common.{◌≡◌, ◌≢◌, inl, inr, ℕ, ◌+◌, ◌-◌, ◌*◌, ◌^◌, ◌<◌, ◌≤◌, Bool, true, false, cond, ◌&&◌, ◌==◌, List, [], ◌∷◌, ◌++◌, length, get_or, drop, Option, Some, None, refl, sym, ◌∙◌, ap, subst, arith, ℤ, pos, ◌+ℤ◌}
use Rattle.std.specs.Prelude.{nat_le, nat_lt}
use Rattle.std.proofs.lemmas.Int.{ints}
use Rattle.std.proofs.lemmas.List.{drop_more}
use Rattle.std.proofs.lemmas.Bool.{cases_lt}
use Rattle.std.proofs.lemmas.Bool.Decides.{nat_tests}
use Rattle.map_nums.specs.Grids.{Size, IsSize, Cells, cells_in, cell_at}
use Rattle.layer_tiles.specs.Changes.{ChangeState}
use Rattle.layer_tiles.specs.Tiles.{Block, tile_block, tile_height, tile_width, tile_size, tile_of, tiles_in}
use Rattle.layer_tiles.proofs.Rounds.{back}
use Rattle.zonal_totals.specs.declared.pairs.Pair.{Pair}
use Rattle.zonal_totals.specs.declared.entries.Entry.{Entry}
use Rattle.zonal_totals.specs.declared.steps.Step.{Step}
use Rattle.zonal_totals.specs.Books.{IsBookOf, pairs_in, tile_number}
use Rattle.zonal_totals.specs.Entries.{count_in}
use Rattle.zonal_totals.specs.Merges.{Fits, IsMerged}
use Rattle.zonal_totals.specs.Pairs.{floor}
use Rattle.zonal_totals.specs.Ranges.{CountsState, zone_within, AreCountsOf, AreTileCounts, AreRanges}
use Rattle.zonal_totals.specs.Steps.{net_in, weight, StepsClimb}
use Rattle.zonal_totals.specs.Sums.{sum_to, held, pair_at, place_of}
use Rattle.zonal_totals.proofs.Drafting.{few_tiles}
use Rattle.zonal_totals.proofs.Revising.{book, pairs_few, pairs_sum, same_pos}
use Rattle.zonal_totals.proofs.Sums.{is_eq, eq_is, sum_same, sum_zero, sum_add, sum_one, sum_tiles, tile_cell, place_tile}

-- ---- numbers of tiles in a range

abbrev inside : ℕ → ℕ → ℕ → Bool
inside first end t = nat_le first t && nat_lt t end

is_le : (a b : ℕ) → a ≤ b → nat_le a b ≡ true
is_le a b h = grind (arith, nat_tests)

not_le : (a b : ℕ) → b < a → nat_le a b ≡ false
not_le a b h = grind (arith, nat_tests)

is_lt : (a b : ℕ) → a < b → nat_lt a b ≡ true
is_lt a b h = grind (arith, nat_tests)

not_lt : (a b : ℕ) → b ≤ a → nat_lt a b ≡ false
not_lt a b h = grind (arith, nat_tests)

and_false : (b : Bool) → (b && false) ≡ false
and_false true = refl
and_false false = refl

inside_is : (first end t : ℕ) → first ≤ t → t < end → inside first end t ≡ true
inside_is first end t h l = ap (λ b. b && nat_lt t end) (is_le first t h) ∙ is_lt t end l

inside_early : (first end t : ℕ) → t < first → inside first end t ≡ false
inside_early first end t h = ap (λ b. b && nat_lt t end) (not_le first t h)

inside_late : (first end t : ℕ) → end ≤ t → inside first end t ≡ false
inside_late first end t h = ap (λ b. nat_le first t && b) (not_lt t end h) ∙ and_false (nat_le first t)

inside_none : (n t : ℕ) → inside n n t ≡ false
inside_none n t = elim (cases_lt t n) [ inl l ↦ inside_early n n t l | inr l ↦ inside_late n n t l ]

-- ---- one place

abbrev held_in : Pair → Option ℤ → Option ℤ → Bool → ℤ
held_in p zone key b = held p (pair_at (cond b zone None) key)

held_split : (p : Pair) (zone key : Option ℤ) (first mid end t : ℕ) → first ≤ mid → mid ≤ end → held_in p zone key (inside first end t) ≡ held_in p zone key (inside first mid t) +ℤ held_in p zone key (inside mid end t)
held_split p zone key first mid end t h l =
    elim (cases_lt t mid) [
      | inl below ↦
          let a : inside first end t ≡ inside first mid t = ap (λ b. nat_le first t && b) (is_lt t end (omega arith) ∙ sym (is_lt t mid below)) in
          omega (arith, ints, ap (held_in p zone key) a, ap (held_in p zone key) (inside_early mid end t below))
      | inr above ↦
          let a : inside first end t ≡ inside mid end t = ap (λ b. b && nat_lt t end) (is_le first t (omega arith) ∙ sym (is_le mid t above)) in
          omega (arith, ints, ap (held_in p zone key) a, ap (held_in p zone key) (inside_late first mid t above))
    ]

-- ---- ranges side by side

module _ (s : Size) (zones : Cells) (key : ℕ → Option ℤ) (p : Pair) where
  abbrev pairs_of : ℕ → ℕ → ℕ
  pairs_of first end = pairs_in s (zone_within s zones first end) key p

  abbrev has : ℕ → ℕ → ℕ → ℤ
  has first end i = held p (pair_at (zone_within s zones first end i) (key i))

  pub ranges_join : (first mid end : ℕ) → first ≤ mid → mid ≤ end → pos (pairs_of first end) ≡ pos (pairs_of first mid) +ℤ pos (pairs_of mid end)
  ranges_join first mid end h l =
      let whole = pairs_sum s (zone_within s zones first end) key p in
      let low = pairs_sum s (zone_within s zones first mid) key p in
      let high = pairs_sum s (zone_within s zones mid end) key p in
      let parts = sum_same (has first end) (λ i. has first mid i +ℤ has mid end i) (cells_in s) (λ i _. held_split p (cell_at zones i) (key i) first mid end (tile_of s i) h l) in
      let added = sum_add (has first mid) (has mid end) (cells_in s) in
      omega (arith, ints, whole, low, high, parts, added)

  pub range_none : (n : ℕ) → pos (pairs_of n n) ≡ pos 0
  range_none n =
      pairs_sum s (zone_within s zones n n) key p
      ∙ sum_zero (has n n) (cells_in s) (λ i _. ap (held_in p (cell_at zones i) (key i)) (inside_none n (tile_of s i)))

  module _ (size : IsSize s) where
    pub range_all : pos (pairs_of 0 (tiles_in s)) ≡ pos (pairs_in s (cell_at zones) key p)
    range_all =
        pairs_sum s (zone_within s zones 0 (tiles_in s)) key p
        ∙ sum_same (has 0 (tiles_in s)) (λ i. held p (pair_at (cell_at zones i) (key i))) (cells_in s)
        (λ i h. ap (held_in p (cell_at zones i) (key i)) (inside_is 0 (tiles_in s) (tile_of s i) (omega arith) (back s i size h).tile))
        ∙ sym (pairs_sum s (cell_at zones) key p)

    -- place k of tile t
    abbrev own : ℕ → ℕ → ℤ
    own t k = held p (pair_at (cell_at zones (place_of s t k)) (key (place_of s t k)))

    own_place : (t u k : ℕ) (b : Bool) → (u == t) ≡ b → u < tiles_in s → k < tile_size s u → has t (t + 1) (place_of s u k) ≡ cond b (own u k) (pos 0)
    own_place t u k true e h l =
        let here = (place_tile s size u k h l).1 in
        let same = is_eq u t e in
        ap (held_in p (cell_at zones (place_of s u k)) (key (place_of s u k))) (inside_is t (t + 1) (tile_of s (place_of s u k)) (omega (arith, here, same)) (omega (arith, here, same)))
    own_place t u k false e h l =
        let here = (place_tile s size u k h l).1 in
        let apart : u ≢ t = λ q. let yes = eq_is u t q in cc in
        let out : inside t (t + 1) (tile_of s (place_of s u k)) ≡ false =
        elim (cases_lt u t) [
          | inl below ↦ inside_early t (t + 1) (tile_of s (place_of s u k)) (omega (arith, here))
          | inr above ↦ inside_late t (t + 1) (tile_of s (place_of s u k)) (omega (arith, here, apart))
        ] in
        ap (held_in p (cell_at zones (place_of s u k)) (key (place_of s u k))) out

    own_tile : (t u : ℕ) (b : Bool) → (u == t) ≡ b → u < tiles_in s → sum_to (λ k. has t (t + 1) (place_of s u k)) (tile_size s u) ≡ cond b (sum_to (own u) (tile_size s u)) (pos 0)
    own_tile t u true e h = sum_same (λ k. has t (t + 1) (place_of s u k)) (own u) (tile_size s u) (λ k l. own_place t u k true e h l)
    own_tile t u false e h = sum_zero (λ k. has t (t + 1) (place_of s u k)) (tile_size s u) (λ k l. own_place t u k false e h l)

    -- the pairs of one tile, place by place
    pub range_one : (t : ℕ) → t < tiles_in s → pos (pairs_of t (t + 1)) ≡ sum_to (own t) (tile_size s t)
    range_one t h =
        pairs_sum s (zone_within s zones t (t + 1)) key p
        ∙ sym (sum_tiles s size (has t (t + 1)))
        ∙ sum_same (λ u. sum_to (λ k. has t (t + 1) (place_of s u k)) (tile_size s u)) (λ u. cond (u == t) (sum_to (own u) (tile_size s u)) (pos 0)) (tiles_in s) (λ u l. own_tile t u (u == t) refl l)
        ∙ sum_one (λ u. sum_to (own u) (tile_size s u)) t (tiles_in s) h

-- ---- the pairs of a lent tile

pub same_held : (p : Pair) (zone key zone' key' : Option ℤ) → zone ≡ zone' → key ≡ key' → held p (pair_at zone key) ≡ held p (pair_at zone' key')
same_held p zone key zone' key' e f = rw (e, f) refl

module _ (s : Size) (size : IsSize s) (t : ℕ) (h : t < tiles_in s) (p : Pair) where
  pub values_counted : (values zones : ChangeState) → values.size ≡ s → zones.size ≡ s → (z v : Block) (height width : ℕ) → z ≡ tile_block zones.size zones.cells t → v ≡ tile_block values.size values.cells t → height ≡ tile_height s t → width ≡ tile_width s t
      → sum_to (λ k. held p (pair_at (cell_at z.cells k) (cell_at v.cells k))) (height * width) ≡ pos (pairs_in s (zone_within s zones.cells t (t + 1)) (cell_at values.cells) p)
  values_counted values zones ev ez z v height width a b f g =
      rw (a, b, ev, ez, f, g)
      (sum_same _ _ (tile_size s t) (λ k l. same_held p _ _ _ _ (tile_cell s size zones.cells t k l) (tile_cell s size values.cells t k l))
      ∙ sym (range_one s zones.cells (cell_at values.cells) p size t h))

  pub zones_counted : (zones : ChangeState) → zones.size ≡ s → (z : Block) (key : Option ℤ) (height width : ℕ) → z ≡ tile_block zones.size zones.cells t → key ≡ Some (pos t) → height ≡ tile_height s t → width ≡ tile_width s t
      → sum_to (λ k. held p (pair_at (cell_at z.cells k) key)) (height * width) ≡ pos (pairs_in s (zone_within s zones.cells t (t + 1)) (tile_number s) p)
  zones_counted zones ez z key height width a n f g =
      rw (a, ez, n, f, g)
      (sum_same _ _ (tile_size s t) (λ k l. same_held p _ _ _ _ (tile_cell s size zones.cells t k l) (ap (λ u. Some (pos u)) (sym (place_tile s size t k h l).1)))
      ∙ sym (range_one s zones.cells (tile_number s) p size t h))

-- ---- counts put together

pub counts_none : (s : Size) (values zones : Cells) → AreTileCounts s values zones 0 0 (record { values = []; tiles = [] })
counts_none s values zones = record {
  value_counts = record { order = tt; few = omega arith; counts = λ p. sym (range_none s zones (cell_at values) p 0) };
  tile_counts = record { order = tt; few = omega arith; counts = λ p. sym (range_none s zones (tile_number s) p 0) };
}

pub counts_join : (s : Size) (zones : Cells) (key : ℕ → Option ℤ) (mid end : ℕ) (ss us vs : List Step) → mid ≤ end → AreCountsOf ss s (zone_within s zones 0 mid) key (1024 * (mid - 0)) → AreCountsOf us s (zone_within s zones mid end) key (1024 * (end - mid))
    → StepsClimb floor vs → ((p : Pair) → net_in vs p ≡ net_in ss p +ℤ net_in us p) → weight vs ≤ weight ss + weight us → AreCountsOf vs s (zone_within s zones 0 end) key (1024 * (end - 0))
counts_join s zones key mid end ss us vs h a b order net few = record {
  order = order;
  few = omega (arith, few, a.few, b.few);
  counts = λ p. omega (arith, ints, net p, a.counts p, b.counts p, ranges_join s zones key p 0 mid end (omega arith) h);
}

pub ranges_end : (s : Size) (values zones : Cells) (n end : ℕ) (cs : List CountsState) → AreRanges s values zones n end cs → n ≤ end
ranges_end s values zones n end [] h = omega (arith, h)
ranges_end s values zones n end (c ∷ cs) h = omega (arith, h.1, ranges_end s values zones h.0 end cs h.3)

-- the counts of one range more
pub ranges_more : (s : Size) (values zones : Cells) (n m end : ℕ) (cs : List CountsState) (c : CountsState) → AreRanges s values zones n m cs → m ≤ end → AreTileCounts s values zones m end c → AreRanges s values zones n end (cs ++ c ∷ [])
ranges_more s values zones n m end [] c e l h = (end, omega (arith, e, l), subst (λ (k : ℕ). AreTileCounts s values zones k end c) (sym e) h, refl)
ranges_more s values zones n m end (b ∷ cs) c k l h = (k.0, k.1, k.2, ranges_more s values zones k.0 m end cs c k.3 l h)

pub small_counts : (s : Size) (n : ℕ) → IsSize s → n ≤ tiles_in s → 1024 * n < 2 ^ 31
small_counts s n size h = omega (arith, h, few_tiles s size)

-- these are the counts of the first tiles, and those of ranges from there on are left
abbrev pub AreDone : Size → Cells → Cells → CountsState → List CountsState → Type 0
AreDone s values zones c cs = (n : ℕ) × AreTileCounts s values zones 0 n c × AreRanges s values zones n (tiles_in s) cs

pub done_none : (s : Size) (values zones : Cells) (ranges : List CountsState) (vs us : List Step) → vs ≡ [] → us ≡ [] → AreRanges s values zones 0 (tiles_in s) ranges → AreDone s values zones (record { values = vs; tiles = us }) (drop 0 ranges)
done_none s values zones ranges vs us e f h = (0, rw (e, f) (counts_none s values zones), h)

-- the next range
module _ (s : Size) (values zones : Cells) (all : CountsState) (ranges : List CountsState) (i : ℕ) (d next : CountsState) (is : next ≡ get_or ranges i d) (more : i < length ranges) (done : AreDone s values zones all (drop i ranges)) where
  left : AreRanges s values zones done.0 (tiles_in s) (next ∷ drop (i + 1) ranges)
  left =
      subst (λ (c : CountsState). AreRanges s values zones done.0 (tiles_in s) (c ∷ drop (i + 1) ranges)) (sym is)
      (subst (λ (l : List CountsState). AreRanges s values zones done.0 (tiles_in s) l) (drop_more ranges i d more) done.2)

  pub done_room : IsSize s → (weight all.values + weight next.values < 2 ^ 31) × (weight all.tiles + weight next.tiles < 2 ^ 31)
  done_room size =
      let small = small_counts s left.0 size (ranges_end s values zones left.0 (tiles_in s) (drop (i + 1) ranges) left.3) in
      (omega (arith, small, left.1, done.1.value_counts.few, left.2.value_counts.few), omega (arith, small, left.1, done.1.tile_counts.few, left.2.tile_counts.few))

  pub done_more : (vs us : List Step) → StepsClimb floor vs → ((p : Pair) → net_in vs p ≡ net_in all.values p +ℤ net_in next.values p) → weight vs ≤ weight all.values + weight next.values
      → StepsClimb floor us → ((p : Pair) → net_in us p ≡ net_in all.tiles p +ℤ net_in next.tiles p) → weight us ≤ weight all.tiles + weight next.tiles → AreDone s values zones (record { values = vs; tiles = us }) (drop (i + 1) ranges)
  done_more vs us a b c e f g = (
    left.0,
    record {
      value_counts = counts_join s zones (cell_at values) done.0 left.0 all.values next.values vs left.1 done.1.value_counts left.2.value_counts a b c;
      tile_counts = counts_join s zones (tile_number s) done.0 left.0 all.tiles next.tiles us left.1 done.1.tile_counts left.2.tile_counts e f g;
    },
    left.3,
  )

-- ---- the book of the whole

module _ (s : Size) (size : IsSize s) (zones : Cells) (key : ℕ → Option ℤ) (most : ℕ) (ss : List Step) (c : AreCountsOf ss s (zone_within s zones 0 (tiles_in s)) key most) where
  goes : (p : Pair) → pos 0 +ℤ net_in ss p ≡ pos (pairs_in s (cell_at zones) key p)
  goes p = omega (arith, ints, c.counts p, range_all s zones key p size)

  pub whole_fits : Fits [] ss
  whole_fits p = (pairs_in s (cell_at zones) key p, goes p, omega (arith, pairs_few s (cell_at zones) key p, size.most_cells))

  pub whole_counts : (fs : List Entry) → IsMerged [] ss fs → (p : Pair) → count_in fs p ≡ pairs_in s (cell_at zones) key p
  whole_counts fs m p = same_pos (count_in fs p) (pairs_in s (cell_at zones) key p) (m.counts p ∙ goes p)

pub whole_book : (s : Size) → IsSize s → (values zones : Cells) (c : CountsState) → AreTileCounts s values zones 0 (tiles_in s) c → (fs fs' : List Entry) → IsMerged [] c.values fs → IsMerged [] c.tiles fs' → IsBookOf (book s fs fs') values zones
whole_book s size values zones c h fs fs' m m' = record {
  value_counts = whole_counts s size zones (cell_at values) _ c.values h.value_counts fs m;
  tile_counts = whole_counts s size zones (tile_number s) _ c.tiles h.tile_counts fs' m';
}
