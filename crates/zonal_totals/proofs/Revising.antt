-- A book after a change.
use Rattle.std.proofs.Common.{◌≡◌, ℕ, zero, suc, ◌+◌, ◌≤◌, Bool, true, false, cond, ◌&&◌, List, ◌∷◌, Option, Some, None, refl, sym, ◌∙◌, ap, subst, arith, ℤ, pos, ◌+ℤ◌, ◌-ℤ◌}
use Rattle.std.specs.Prelude.{count_by}
use Rattle.std.specs.List.{range_with_len}
use Rattle.std.proofs.lemmas.Int.{ints}
use Rattle.std.proofs.lemmas.List.FromFn.{length-range_with_len}
use Rattle.std.proofs.lemmas.List.Sums.{sum_by-cons, count_by-le-length}
use Rattle.map_nums.specs.Grids.{Size, IsSize, Cells, cells_in, cell_at, places}
use Rattle.map_defs.specs.Cells.{has_number}
use Rattle.zonal_totals.specs.declared.pairs.Pair.{Pair}
use Rattle.zonal_totals.specs.declared.entries.Entry.{Entry}
use Rattle.zonal_totals.specs.declared.steps.Step.{Step}
use Rattle.zonal_totals.specs.Entries.{count_in}
use Rattle.zonal_totals.specs.Pairs.{floor}
use Rattle.zonal_totals.specs.Steps.{net_in, StepsClimb}
use Rattle.zonal_totals.specs.ChangedZones.{AreChangedZones}
use Rattle.zonal_totals.specs.ZoneLists.{zones_from}
use Rattle.zonal_totals.proofs.Zoning.{zones_rise, all_rise, zones_exact}
use Rattle.zonal_totals.specs.Merges.{Fits, IsMerged}
use Rattle.zonal_totals.specs.Sums.{sum_to, shift, held, pair_at}
use Rattle.zonal_totals.specs.Books.{BookState, IsBookOf, has_pair, pairs_in, tile_number}
use Rattle.layer_tiles.specs.Changes.{ChangeState, cells_before}
use Rattle.zonal_totals.specs.Drafts.{value_shift, tile_shift}

pub same_pos : (a b : ℕ) → pos a ≡ pos b → a ≡ b
same_pos a b e = cc

count_first : (q : ℕ → Bool) (i : ℕ) (is : List ℕ) → count_by q (i ∷ is) ≡ cond (q i) 1 0 + count_by q is
count_first q i is = sum_by-cons (λ j. cond (q j) 1 0) i is

sum_first : (f : ℕ → ℤ) (n : ℕ) → sum_to f (suc n) ≡ f 0 +ℤ sum_to (λ i. f (suc i)) n
sum_first f zero = omega (arith, ints)
sum_first f (suc n) = omega (arith, ints, sum_first f n)

ticked : (b : Bool) (n : ℕ) → pos (cond b 1 0 + n) ≡ cond b (pos 1) (pos 0) +ℤ pos n
ticked true n = omega (arith, ints)
ticked false n = omega (arith, ints)

sum_same_all : (f g : ℕ → ℤ) (n : ℕ) → ((i : ℕ) → f i ≡ g i) → sum_to f n ≡ sum_to g n
sum_same_all f g zero h = refl
sum_same_all f g (suc n) h = omega (arith, ints, sum_same_all f g n h, h n)

pub count_range : (q : ℕ → Bool) (a n : ℕ) → pos (count_by q (range_with_len a n)) ≡ sum_to (λ i. cond (q (a + i)) (pos 1) (pos 0)) n
count_range q a zero = refl
count_range q a (suc n) =
    let z : a + 0 ≡ a = omega arith in
    ap pos (count_first q a (range_with_len (a + 1) n)) ∙ ticked (q a) (count_by q (range_with_len (a + 1) n))
    ∙ ap (λ x. cond (q a) (pos 1) (pos 0) +ℤ x) (count_range q (a + 1) n ∙ sum_same_all (λ i. cond (q (a + 1 + i)) (pos 1) (pos 0)) (λ i. cond (q (a + suc i)) (pos 1) (pos 0)) n (λ i. let e : a + 1 + i ≡ a + suc i = omega arith in ap (λ k. cond (q k) (pos 1) (pos 0)) e))
    ∙ ap (λ k. cond (q k) (pos 1) (pos 0) +ℤ sum_to (λ i. cond (q (a + suc i)) (pos 1) (pos 0)) n) (sym z)
    ∙ sym (sum_first (λ i. cond (q (a + i)) (pos 1) (pos 0)) n)

held_is : (p : Pair) (zone key : Option ℤ) → cond (has_number p.zone zone && has_number p.key key) (pos 1) (pos 0) ≡ held p (pair_at zone key)
held_is p None key = refl
held_is p (Some z) None = elim (has_number p.zone (Some z)) as (λ b. cond (b && false) (pos 1) (pos 0) ≡ pos 0) [ true ↦ refl | false ↦ refl ]
held_is p (Some z) (Some k) = refl

pub pairs_sum : (s : Size) (zone key : ℕ → Option ℤ) (p : Pair) → pos (pairs_in s zone key p) ≡ sum_to (λ i. held p (pair_at (zone i) (key i))) (cells_in s)
pairs_sum s zone key p =
    count_range (has_pair zone key p) 0 (cells_in s)
    ∙ sum_same_all (λ i. cond (has_pair zone key p (0 + i)) (pos 1) (pos 0)) (λ i. held p (pair_at (zone i) (key i))) (cells_in s) (λ i. let e : 0 + i ≡ i = omega arith in ap (λ k. cond (has_pair zone key p k) (pos 1) (pos 0)) e ∙ held_is p (zone i) (key i))

pub pairs_few : (s : Size) (zone key : ℕ → Option ℤ) (p : Pair) → pairs_in s zone key p ≤ cells_in s
pairs_few s zone key p = omega (arith, count_by-le-length (has_pair zone key p) (places s), length-range_with_len 0 (cells_in s))

sum_less : (f g : ℕ → ℤ) (n : ℕ) → sum_to (λ i. f i -ℤ g i) n ≡ sum_to f n -ℤ sum_to g n
sum_less f g zero = omega (arith, ints)
sum_less f g (suc n) = omega (arith, ints, sum_less f g n)

module _ (s : Size) (size : IsSize s) (zone key zone' key' : ℕ → Option ℤ) (es : List Entry) (ss : List Step)
    (counts : (p : Pair) → count_in es p ≡ pairs_in s zone key p)
    (net : (p : Pair) → net_in ss p ≡ sum_to (λ i. shift p (zone i) (key i) (zone' i) (key' i)) (cells_in s)) where
  goes : (p : Pair) → pos (count_in es p) +ℤ net_in ss p ≡ pos (pairs_in s zone' key' p)
  goes p =
      omega (arith, ints, ap pos (counts p), net p, sum_less (λ i. held p (pair_at (zone' i) (key' i))) (λ i. held p (pair_at (zone i) (key i))) (cells_in s), pairs_sum s zone key p, pairs_sum s zone' key' p)

  pub pairs_go : (p : Pair) → pos (pairs_in s zone key p) +ℤ net_in ss p ≡ pos (pairs_in s zone' key' p)
  pairs_go p = omega (arith, ints, ap pos (counts p), goes p)

  pub revise_fits : Fits es ss
  revise_fits p = (pairs_in s zone' key' p, goes p, omega (arith, pairs_few s zone' key' p, size.most_cells))

  pub revised_counts : (fs : List Entry) → IsMerged es ss fs → (p : Pair) → count_in fs p ≡ pairs_in s zone' key' p
  revised_counts fs m p = same_pos (count_in fs p) (pairs_in s zone' key' p) (m.counts p ∙ goes p)

abbrev pub book : Size → List Entry → List Entry → BookState
book s values tiles = record { size = s; values = values; tiles = tiles }

-- ---- a book revised

module _ (values zones : ChangeState) (size : IsSize zones.size) (es es' : List Entry) (ss ss' : List Step)
    (right : IsBookOf (book zones.size es es') (cells_before values) (cells_before zones))
    (net : (p : Pair) → net_in ss p ≡ sum_to (value_shift values zones p) (cells_in zones.size))
    (net' : (p : Pair) → net_in ss' p ≡ sum_to (tile_shift zones p) (cells_in zones.size)) where
  pub value_fits : Fits es ss
  value_fits = revise_fits zones.size size (cell_at (cells_before zones)) (cell_at (cells_before values)) (cell_at zones.cells) (cell_at values.cells) es ss right.value_counts net

  pub changed_zones : StepsClimb floor ss → AreChangedZones (zones_from None ss) zones.size (cells_before values) (cells_before zones) values.cells zones.cells
  changed_zones climbs = record {
    ascends = all_rise floor (zones_from None ss) (zones_rise ss climbs);
    exact = zones_exact ss climbs (pairs_in zones.size (cell_at (cells_before zones)) (cell_at (cells_before values))) (pairs_in zones.size (cell_at zones.cells) (cell_at values.cells))
        (pairs_go zones.size size (cell_at (cells_before zones)) (cell_at (cells_before values)) (cell_at zones.cells) (cell_at values.cells) es ss right.value_counts net);
  }

  pub tile_fits : Fits es' ss'
  tile_fits = revise_fits zones.size size (cell_at (cells_before zones)) (tile_number zones.size) (cell_at zones.cells) (tile_number zones.size) es' ss' right.tile_counts net'

  pub revised : (fs fs' : List Entry) → IsMerged es ss fs → IsMerged es' ss' fs' → IsBookOf (book zones.size fs fs') values.cells zones.cells
  revised fs fs' m m' = record {
    value_counts = revised_counts zones.size size (cell_at (cells_before zones)) (cell_at (cells_before values)) (cell_at zones.cells) (cell_at values.cells) es ss right.value_counts net fs m;
    tile_counts = revised_counts zones.size size (cell_at (cells_before zones)) (tile_number zones.size) (cell_at zones.cells) (tile_number zones.size) es' ss' right.tile_counts net' fs' m';
  }

-- ---- the same book

pub resized : (s t : Size) (values tiles : List Entry) (v z : Cells) → s ≡ t → IsBookOf (book s values tiles) v z → IsBookOf (book t values tiles) v z
resized s t values tiles v z e = subst (λ (x : Size). IsBookOf (book x values tiles) v z) e

pub same_book : (b : BookState) (s : Size) (es es' : List Entry) (v z : Cells) → s ≡ b.size → es ≡ b.values → es' ≡ b.tiles → IsBookOf b v z → IsBookOf (book s es es') v z
same_book b s es es' v z e f g h =
    subst (λ (x : Size). IsBookOf (book x es es') v z) (sym e) (subst (λ (l : List Entry). IsBookOf (book b.size l es') v z) (sym f) (subst (λ (l : List Entry). IsBookOf (book b.size b.values l) v z) (sym g) h))
