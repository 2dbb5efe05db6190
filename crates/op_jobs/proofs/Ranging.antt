-- Cells in range, and the least of a grid that is not.
use Rattle.std.proofs.Common.{◌≡◌, ℕ, ◌+◌, ◌*◌, ◌/◌, ◌%◌, ◌<◌, length, get_or, Some, None, refl, ◌∙◌, ap, arith, IsFalse, nat_lt, cond, ◌≤◌, Bool, true, false, List, Option, sym, subst, suc, not, [], ◌∷◌, map, ℤ, pos, ⊎_elim}
use Rattle.std.specs.List.{All, position, position_or_len, list_any, range_with_len}
use Rattle.std.specs.Prelude.{option_map, filter, option_and_then, slice_get}
use Rattle.std.proofs.lemmas.Bool.Decides.{nat_tests, Decides-int_eq}
use Rattle.std.proofs.lemmas.List.Sums.{position_or_len_is, fails_before_first}
use Rattle.std.proofs.lemmas.Nat.{mul-add-lt}
use Rattle.std.proofs.lemmas.Bool.{or_parts, cases_lt, false_from_ne_true, both_ways}
use Rattle.std.proofs.lemmas.List.FromFn.{get_or-map-range_with_len, length-map-range_with_len, length-range_with_len}
use Rattle.std.proofs.lemmas.Int.{ints}
use Rattle.std.proofs.lemmas.List.{get_or_past}
use Rattle.std.proofs.lemmas.List.Elements.{All-map}
use Rattle.map_nums.specs.Answers.{is_wide}
use Rattle.map_nums.specs.Grids.{Size, IsSize, Cells, cells_in, cell_at, places, numbers_in, compass}
use Rattle.map_nums.specs.declared.Stat.{Stat}
use Rattle.map_nums.specs.declared.Stat.TheVariants.{Sum, Product, Maximum, Minimum, Mean, Median, Majority, Minority, Variety}
use Rattle.map_nums.specs.Stats.{statistic_of, maximum_of, minimum_of, median_of, majority_of, minority_of}
use Rattle.map_defs.specs.Ops.{Op}
use Rattle.map_defs.specs.Sight.{most_viewers}
use Rattle.map_defs.specs.Differences.{differs, tile_has}
use Rattle.map_defs.specs.Viewers.{viewers_in}
use Rattle.map_defs.specs.Cells.{has_number}
use Rattle.map_defs.specs.Zonal.{zone_numbers, zone_statistic, zonal_at, zonal_grid}
use Rattle.map_defs.specs.Drainage.{is_steepest, winner_at, direction_of, direction_at, direction_grid}
use Rattle.map_defs.specs.Operate.{operand}
use Rattle.layer_tiles.specs.Tiles.{tile_cells, tile_of, tile_start, tile_height, tile_width, tiles_in, Block, strided, tile_block}
use Rattle.layer_tiles.specs.Changes.{ChangeState}
use Rattle.layer_tiles.specs.Operands.{cells_after}
use Rattle.layer_tiles.proofs.Rounds.{back}
use Rattle.layer_tiles.proofs.Strides.{length-strided, get_or-strided}
use Rattle.changed_cells.proofs.Joining.{any_found, place_is}
use Rattle.map_waves.specs.Statements.{too_many, wide_at, fault_in, made}
use Rattle.op_jobs.specs.Tiling.{AreNarrow, IsLeastUpTo}
use Rattle.op_jobs.specs.Changed.{is_changed}
use Rattle.op_jobs.proofs.Quiet.{cell_quiet}
use Rattle.op_jobs.proofs.Listing.{range_all}

-- ---- the least cell that is out of range, from the least of its tiles

-- a cell of a tile that is in range
pub narrow_in : (s : Size) (cells : Cells) (t i : ℕ) → IsSize s → i < cells_in s → tile_of s i ≡ t → All (λ c. IsFalse (is_wide c)) (tile_cells s cells t) → IsFalse (is_wide (get_or cells i None))
narrow_in s cells t i h l e all =
    let b = back s i h l in
    let r = i / s.columns % 32 in
    let c = i % s.columns % 32 in
    let row : r < tile_height s t = rw (e) at b.row in
    let column : c < tile_width s t = rw (e) at b.column in
    let place : tile_start s t + r * s.columns + c ≡ i = rw (e) at b.place in
    let k = r * tile_width s t + c in
    let within : k < length (tile_cells s cells t) = omega (arith, length-strided cells (tile_start s t) s.columns (tile_height s t) (tile_width s t), mul-add-lt r (tile_width s t) c (tile_height s t) row column) in
    let same = get_or-strided cells (tile_start s t) s.columns (tile_height s t) (tile_width s t) r c k None row column refl ∙ ap (λ j. get_or cells j None) place in
    rw (← same) (all k None within)

-- the first of all cells
pub position_wide : (s : Size) (cells : Cells) (at : ℕ) → IsSize s → length cells ≡ cells_in s → IsLeastUpTo s cells (tiles_in s) at → position is_wide cells ≡ Some at
position_wide s cells at h n w =
    let l : at < length cells = omega (arith, w.within) in
    let first : position_or_len is_wide cells ≡ at = position_or_len_is is_wide cells at None (omega arith) (λ k p. w.least k p (back s k h (omega (arith, w.within))).tile) (λ p. w.wide) in
    rw (first) (there at (length cells) l)
  where
    there : (a b : ℕ) → a < b → cond (nat_lt a b) (Some a) None ≡ Some a
    there a b l = grind (arith, nat_tests)

-- no cell
pub position_none : (s : Size) (cells : Cells) → IsSize s → length cells ≡ cells_in s → AreNarrow s cells (tiles_in s) → position is_wide cells ≡ None
position_none s cells h n a =
    let none : position_or_len is_wide cells ≡ length cells = position_or_len_is is_wide cells (length cells) None (omega arith) (λ k p. let l : k < cells_in s = omega (arith, n) in a k l (back s k h l).tile) (λ p. absurd (omega arith)) in
    rw (none) (past (length cells))
  where
    past : (a : ℕ) → cond (nat_lt a a) (Some a) None ≡ None
    past a = grind (arith, nat_tests)

-- ---- faults

-- where the viewers are not too many, the first cell out of range is the fault
pub fault_is : (s : Size) (op : Op) (cells : List Cells) → nat_lt most_viewers (viewers_in op cells) ≡ false → fault_in s op cells ≡ option_map (λ at. wide_at at) (position is_wide (made s op cells))
unfolding fault_in
fault_is s op cells e = ap (λ b. cond b (Some (too_many (viewers_in op cells))) (option_map (λ at. wide_at at) (position is_wide (made s op cells)))) e

none_wide : (b : Bool) (n : ℕ) (o : Option ℕ) → cond b (Some (too_many n)) (option_map (λ at. wide_at at) o) ≡ None → o ≡ None
none_wide true n o e = absurd cc
none_wide false n None e = refl
none_wide false n (Some at) e = absurd cc

pub wide_none : (s : Size) (op : Op) (cells : List Cells) → fault_in s op cells ≡ None → position is_wide (made s op cells) ≡ None
unfolding fault_in
wide_none s op cells e = none_wide (nat_lt most_viewers (viewers_in op cells)) (viewers_in op cells) (position is_wide (made s op cells)) e

past : (a b : ℕ) → cond (nat_lt a b) (Some a) None ≡ None → b ≤ a
past a b e = grind (arith, nat_tests)

none_passes : {X : Type 0} (p : X → Bool) (xs : List X) → position p xs ≡ None → (i : ℕ) (d : X) → i < length xs → p (get_or xs i d) ≡ false
none_passes p xs e i d l = fails_before_first p xs i d (omega (arith, l, past (position_or_len p xs) (length xs) e))

-- a statement without fault has all its cells in range
pub narrow_of : (s : Size) (op : Op) (cells : List Cells) → length (made s op cells) ≡ cells_in s → fault_in s op cells ≡ None → (i : ℕ) → i < cells_in s → IsFalse (is_wide (cell_at (made s op cells) i))
narrow_of s op cells n e i l = none_passes is_wide (made s op cells) (wide_none s op cells e) i None (omega (arith, l, n))

-- ---- cells

module _ (s : Size) (was : Option Cells) (now : Cells) (d : ℕ → Bool) (size : IsSize s) (felt : (t : ℕ) → t < tiles_in s → is_changed s was now t ≡ true → d t ≡ true) (right : (w : Cells) → was ≡ Some w → (i : ℕ) → i < cells_in s → IsFalse (is_wide (cell_at w i))) where
  outside : (i : ℕ) → i < cells_in s → (o : Option Cells) → o ≡ was → d (tile_of s i) ≡ false → IsFalse (is_wide (cell_at now i))
  outside i l None f e = absurd (both_ways (d (tile_of s i)) e (felt (tile_of s i) (back s i size l).tile (ap (λ o. is_changed s o now (tile_of s i)) (sym f))))
  outside i l (Some w) f e =
      let t = tile_of s i in
      let quiet = false_from_ne_true (tile_has s (differs w now) t) (λ v. both_ways (d t) e (felt t (back s i size l).tile (ap (λ o. is_changed s o now t) (sym f) ∙ v))) in
      subst (λ c. IsFalse (is_wide c)) (cell_quiet s w now size i l quiet) (right w (sym f) i l)

  -- where the cells of the damage below a bound are in range all below it are
  pub narrow_below : (bound : ℕ) → ((t i : ℕ) → t < tiles_in s → d t ≡ true → i < bound → i < cells_in s → tile_of s i ≡ t → IsFalse (is_wide (cell_at now i))) → (i : ℕ) → i < bound → i < cells_in s → IsFalse (is_wide (cell_at now i))
  narrow_below bound good i l h = which (d (tile_of s i)) refl
    where
      which : (v : Bool) → v ≡ d (tile_of s i) → IsFalse (is_wide (cell_at now i))
      which true v = good (tile_of s i) i (back s i size h).tile (sym v) l h refl
      which false v = outside i h was refl (sym v)

-- ---- of a Zonal grid

filter_none : (p : ℕ → Bool) (xs : List ℕ) → list_any p xs ≡ false → filter p xs ≡ []
filter_none p [] e = refl
filter_none p (x ∷ xs) e = let a = or_parts (p x) (list_any p xs) e in ap (λ v. cond v (x ∷ filter p xs) (filter p xs)) a.0 ∙ filter_none p xs a.1

of_nothing : (stat : Stat) → statistic_of stat [] ≡ None
unfolding maximum_of minimum_of median_of majority_of minority_of
of_nothing Sum = refl
of_nothing Product = refl
of_nothing Maximum = refl
of_nothing Minimum = refl
of_nothing Mean = refl
of_nothing Median = refl
of_nothing Majority = refl
of_nothing Minority = refl
of_nothing Variety = refl

number_is : (z : ℤ) (o : Option ℤ) → has_number z o ≡ true → o ≡ Some z
number_is z None e = cc
number_is z (Some w) e = ap Some ((Decides-int_eq w z).0 e)

module _ (stat : Stat) (s : Size) (values zones : Cells) where
  shown : (i : ℕ) → i < cells_in s → cell_at (zonal_grid stat s values zones).cells i ≡ option_and_then (zone_statistic stat s values zones) (cell_at zones i)
  unfolding zonal_grid
  shown i l = get_or-map-range_with_len (zonal_at stat s values zones) 0 (cells_in s) i i None l (omega arith)

  grid_length : length (zonal_grid stat s values zones).cells ≡ cells_in s
  unfolding zonal_grid
  grid_length = length-map-range_with_len (zonal_at stat s values zones) 0 (cells_in s)

  nowhere : (z : ℤ) → list_any (λ i. has_number z (cell_at zones i)) (places s) ≡ false → zone_statistic stat s values zones z ≡ None
  unfolding zone_numbers
  nowhere z e = ap (λ (xs : List ℕ). statistic_of stat (numbers_in (map (cell_at values) xs))) (filter_none (λ i. has_number z (cell_at zones i)) (places s) e) ∙ of_nothing stat

  pub zone_in_range : position is_wide (zonal_grid stat s values zones).cells ≡ None → (z : ℤ) → IsFalse (is_wide (zone_statistic stat s values zones z))
  zone_in_range none z = at (list_any (λ i. has_number z (cell_at zones i)) (places s)) refl
    where
      at : (v : Bool) → list_any (λ i. has_number z (cell_at zones i)) (places s) ≡ v → IsFalse (is_wide (zone_statistic stat s values zones z))
      at true e =
          let f = any_found (λ i. has_number z (cell_at zones i)) (places s) e in
          let l : f.0 < cells_in s = omega (arith, f.1, length-range_with_len 0 (cells_in s)) in
          let here : cell_at zones f.0 ≡ Some z = number_is z (cell_at zones f.0) (ap (λ i. has_number z (cell_at zones i)) (sym (place_is s f.0 l)) ∙ f.2) in
          let shows : cell_at (zonal_grid stat s values zones).cells f.0 ≡ zone_statistic stat s values zones z = shown f.0 l ∙ ap (option_and_then (zone_statistic stat s values zones)) here in
          subst (λ (o : Option ℤ). IsFalse (is_wide o)) shows (none_passes is_wide (zonal_grid stat s values zones).cells none f.0 None (omega (arith, l, grid_length)))
      at false e = subst (λ (o : Option ℤ). IsFalse (is_wide o)) (sym (nowhere z e)) refl

-- ---- no direction is out of range

-- the cells of a tile are in range where all cells are
tile_narrow : (s : Size) (cells : Cells) (t : ℕ) → ((i : ℕ) → IsFalse (is_wide (cell_at cells i))) → All (λ c. IsFalse (is_wide c)) (tile_cells s cells t)
unfolding strided
tile_narrow s cells t narrow =
    All-map (λ c. IsFalse (is_wide c)) (λ k. cell_at cells (tile_start s t + k / tile_width s t * s.columns + k % tile_width s t)) (range_with_len 0 (tile_height s t * tile_width s t))
    (range_all (λ k. IsFalse (is_wide (cell_at cells (tile_start s t + k / tile_width s t * s.columns + k % tile_width s t)))) (tile_height s t * tile_width s t) (λ k l. narrow (tile_start s t + k / tile_width s t * s.columns + k % tile_width s t)))

placed : (a b k : ℕ) → cond (nat_lt a b) (Some a) None ≡ Some k → k < b
placed a b k e = grind (arith, nat_tests)

few_narrow : (n : ℕ) → n ≤ 8 → IsFalse (is_wide (Some (pos n)))
few_narrow n l = grind (arith, ints)

numbered_narrow : (o : Option ℕ) → ((k : ℕ) → o ≡ Some k → k < 8) → IsFalse (is_wide (Some (pos (direction_of o))))
numbered_narrow None h = few_narrow 0 (omega arith)
numbered_narrow (Some k) h = let l = h k refl in few_narrow (suc k) (omega arith)

winner_few : (s : Size) (surface : Cells) (i k : ℕ) → winner_at s surface i ≡ Some k → k < 8
unfolding winner_at
winner_few s surface i k e = which (cell_at surface i) refl e
  where
    which : (c : Option ℤ) → c ≡ cell_at surface i → option_and_then (λ z. position (is_steepest s surface i z) compass) c ≡ Some k → k < 8
    which None f e = absurd cc
    which (Some z) f e = placed (position_or_len (is_steepest s surface i z) compass) 8 k e

at_narrow : (s : Size) (surface : Cells) (i : ℕ) → IsFalse (is_wide (direction_at s surface i))
unfolding direction_at
at_narrow s surface i = which (cell_at surface i)
  where
    which : (c : Option ℤ) → IsFalse (is_wide (option_map (λ z. pos (direction_of (winner_at s surface i))) c))
    which None = refl
    which (Some z) = numbered_narrow (winner_at s surface i) (winner_few s surface i)

grid_narrow : (s : Size) (surface : Cells) (i : ℕ) → IsFalse (is_wide (cell_at (direction_grid s surface).cells i))
unfolding direction_grid
grid_narrow s surface i = ⊎_elim
    (λ (l : i < cells_in s). subst (λ c. IsFalse (is_wide c)) (sym (get_or-map-range_with_len (direction_at s surface) 0 (cells_in s) i i None l (omega arith))) (at_narrow s surface i))
    (λ (m : cells_in s ≤ i). subst (λ c. IsFalse (is_wide c)) (sym (get_or_past (map (direction_at s surface) (range_with_len 0 (cells_in s))) i None (omega (arith, m, length-map-range_with_len (direction_at s surface) 0 (cells_in s))))) refl)
    (cases_lt i (cells_in s))

-- a tile of directions
pub direction_answer : (s z : Size) (surface these : Cells) (t : ℕ) (b : Block) → z ≡ s → these ≡ surface → b ≡ tile_block z (direction_grid z these).cells t → (b ≡ tile_block s (direction_grid s surface).cells t) × All (λ c. IsFalse (is_wide c)) (tile_cells s (direction_grid s surface).cells t)
direction_answer s z surface these t b e f is =
    (subst (λ cells. b ≡ tile_block s (direction_grid s cells).cells t) f (subst (λ y. b ≡ tile_block y (direction_grid y these).cells t) e is), tile_narrow s (direction_grid s surface).cells t (grid_narrow s surface))

-- the first operand
pub operand_is : (operands : List ChangeState) (c : ChangeState) → slice_get operands 0 ≡ Some c → (s : Size) → All (λ (x : ChangeState). x.size ≡ s) operands → (c.size ≡ s) × (c.cells ≡ operand (cells_after operands) 0)
operand_is [] c e s all = absurd cc
operand_is (x ∷ rest) c e s all = let same : c ≡ x = cc in (ap (λ (y : ChangeState). y.size) same ∙ all 0 x (omega arith), ap (λ (y : ChangeState). y.cells) same)
