-- The book of a Zonal statement: the damage of an edit by it, the looks that finding it takes, and what it tells.
use Rattle.std.proofs.Common.{◌≡◌, ℕ, ◌+◌, ◌*◌, ◌<◌, ◌≤◌, Bool, true, false, not, ◌||◌, List, [], ◌∷◌, length, get_or, map, Option, Some, None, ℤ, refl, sym, ◌∙◌, ap, subst, arith, ⊎_elim, IsFalse, Result, Ok, Err, IfOk, drop, IsTrue}
use Rattle.std.specs.Prelude.{◌==◌, filter, is_some, option_and_then}
use Rattle.std.specs.List.{All, Contains, count_by, list_any}
use Rattle.std.specs.Ordering.{int_eq}
use Rattle.std.specs.Cmp.{int_eq_equiv}
use Rattle.std.proofs.lemmas.Bool.{or_cases, or_left, or_right}
use Rattle.std.proofs.lemmas.Bool.Decides.{Decides-int_eq}
use Rattle.std.proofs.lemmas.List.FromFn.{get_or-map-range_with_len}
use Rattle.std.proofs.lemmas.List.Sums.{length-filter}
use Rattle.std.proofs.lemmas.Map.Views.{list_any-from_Contains, Contains-from_any}
use Rattle.std.proofs.lemmas.List.{get_or-take, get_or-drop}
use Rattle.map_nums.specs.declared.Stat.{Stat}
use Rattle.map_nums.specs.Answers.{is_wide}
use Rattle.map_nums.specs.Grids.{Size, Cells, cell_at, cells_in, IsSize}
use Rattle.map_nums.specs.Tiles.{tiles, tile_of}
use Rattle.map_nums.specs.Exact.{IsExact}
use Rattle.map_defs.specs.Cells.{same_cell}
use Rattle.map_defs.specs.Zonal.{zone_statistic, zonal_at, zonal_grid}
use Rattle.map_defs.specs.Differences.{has_changed, tile_has, square_has, zone_differs, zone_differs_at}
use Rattle.map_defs.specs.Damage.{op_damage}
use Rattle.map_defs.specs.Ops.{Term, zonal_op}
use Rattle.map_defs.proofs.RegionCells.{same_so}
use Rattle.layer_tiles.specs.Changes.{ChangeState, cells_before}
use Rattle.layer_tiles.specs.Operands.{size_of, cells_after}
use Rattle.layer_tiles.specs.Tallies.{TallyState, RisesBy}
use Rattle.layer_tiles.specs.Tiles.{Block, block_row, tile_block, tile_start, tile_height, tile_width, tiles_in}
use Rattle.layer_tiles.specs.Answers.{IsTileAnswer}
use Rattle.layer_tiles.specs.PlaceByPlace.{cell_in, IsPlacesAnswer}
use Rattle.layer_tiles.specs.declared.kernels.KernelRefusal.{KernelRefusal}
use Rattle.layer_tiles.proofs.Rising.{rises_then, rises_within}
use Rattle.layer_tiles.proofs.Strides.{get_or-strided}
use Rattle.tile_frame.specs.Frames.{by_row}
use Rattle.tile_frame.proofs.Answering.{grid_answer}
use Rattle.damage_sets.specs.Damage.{damage_of, touched_in}
use Rattle.damage_sets.specs.Sets.{TileSetState, has_tile}
use Rattle.changed_cells.proofs.Joining.{same_test}
use Rattle.changed_cells.proofs.Touching.{has_so}
use Rattle.zonal_totals.specs.Books.{BookState, IsBookOf}
use Rattle.zonal_totals.specs.ChangedZones.{AreChangedZones}
use Rattle.zonal_totals.specs.Looks.{is_held, tiles_held}
use Rattle.zonal_totals.proofs.Unlisted.{unlisted}
use Rattle.zonal_totals.proofs.Zones.{book_statistic}
use Rattle.map_waves.specs.Statements.{cells_were, damage_by}
use Rattle.op_jobs.specs.Operands.{AreBoth}
use Rattle.op_jobs.specs.Zonal.{IsRightBook, is_zonal_damaged, zonal_tiles, AreMarked, told}
use Rattle.op_jobs.specs.ZonalZones.{HasOtherZone}
use Rattle.op_jobs.proofs.Both.{first_in, second_in, second_is, one_size}
use Rattle.op_jobs.proofs.Listing.{filter_fewer, range_all, tests_same}
use Rattle.op_jobs.proofs.Quiet.{has_one}
use Rattle.op_jobs.proofs.Hits.{held_passes, touched_few}
use Rattle.op_jobs.proofs.ZonalMarks.{at_held}
use Rattle.op_jobs.proofs.Ranging.{zone_in_range}

-- ---- zones with another statistic

module _ (stat : Stat) (s : Size) (values zones values' zones' : Cells) (zs : List ℤ) where
  abbrev before : List Cells
  before = values ∷ zones ∷ []

  abbrev after : List Cells
  after = values' ∷ zones' ∷ []

  abbrev is_other : ℤ → Bool
  is_other z = not (same_cell (zone_statistic stat s values zones z) (zone_statistic stat s values' zones' z))

  abbrev HasOther : ℕ → Type 0
  HasOther t = HasOtherZone stat s values zones values' zones' zs (length zs) t

  -- a zone with another statistic is listed
  listed : AreChangedZones zs s values zones values' zones' → (z : ℤ) → is_other z ≡ true → Contains zs z
  listed a z d = at (list_any (int_eq z) zs) refl
    where
      at : (v : Bool) → list_any (int_eq z) zs ≡ v → Contains zs z
      at true e = Contains-from_any (λ x y f. (Decides-int_eq x y).0 f) z zs e
      at false e =
          let out : Contains zs z → ⊥ = λ c. let f = list_any-from_Contains int_eq_equiv z zs c in cc in
          let same = same_so _ _ (unlisted stat zs s values zones values' zones' z a out) in
          let no : is_other z ≡ false = ap not same in
          absurd (cc (no, d))

  other_from : AreChangedZones zs s values zones values' zones' → (t : ℕ) → tile_has s (zone_differs_at stat s before after) t ≡ true → HasOther t
  other_from a t e = let w = has_one s (zone_differs_at stat s before after) t e in at w.0 w.1 w.3 (cell_at zones' w.0) refl w.2
    where
      at : (i : ℕ) → i < cells_in s → tile_of s i ≡ t → (o : Option ℤ) → cell_at zones' i ≡ o → zone_differs stat s before after o ≡ true → HasOther t
      at i l h None f d = absurd (cc)
      at i l h (Some z) f d = let c = listed a z d in record { place = c.0; below = c.1; zone = z; listed = at_held zs z c; is = record { other = d; has = (i, l, h, f) } }

  other_so : (t : ℕ) → HasOther t → tile_has s (zone_differs_at stat s before after) t ≡ true
  other_so t h =
      let w = h.is.has in
      has_so s (zone_differs_at stat s before after) t w.0 w.1 (ap (zone_differs stat s before after) w.3 ∙ h.is.other) w.2

  -- the tiles with a changed cell, and those with such a zone, are the damage
  pub marks_are : (old new : List Bool) (t : ℕ) → AreChangedZones zs s values zones values' zones' → old ≡ map (square_has 0 s (has_changed before after)) (tiles s) → AreMarked s HasOther old new → t < tiles_in s → get_or new t false ≡ is_zonal_damaged stat s before after t
  marks_are old new t a e m l =
      let p = square_has 0 s (has_changed before after) t in
      let q = tile_has s (zone_differs_at stat s before after) t in
      let was : get_or old t false ≡ p = ap (λ (xs : List Bool). get_or xs t false) e ∙ get_or-map-range_with_len (square_has 0 s (has_changed before after)) 0 (tiles_in s) t t false l (omega arith) in
      same_test (get_or new t false) (p || q)
      (λ f. ⊎_elim (λ (x : get_or old t false ≡ true). or_left p q (sym was ∙ x)) (λ (h : HasOther t). or_right p q (other_so t h)) (m.only t l f))
      (λ f. ⊎_elim (λ (x : p ≡ true). m.kept t l (was ∙ x)) (λ (x : q ≡ true). m.added t l (other_from a t x)) (or_cases p q f))

  pub list_is : (set : TileSetState) (old : List Bool) → AreChangedZones zs s values zones values' zones' → set.size ≡ s → old ≡ map (square_has 0 s (has_changed before after)) (tiles s) → AreMarked s HasOther old set.marks → filter (has_tile set) (tiles set.size) ≡ filter (is_zonal_damaged stat s before after) (tiles s)
  list_is set old a size e m =
      ap (λ (x : Size). filter (has_tile set) (tiles x)) size
      ∙ tests_same (has_tile set) (is_zonal_damaged stat s before after) (tiles_in s) (λ t l. marks_are old set.marks t a e m l)

-- ---- from the book that is kept

module _ {stat : Stat} {s : Size} {operands : List ChangeState} {v z : ChangeState} {b : BookState} (two : operands ≡ v ∷ z ∷ []) (both : AreBoth s operands) (right : IsRightBook stat s operands b) where
  pub before_book : IsBookOf b (cells_before v) (cells_before z)
  before_book = rw two at right.book

  pub was_in_range : (x : ℤ) → IsFalse (is_wide (zone_statistic stat s (cells_before v) (cells_before z) x))
  was_in_range = zone_in_range stat s (cells_before v) (cells_before z) (rw two at right.in_range)

  pub zonal_list : (zs : List ℤ) (old set : TileSetState) → old ≡ damage_of 0 (size_of operands) operands → set.size ≡ old.size → AreChangedZones zs z.size (cells_before v) (cells_before z) v.cells z.cells → AreMarked s (HasOtherZone stat s (cells_before v) (cells_before z) v.cells z.cells zs (length zs)) old.marks set.marks → filter (has_tile set) (tiles set.size) ≡ zonal_tiles stat s operands
  zonal_list zs old set e size a m =
      let is : old ≡ damage_of 0 s (v ∷ z ∷ []) = e ∙ ap (λ (x : Size). damage_of 0 x operands) (one_size two both) ∙ ap (damage_of 0 s) two in
      list_is stat s (cells_before v) (cells_before z) v.cells z.cells zs set old.marks (rw (second_is two both).size at a) (size ∙ ap (λ (d : TileSetState). d.size) is) (ap (λ (d : TileSetState). d.marks) is) m
      ∙ sym (ap (zonal_tiles stat s) two)

  -- ---- finding the damage takes few looks

  abbrev hit : ℕ → Bool
  hit = is_zonal_damaged stat s (cells_were operands) (cells_after operands)

  held_hit : (t : ℕ) → t < tiles_in s → is_held v z t ≡ true → hit t ≡ true
  held_hit t l e =
      let P : ChangeState → Type 0 = λ c. list_any (λ u. u == t) c.touched ≡ true → hit t ≡ true in
      let held : All P operands = λ k d m. held_passes s operands 0 hit (λ t. or_left _ _) both.each right.there k d m t l in
      ⊎_elim (first_in two P held) (second_in two P held) (or_cases (list_any (λ u. u == t) v.touched) (list_any (λ u. u == t) z.touched) e)

  few : 2 * touched_in operands + 4 * tiles_held v z ≤ 8 * length (zonal_tiles stat s operands)
  unfolding tiles_held
  few =
      let held = filter_fewer (is_held v z) hit (tiles s) (range_all (λ t. is_held v z t ≡ true → hit t ≡ true) (tiles_in s) held_hit) in
      let same = ap (λ (x : Size). count_by (is_held v z) (tiles x)) (second_is two both).size in
      let touched : touched_in operands ≤ 2 * length (zonal_tiles stat s operands) = subst (λ n. touched_in operands ≤ n * length (zonal_tiles stat s operands)) both.two (touched_few s operands 0 hit (λ t. or_left _ _) both.each right.there) in
      omega (arith, same, held, length-filter (is_held v z) (tiles s), touched)

  pub looks_one : {x y : TallyState} → RisesBy (2 * touched_in operands) 0 x y → RisesBy (8 * length (zonal_tiles stat s operands)) 0 x y
  looks_one {x} {y} r = rises_within (2 * touched_in operands) 0 (8 * length (zonal_tiles stat s operands)) 0 x y (omega (arith, few)) (omega arith) r

  pub looks_both : {x y w : TallyState} → RisesBy (2 * touched_in operands) 0 x y → RisesBy (4 * tiles_held v z) 0 y w → RisesBy (8 * length (zonal_tiles stat s operands)) 0 x w
  looks_both {x} {y} {w} r q = rises_within (2 * touched_in operands + 4 * tiles_held v z) 0 (8 * length (zonal_tiles stat s operands)) 0 x w few (omega arith) (rises_then (2 * touched_in operands) 0 (4 * tiles_held v z) 0 x y w r q)

-- ---- with a book or without one

abbrev begun_tiles : Bool → Stat → Size → List ChangeState → List ℕ
begun_tiles false stat s operands = tiles s
begun_tiles true stat s operands = zonal_tiles stat s operands

damage_is : (there : Bool) (stat : Stat) (t u : Term) (s : Size) (was : Option Cells) (operands : List ChangeState) → is_some was ≡ there → damage_by s (zonal_op stat t u) was operands ≡ begun_tiles there stat s operands
unfolding op_damage
damage_is false stat t u s None operands e = refl
damage_is true stat t u s (Some w) operands e = refl
damage_is there stat t u s was operands e = absurd cc

module _ (stat : Stat) (s : Size) (operands : List ChangeState) (k there : Bool) (is : k ≡ there) where
  pub list_begun : {X E : Type 0} (r : Result X E) (f : X → List ℕ) → IfOk r (λ x. f x ≡ begun_tiles there stat s operands) → IfOk r (λ x. (t u : Term) (was : Option Cells) → is_some was ≡ k → f x ≡ damage_by s (zonal_op stat t u) was operands)
  list_begun (Ok x) f h = λ t u was q. h ∙ sym (damage_is there stat t u s was operands (q ∙ is))
  list_begun (Err y) f h = tt

  pub looks_begun : {m : ℕ} {a b : TallyState} → RisesBy m 0 a b → m ≤ 8 * length (begun_tiles there stat s operands) → (t u : Term) (was : Option Cells) → is_some was ≡ k → RisesBy (8 * length (damage_by s (zonal_op stat t u) was operands)) 0 a b
  looks_begun {m} {a} {b} h few t u was q = rw (damage_is there stat t u s was operands (q ∙ is)) (rises_within m 0 (8 * length (begun_tiles there stat s operands)) 0 a b few (omega arith) h)

-- ---- what a book tells of zones, and the tile that shows it

-- the statistic where a cell may hold it
pub told_value : (stat : Stat) (b : BookState) (values zones : Cells) (z : ℤ) (v : Option ℤ) → IsBookOf b values zones → (v ≡ zone_statistic stat b.size values zones z) × IsFalse (is_wide (zone_statistic stat b.size values zones z)) → IsExact (told stat b z) (Ok v)
told_value stat b values zones z v is a = subst (λ (o : Option ℤ). (v ≡ o) × IsFalse (is_wide o)) (sym (book_statistic stat b values zones z is)) a

pub told_wide : (stat : Stat) (b : BookState) (values zones : Cells) (z : ℤ) → IsBookOf b values zones → IsTrue (is_wide (zone_statistic stat b.size values zones z)) → IsTrue (is_wide (told stat b z))
told_wide stat b values zones z is a = subst (λ (o : Option ℤ). IsTrue (is_wide o)) (sym (book_statistic stat b values zones z is)) a

module _ (stat : Stat) (b : BookState) (s : Size) (values zones : Cells) (size : b.size ≡ s) (is : IsBookOf b values zones) where
  told_at : (c : Option ℤ) → option_and_then (told stat b) c ≡ option_and_then (zone_statistic stat s values zones) c
  told_at None = refl
  told_at (Some z) = book_statistic stat b values zones z is ∙ ap (λ (x : Size). zone_statistic stat x values zones z) size

  told_cell : (t r c : ℕ) → r < tile_height s t → c < tile_width s t → option_and_then (told stat b) (get_or (block_row (tile_block s zones t) r) c None) ≡ zonal_at stat s values zones (cell_in s t r c)
  told_cell t r c p q =
      let w = tile_width s t in
      let cells = (tile_block s zones t).cells in
      let cell : get_or (block_row (tile_block s zones t) r) c None ≡ get_or zones (cell_in s t r c) None =
      get_or-take w (drop (r * w) cells) c None q ∙ get_or-drop (r * w) cells c None ∙ get_or-strided zones (tile_start s t) s.columns (tile_height s t) w r c (r * w + c) None p q refl in
      ap (option_and_then (told stat b)) cell ∙ told_at (get_or zones (cell_in s t r c) None)

  tile_told : (t : ℕ) (result : Result Block KernelRefusal) → IsSize s → t < tiles_in s → IsPlacesAnswer (by_row (tile_width s t) (λ r c. option_and_then (told stat b) (get_or (block_row (tile_block s zones t) r) c None))) s t result → IsTileAnswer s (zonal_grid stat s values zones).cells t result
  unfolding zonal_grid
  tile_told t result good within a = grid_answer s t (λ r c. option_and_then (told stat b) (get_or (block_row (tile_block s zones t) r) c None)) (zonal_at stat s values zones) result good within (λ r c p q. told_cell t r c p q) a

  pub zonal_answer : (e : Size) (view : Block) (t : ℕ) (result : Result Block KernelRefusal) → e ≡ s → view ≡ tile_block s zones t → IsSize s → t < tiles_in s → IsPlacesAnswer (by_row (tile_width e t) (λ r c. option_and_then (told stat b) (get_or (block_row view r) c None))) e t result → IsTileAnswer s (zonal_grid stat s values zones).cells t result
  zonal_answer e view t result ee ev good within a =
      tile_told t result good within
      (subst (λ (v : Block). IsPlacesAnswer (by_row (tile_width s t) (λ r c. option_and_then (told stat b) (get_or (block_row v r) c None))) s t result) ev
      (subst (λ (x : Size). IsPlacesAnswer (by_row (tile_width x t) (λ r c. option_and_then (told stat b) (get_or (block_row view r) c None))) x t result) ee a))
