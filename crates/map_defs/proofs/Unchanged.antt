-- Where nothing changed nothing is damaged, and there is no work.
use Rattle.std.proofs.Common.{◌≡◌, ℕ, ℤ, ◌+◌, ◌==◌, Bool, true, false, not, cond, ◌&&◌, ◌||◌, List, [], ◌∷◌, length, filter, Option, Some, None, refl, ap, ◌∙◌}
use Rattle.std.specs.List.{list_any}
use Rattle.std.proofs.lemmas.Bool.{true≢false}
use Rattle.map_nums.specs.Grids.{Size, Cells, cell_at, places}
use Rattle.map_nums.specs.Tiles.{tiles, tile_of}
use Rattle.map_nums.specs.declared.Stat.{Stat}
use Rattle.map_defs.specs.Ops.{Op}
use Rattle.map_defs.specs.Facts.{Class, local_class, near_class, zonal_class, sight_class, path_class, nearest_class, region_class, class_of, is_repaired}
use Rattle.map_defs.specs.Operate.{operand}
use Rattle.map_defs.specs.Tiles.{is_in_square}
use Rattle.map_defs.specs.Zonal.{zone_statistic}
use Rattle.map_defs.specs.Differences.{differs, has_changed, tile_has, square_has, zone_differs, costs_by, cost_or_cell_differs, changed_tiles}
use Rattle.map_defs.specs.Damage.{reach_of, is_damaged_in, is_damaged_at, is_damaged, op_damage}
use Rattle.map_defs.specs.Work.{is_touched, in_one_region, repair_work, op_work}
use Rattle.map_defs.proofs.RegionCells.{same_so}

filter_none : {X : Type 0} (p : X → Bool) → ((x : X) → p x ≡ false) → (xs : List X) → filter p xs ≡ []
filter_none p none [] = refl
filter_none {X} p none (x ∷ xs) = go (p x) (none x) (filter_none p none xs)
  where
    go : (b : Bool) → b ≡ false → filter p xs ≡ [] → cond b (x ∷ filter p xs) (filter p xs) ≡ []
    go true e rest = absurd (true≢false e)
    go false e rest = rest

any_none : {X : Type 0} (p : X → Bool) → ((x : X) → p x ≡ false) → (xs : List X) → list_any p xs ≡ false
any_none p none [] = refl
any_none p none (x ∷ xs) = ap (λ b. b || list_any p xs) (none x) ∙ any_none p none xs

and_none : (b : Bool) → (b && false) ≡ false
and_none true = refl
and_none false = refl

both_none : (a b : Bool) → a ≡ false → b ≡ false → (a || b) ≡ false
both_none a b p q = ap (λ x. x || b) p ∙ q

not_differs : (w : Cells) (i : ℕ) → differs w w i ≡ false
not_differs w i = ap not (same_so (cell_at w i) (cell_at w i) refl)

has_unchanged : (b : List Cells) (i : ℕ) → has_changed b b i ≡ false
has_unchanged [] i = refl
has_unchanged (x ∷ xs) i = both_none (differs x x i) (has_changed xs xs i) (not_differs x i) (has_unchanged xs i)

tile_none : (s : Size) (test : ℕ → Bool) → ((i : ℕ) → test i ≡ false) → (t : ℕ) → tile_has s test t ≡ false
tile_none s test none t = ap (λ is. list_any (λ i. tile_of s i == t) is) (filter_none test none (places s))

square_none : (r : ℕ) (s : Size) (test : ℕ → Bool) → ((i : ℕ) → test i ≡ false) → (t : ℕ) → square_has r s test t ≡ false
square_none r s test none t = ap (λ is. list_any (is_in_square r s t) is) (filter_none test none (places s))

zone_none : (stat : Stat) (s : Size) (b : List Cells) (c : Option ℤ) → zone_differs stat s b b c ≡ false
zone_none stat s b None = refl
zone_none stat s b (Some z) = ap not (same_so (zone_statistic stat s (operand b 0) (operand b 1) z) (zone_statistic stat s (operand b 0) (operand b 1) z) refl)

-- ---- damage

module _ (s : Size) (b : List Cells) (w : Cells) where
  at_none : (class : Class) (i : ℕ) → is_damaged_in class s b b w w i ≡ false
  at_none local_class i = refl
  at_none (near_class r) i = refl
  at_none (zonal_class stat) i = zone_none stat s b (cell_at (operand b 1) i)
  at_none (sight_class r) i = refl
  at_none path_class i = not_differs w i
  at_none (nearest_class limit) i = both_none (differs (costs_by limit s b) (costs_by limit s b) i) (differs w w i) (not_differs (costs_by limit s b) i) (not_differs w i)
  at_none region_class i = not_differs w i

  damaged_none : (op : Op) (t : ℕ) → is_damaged op s b b w w t ≡ false
  damaged_none op t =
      both_none (square_has (reach_of op) s (has_changed b b) t) (tile_has s (is_damaged_at op s b b w w) t) (square_none (reach_of op) s (has_changed b b) (has_unchanged b) t)
      (tile_none s (is_damaged_at op s b b w w) (at_none (class_of op)) t)

  pub damage_none : (op : Op) → op_damage op s b b (Some w) w ≡ []
  unfolding op_damage
  damage_none op = filter_none (is_damaged op s b b w w) (damaged_none op) (tiles s)

  pub changed_none : changed_tiles s (Some w) w ≡ []
  unfolding changed_tiles
  changed_none = filter_none (tile_has s (differs w w)) (tile_none s (differs w w) (not_differs w)) (tiles s)

  -- ---- work

  no_places : filter (has_changed b b) (places s) ≡ []
  no_places = filter_none (has_changed b b) (has_unchanged b) (places s)

  no_results : filter (differs w w) (places s) ≡ []
  no_results = filter_none (differs w w) (not_differs w) (places s)

  no_regions : filter (is_touched s w []) (places s) ≡ []
  no_regions = filter_none (is_touched s w []) (λ i. any_none (λ j. in_one_region w i j && false) (λ j. and_none (in_one_region w i j)) (places s)) (places s)

  abbrev lengths : List ℕ → List ℕ → ℕ
  lengths xs ys = length xs + length ys

  placed_none : lengths (filter (has_changed b b) (places s)) (filter (differs w w) (places s)) ≡ 0
  placed_none = ap (λ xs. lengths xs (filter (differs w w) (places s))) no_places ∙ ap (λ ys. lengths [] ys) no_results

  repaired_none : (class : Class) → cond (is_repaired class) (repair_work class s b b w w) 0 ≡ 0
  repaired_none local_class = refl
  repaired_none (near_class r) = refl
  repaired_none (zonal_class stat) = refl
  repaired_none (sight_class r) = refl
  repaired_none path_class = placed_none
  repaired_none (nearest_class limit) = ap (λ xs. lengths xs (filter (cost_or_cell_differs limit s b b w w) (places s))) no_places ∙ ap (λ ys. lengths [] ys) (filter_none (cost_or_cell_differs limit s b b w w) (at_none (nearest_class limit)) (places s))
  repaired_none region_class = ap (λ xs. lengths xs (filter (is_touched s w xs) (places s))) no_places ∙ ap (λ ys. lengths [] ys) no_regions

  pub work_none : (op : Op) → op_work op s b b (Some w) w ≡ 0
  unfolding op_work
  work_none op = repaired_none (class_of op)

-- ---- a statement that was undefined, or that the edit wrote

pub damage_all : (op : Op) (s : Size) (b a : List Cells) (now : Cells) → op_damage op s b a None now ≡ tiles s
unfolding op_damage
damage_all op s b a now = refl

pub changed_all : (s : Size) (now : Cells) → changed_tiles s None now ≡ tiles s
unfolding changed_tiles
changed_all s now = refl
