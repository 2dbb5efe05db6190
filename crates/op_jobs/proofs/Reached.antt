-- The damage of a statement that its reach tells, and what changed lies in it.
use Rattle.std.proofs.Common.{◌≡◌, ℕ, ◌<◌, Bool, true, false, List, [], ◌∷◌, length, get_or, replicate, Some, None, refl, sym, ◌∙◌, ap, arith}
use Rattle.std.specs.Prelude.{◌==◌, ◌||◌}
use Rattle.std.specs.List.{filter, list_any}
use Rattle.std.proofs.Math.Bool.{or-false}
use Rattle.std.proofs.lemmas.Bool.{or_left, or_right}
use Rattle.std.proofs.lemmas.List.{get_or-replicate}
use Rattle.std.proofs.lemmas.List.FromFn.{get_or-map-range_with_len}
use Rattle.map_nums.specs.Grids.{Size, IsSize, Cells, places}
use Rattle.map_nums.specs.Tiles.{tiles, tiles_in, tile_of}
use Rattle.map_defs.specs.Facts.{Class, local_class, near_class, zonal_class, sight_class, path_class, nearest_class, region_class, facts, class_of, HasTerms, reach_in, is_repaired}
use Rattle.map_defs.specs.Ops.{Head, local_head, difference_head, ratio_head, rating_head, focal_head, zonal_head, form_head, direction_head, sight_head, Op}
use Rattle.map_nums.specs.declared.Stat.{Stat}
use Rattle.map_defs.specs.Terms.{Term}
use Rattle.map_defs.specs.Local.{of_stat, difference, ratio, rating}
use Rattle.map_defs.specs.Zonal.{zonal_grid}
use Rattle.map_defs.specs.Sight.{Sighting, sight_at, sight_grid}
use Rattle.map_defs.specs.Operate.{operate, operand, by_head}
use Rattle.map_defs.specs.Differences.{differs, has_changed, tile_has, square_has, costs_by, cost_or_cell_differs}
use Rattle.map_defs.specs.Damage.{reach_of, is_damaged, is_damaged_in, is_damaged_at, op_damage}
use Rattle.map_defs.proofs.ZonalDamage.{zonal_damage}
use Rattle.layer_tiles.specs.Changes.{ChangeState}
use Rattle.layer_tiles.specs.Operands.{cells_after}
use Rattle.changed_cells.proofs.Touching.{has_so}
use Rattle.damage_sets.specs.Sets.{has_tile, set_by}
use Rattle.damage_sets.specs.Damage.{damage_of}
use Rattle.map_waves.specs.Statements.{cells_were, made, damage_by}
use Rattle.op_jobs.specs.Classes.{by_reach, by_reach_in}
use Rattle.op_jobs.proofs.Following.{felt, Stays, by_places, local_stays, focal_stays, form_stays, direction_stays, same_operand, sight_same}
use Rattle.op_jobs.proofs.Quiet.{has_one}
use Rattle.op_jobs.proofs.Listing.{range_all, tests_same, filter_all}

-- ---- the tests

pub none_passes : (q : ℕ → Bool) (xs : List ℕ) → list_any q (filter (λ i. false) xs) ≡ false
none_passes q [] = refl
none_passes q (x ∷ xs) = none_passes q xs

module _ (s : Size) (before after : List Cells) (was now : Cells) (t : ℕ) where
  quiet_or : (b : Bool) → (b || tile_has s (λ i. false) t) ≡ b
  quiet_or b = ap (λ x. b || x) (none_passes (λ i. tile_of s i == t) (places s)) ∙ or-false b

  -- damaged, by class
  abbrev damaged_in : Class → Bool
  damaged_in class = square_has (reach_in class) s (has_changed before after) t || tile_has s (is_damaged_in class s before after was now) t

  pub damaged_is : (class : Class) → by_reach_in class ≡ true → damaged_in class ≡ square_has (reach_in class) s (has_changed before after) t
  damaged_is local_class e = quiet_or _
  damaged_is (near_class r) e = quiet_or _
  damaged_is (sight_class r) e = quiet_or _
  damaged_is class e = absurd cc

  -- what is repaired place by place is damaged where it changed
  worked_in : (class : Class) → is_repaired class ≡ true → tile_has s (differs was now) t ≡ true → damaged_in class ≡ true
  worked_in path_class is e = or_right (square_has 0 s (has_changed before after) t) (tile_has s (differs was now) t) e
  worked_in region_class is e = or_right (square_has 0 s (has_changed before after) t) (tile_has s (differs was now) t) e
  worked_in (nearest_class limit) is e =
      let w = has_one s (differs was now) t e in
      let here = or_right (differs (costs_by limit s before) (costs_by limit s after) w.0) (differs was now w.0) w.2 in
      let test = cost_or_cell_differs limit s before after was now in
      or_right (square_has 0 s (has_changed before after) t) (tile_has s test t) (has_so s test t w.0 w.1 here w.3)
  worked_in class is e = absurd cc

-- ---- the set of tiles, as a list

set_list : (s : Size) (test : ℕ → Bool) → filter (has_tile (set_by s test)) (tiles s) ≡ filter test (tiles s)
set_list s test = tests_same (has_tile (set_by s test)) test (tiles_in s) (λ t l. get_or-map-range_with_len test 0 (tiles_in s) t t false l (omega arith))

pub reached_list : (s : Size) (op : Op) (operands : List ChangeState) (was : Cells) → by_reach op ≡ true → filter (has_tile (damage_of (reach_of op) s operands)) (tiles s) ≡ damage_by s op (Some was) operands
unfolding op_damage
reached_list s op operands was e =
    let test : ℕ → Bool = square_has (reach_of op) s (has_changed (cells_were operands) (cells_after operands)) in
    let now = made s op (cells_after operands) in
    set_list s test
    ∙ tests_same test (is_damaged op s (cells_were operands) (cells_after operands) was now) (tiles_in s) (λ t l. sym (damaged_is s (cells_were operands) (cells_after operands) was now t (class_of op) e))

pub all_list : (s : Size) (op : Op) (operands : List ChangeState) → filter (has_tile (record { size = s; marks = replicate (tiles_in s) true })) (tiles s) ≡ damage_by s op None operands
unfolding op_damage
all_list s op operands = filter_all (has_tile (record { size = s; marks = replicate (tiles_in s) true })) (tiles s)
    (range_all (λ t. get_or (replicate (tiles_in s) true) t false ≡ true) (tiles_in s) (λ t l. get_or-replicate (tiles_in s) t true false l))

-- ---- what changed is damaged

-- the sums of the viewers that see a cell
sight_stays : (s : Size) (before after : List Cells) → IsSize s → length before ≡ length after → (sight : Sighting) → Stays sight.reach s before after (sight_grid sight s (operand before 0) (operand before 1)).cells (sight_grid sight s (operand after 0) (operand after 1)).cells
unfolding sight_grid
sight_stays s before after size count sight = by_places sight.reach s before after (sight_at sight s (operand before 0) (operand before 1)) (sight_at sight s (operand after 0) (operand after 1))
    (λ i h quiet. sight_same sight s (operand before 0) (operand before 1) (operand after 0) (operand after 1) i size h
    (λ j m p q. same_operand before after 0 j count (quiet j m p q))
    (λ j m p q. same_operand before after 1 j count (quiet j m p q)))

module _ (s : Size) (before after : List Cells) (size : IsSize s) (count : length before ≡ length after) where
  -- a cell with no changed operand cell within reach stays
  stays_in : (head : Head) → by_reach_in (facts head).class ≡ true → Stays (reach_in (facts head).class) s before after (by_head s head before).cells (by_head s head after).cells
  stays_in (local_head stat ignoring) is = local_stays s before after count (of_stat stat ignoring)
  stays_in difference_head is = local_stays s before after count difference
  stays_in ratio_head is = local_stays s before after count ratio
  stays_in (rating_head rates) is = local_stays s before after count (rating rates)
  stays_in (focal_head stat r) is = focal_stays s before after count stat r
  stays_in (form_head form) is = form_stays s before after count form
  stays_in direction_head is = direction_stays s before after count
  stays_in (sight_head sight) is = sight_stays s before after size count sight
  stays_in head is = absurd cc

  changed_in : (op : Op) (t : ℕ) → t < tiles_in s → by_reach op ≡ true → tile_has s (differs (made s op before) (made s op after)) t ≡ true → is_damaged op s before after (made s op before) (made s op after) t ≡ true
  unfolding operate
  changed_in op t within is e =
      let was = made s op before in
      let now = made s op after in
      or_left (square_has (reach_of op) s (has_changed before after) t) (tile_has s (is_damaged_at op s before after was now) t) (felt (reach_of op) s before after was now t within (stays_in op.head is) e)

-- a changed tile is damaged
abbrev IsFeltIn : Head → List Term → Size → List Cells → List Cells → ℕ → Type 0
IsFeltIn head ts s before after t =
    let op : Op = record { head = head; terms = ts } in
    tile_has s (differs (made s op before) (made s op after)) t ≡ true → is_damaged op s before after (made s op before) (made s op after) t ≡ true

-- a zonal statement's changed tiles are damaged
zonal_in : (stat : Stat) (ts : List Term) (s : Size) (before after : List Cells) (t : ℕ) → length ts ≡ 2 → length before ≡ length ts → length after ≡ length ts → IsFeltIn (zonal_head stat) ts s before after t
unfolding operate
zonal_in stat (u ∷ v ∷ []) s (a ∷ b ∷ []) (c ∷ d ∷ []) t two n m e =
    zonal_damage stat s a b c d u v t ∙ or_right (tile_has s (has_changed (a ∷ b ∷ []) (c ∷ d ∷ [])) t) (tile_has s (differs (zonal_grid stat s a b).cells (zonal_grid stat s c d).cells) t) e
zonal_in stat ts s before after t two n m e = absurd (omega arith)

felt_zonal : (head : Head) (stat : Stat) (ts : List Term) (s : Size) (before after : List Cells) (t : ℕ) → (facts head).class ≡ zonal_class stat → HasTerms (record { head = head; terms = ts }) → length before ≡ length ts → length after ≡ length ts → IsFeltIn head ts s before after t
felt_zonal (zonal_head other) stat ts s before after t e two n m = zonal_in other ts s before after t (omega (arith, two.0, two.1)) n m
felt_zonal head stat ts s before after t e two n m = absurd cc

-- the changed tiles of a statement are damaged
pub felt_there : (s : Size) (op : Op) (before after : List Cells) → IsSize s → HasTerms op → length before ≡ length op.terms → length after ≡ length op.terms → (t : ℕ) → t < tiles_in s → tile_has s (differs (made s op before) (made s op after)) t ≡ true → is_damaged op s before after (made s op before) (made s op after) t ≡ true
felt_there s op before after size terms n m t l = by (class_of op) refl
  where
    by : (class : Class) → class_of op ≡ class → IsFeltIn op.head op.terms s before after t
    by (zonal_class stat) e = felt_zonal op.head stat op.terms s before after t e terms n m
    by path_class e = worked_in s before after (made s op before) (made s op after) t (class_of op) (ap is_repaired e)
    by (nearest_class limit) e = worked_in s before after (made s op before) (made s op after) t (class_of op) (ap is_repaired e)
    by region_class e = worked_in s before after (made s op before) (made s op after) t (class_of op) (ap is_repaired e)
    by class e = changed_in s before after size (n ∙ sym m) op t l (ap by_reach_in e)
