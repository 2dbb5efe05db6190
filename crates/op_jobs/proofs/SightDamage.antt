-- The damage of a sight statement, the looks that finding it takes, and the viewers after an edit.
use Rattle.std.proofs.Common.{◌≡◌, ℕ, zero, suc, ◌+◌, ◌*◌, ◌<◌, ◌≤◌, Bool, true, false, ◌||◌, cond, nat_lt, List, [], ◌∷◌, length, Option, Some, None, IsSome, ℤ, refl, sym, ◌∙◌, ap, subst, arith, IfSome, MatchOption, Bor}
use Rattle.std.specs.Prelude.{◌==◌, filter, is_some}
use Rattle.std.specs.List.{All, range_with_len}
use Rattle.std.proofs.Math.Bool.{or-false}
use Rattle.std.proofs.lemmas.Bool.{lt-ltb}
use Rattle.std.proofs.lemmas.List.FromFn.{get_or-map-range_with_len, length-range_with_len}
use Rattle.map_nums.specs.Grids.{Size, Cells, cell_at, cells_in, places}
use Rattle.map_nums.specs.Tiles.{tiles, tiles_in, tile_of}
use Rattle.map_defs.specs.Sight.{Sighting, viewer_count, most_viewers}
use Rattle.map_defs.specs.Differences.{has_changed, square_has}
use Rattle.map_defs.specs.Damage.{op_damage, is_damaged}
use Rattle.map_defs.specs.Operate.{operand}
use Rattle.map_defs.specs.Ops.{Term, sight_op}
use Rattle.layer_tiles.specs.Changes.{ChangeState, cells_before}
use Rattle.layer_tiles.specs.Operands.{size_of, cells_after}
use Rattle.layer_tiles.specs.Tallies.{TallyState, RisesBy}
use Rattle.layer_tiles.proofs.Rising.{rises_then, rises_within}
use Rattle.damage_sets.specs.Damage.{damage_of, touched_in}
use Rattle.damage_sets.specs.Sets.{TileSetState, has_tile}
use Rattle.sight_lines.specs.Viewed.{add_viewer, viewers_at, viewers_of}
use Rattle.map_waves.specs.Statements.{cells_were, made, damage_by, fault_in, too_many}
use Rattle.op_jobs.specs.Operands.{AreBoth}
use Rattle.op_jobs.specs.Sight.{AreRightViewers, felt_tiles}
use Rattle.op_jobs.proofs.Both.{first_in, first_is, values_are, values_were}
use Rattle.op_jobs.proofs.Listing.{tests_same}
use Rattle.op_jobs.proofs.Reached.{none_passes}
use Rattle.op_jobs.proofs.Hits.{touched_few, touched_within}

-- ---- the damage in other words

damage_then : (sight : Sighting) (t u : Term) (s : Size) (cells : Cells) (operands : List ChangeState) → damage_by s (sight_op sight t u) (Some cells) operands ≡ felt_tiles true sight.reach s operands
unfolding op_damage
damage_then sight t u s cells operands =
    let test = has_changed (cells_were operands) (cells_after operands) in
    tests_same (is_damaged (sight_op sight t u) s (cells_were operands) (cells_after operands) cells (made s (sight_op sight t u) (cells_after operands))) (square_has sight.reach s test) (tiles_in s)
    (λ k l. ap (λ b. square_has sight.reach s test k || b) (none_passes (λ i. tile_of s i == k) (places s)) ∙ or-false (square_has sight.reach s test k))

pub damage_felt : (sight : Sighting) (t u : Term) (s : Size) (was : Option Cells) (operands : List ChangeState) (r : ℕ) (there : Bool) → sight.reach ≡ r → is_some was ≡ there → damage_by s (sight_op sight t u) was operands ≡ felt_tiles there r s operands
unfolding op_damage
damage_felt sight t u s None operands r true e f = cc
damage_felt sight t u s None operands r false e f = refl
damage_felt sight t u s (Some cells) operands r true e f = damage_then sight t u s cells operands ∙ ap (λ (k : ℕ). felt_tiles true k s operands) e
damage_felt sight t u s (Some cells) operands r false e f = cc

-- the set of tiles as a list
pub felt_list : (r : ℕ) (s : Size) (operands : List ChangeState) (set : TileSetState) → size_of operands ≡ s → set ≡ damage_of r (size_of operands) operands → filter (has_tile set) (tiles set.size) ≡ felt_tiles true r s operands
felt_list r s operands set size e =
    let test = square_has r s (has_changed (cells_were operands) (cells_after operands)) in
    let is : set ≡ damage_of r s operands = e ∙ ap (λ (x : Size). damage_of r x operands) size in
    ap (λ (d : TileSetState). filter (has_tile d) (tiles d.size)) is
    ∙ tests_same (has_tile (damage_of r s operands)) test (tiles_in s) (λ t l. get_or-map-range_with_len test 0 (tiles_in s) t t false l (omega arith))

-- ---- looks

-- of finding the tiles, of a statement that was there
pub felt_looks : {operands : List ChangeState} {s : Size} (r : ℕ) {a b : TallyState} → AreBoth s operands → All (λ c. IsSome c.before) operands → RisesBy (2 * touched_in operands) 0 a b → RisesBy (4 * length (felt_tiles true r s operands)) 0 a b
felt_looks {operands} {s} r {a} {b} both there h =
    let touched : touched_in operands ≤ 2 * length (felt_tiles true r s operands) = subst (λ n. touched_in operands ≤ n * length (felt_tiles true r s operands)) both.two (touched_few s operands r (square_has r s (has_changed (cells_were operands) (cells_after operands))) (λ t e. e) both.each there) in
    rises_within (2 * touched_in operands) 0 (4 * length (felt_tiles true r s operands)) 0 a b (omega (arith, touched)) (omega arith) h

-- of the damage: those of the viewers alone, and of the tiles too
module _ (sight : Sighting) (t u : Term) (s : Size) (was : Option Cells) (operands : List ChangeState) (r : ℕ) (k : Bool) (e : sight.reach ≡ r) (f : is_some was ≡ k) where
  pub begin_one : {a b : TallyState} → RisesBy (length (felt_tiles k r s operands)) 0 a b → RisesBy (5 * length (damage_by s (sight_op sight t u) was operands)) 0 a b
  begin_one {a} {b} h = let n = length (felt_tiles k r s operands) in rw (damage_felt sight t u s was operands r k e f) (rises_within n 0 (5 * n) 0 a b (omega arith) (omega arith) h)

  pub begin_both : {a b c : TallyState} → RisesBy (length (felt_tiles k r s operands)) 0 a b → RisesBy (4 * length (felt_tiles k r s operands)) 0 b c → RisesBy (5 * length (damage_by s (sight_op sight t u) was operands)) 0 a c
  begin_both {a} {b} {c} h l =
      let n = length (felt_tiles k r s operands) in
      rw (damage_felt sight t u s was operands r k e f) (rises_within (n + 4 * n) 0 (5 * n) 0 a c (omega arith) (omega arith) (rises_then n 0 (4 * n) 0 a b c h l))

-- ---- from the viewers that are kept

taken : {X : Type 0} (b : Bool) (x y : X) → b ≡ true → cond b x y ≡ x
taken true x y e = refl
taken false x y e = cc

module _ {s : Size} {operands : List ChangeState} {v z : ChangeState} (two : operands ≡ v ∷ z ∷ []) (both : AreBoth s operands) where
  pub kept_are : (kept : Option (Bor (List (ℕ × ℤ)))) → IfSome kept (λ k. AreRightViewers s operands k.now) → IfSome kept (λ k. k.now ≡ viewers_of v.size (cells_before v))
  kept_are None h = tt
  kept_are (Some k) h = rw ((first_is two both).size) (h.are ∙ ap (viewers_of s) (values_were two))

  pub kept_looks : (kept : Option (Bor (List (ℕ × ℤ)))) (r : ℕ) {a b : TallyState} → IfSome kept (λ k. AreRightViewers s operands k.now) → MatchOption kept (RisesBy (tiles_in v.size) 0 a b) (λ k. RisesBy (length v.touched) 0 a b) → RisesBy (length (felt_tiles (is_some kept) r s operands)) 0 a b
  kept_looks None r {a} {b} h l = rises_within (tiles_in v.size) 0 (length (tiles s)) 0 a b (omega (arith, ap tiles_in (first_is two both).size, length-range_with_len 0 (tiles_in s))) (omega arith) l
  kept_looks (Some k) r {a} {b} h l =
      let few = first_in two (λ c. length c.touched ≤ length (felt_tiles true r s operands)) (touched_within s operands r (square_has r s (has_changed (cells_were operands) (cells_after operands))) (λ t e. e) both.each h.there) in
      rises_within (length v.touched) 0 (length (felt_tiles true r s operands)) 0 a b few (omega arith) l

  -- too many
  pub halted : (sight : Sighting) (t u : Term) (n : ℕ) → n ≡ viewer_count v.cells → most_viewers < n → fault_in s (sight_op sight t u) (cells_after operands) ≡ Some (too_many n)
  unfolding fault_in
  halted sight t u n e l =
      let c = viewer_count (operand (cells_after operands) 0) in
      let same : c ≡ n = ap viewer_count (values_are two) ∙ sym e in
      taken (nat_lt most_viewers c) _ _ (lt-ltb most_viewers c (omega (arith, l, same))) ∙ ap (λ k. Some (too_many k)) same

-- ---- they stand on the map

all_cons : (P : ℕ × ℤ → Type 0) (x : ℕ × ℤ) (xs : List (ℕ × ℤ)) → P x → All P xs → All P (x ∷ xs)
all_cons P x xs h a zero d l = h
all_cons P x xs h a (suc k) d l = a k d (omega (arith, l))

viewer_on : (n i : ℕ) (o : Option ℤ) (xs : List (ℕ × ℤ)) → i < n → All (λ (e : ℕ × ℤ). e.0 < n) xs → All (λ (e : ℕ × ℤ). e.0 < n) (add_viewer i o xs)
viewer_on n i None xs l h = h
viewer_on n i (Some z) xs l h = all_cons (λ (e : ℕ × ℤ). e.0 < n) (i, z) xs l h

viewers_below : (cells : Cells) (m k n : ℕ) → k + n ≤ m → All (λ (e : ℕ × ℤ). e.0 < m) (viewers_at cells (range_with_len k n))
viewers_below cells m k zero l = λ j d h. absurd (omega (arith, h))
viewers_below cells m k (suc n) l = viewer_on m k (cell_at cells k) (viewers_at cells (range_with_len (k + 1) n)) (omega (arith, l)) (viewers_below cells m (k + 1) n (omega (arith, l)))

pub viewers_on : (s z : Size) (cells : Cells) (viewers : List (ℕ × ℤ)) → z ≡ s → viewers ≡ viewers_of s cells → All (λ (e : ℕ × ℤ). e.0 < cells_in z) viewers
unfolding viewers_of
viewers_on s z cells viewers size e = subst (λ (x : Size). All (λ (e : ℕ × ℤ). e.0 < cells_in x) viewers) (sym size) (subst (λ (vs : List (ℕ × ℤ)). All (λ (e : ℕ × ℤ). e.0 < cells_in s) vs) (sym e) (viewers_below cells (cells_in s) 0 (cells_in s) (omega arith)))
