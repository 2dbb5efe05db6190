-- Damage and work of a repair of costs and values.
use Rattle.std.proofs.Common.{◌≡◌, ℕ, ◌+◌, ◌<◌, ◌≤◌, min, Bool, true, false, cond, List, [], ◌∷◌, length, get_or, Some, IsSome, refl, sym, ◌∙◌, ap, subst, arith, inl, inr}
use Rattle.std.specs.Prelude.{◌&&◌, ◌||◌, ◌==◌, not, filter}
use Rattle.std.specs.List.{list_any}
use Rattle.std.proofs.lemmas.Bool.{cases_lt, both_ways, or_cases, or_left, or_right}
use Rattle.std.proofs.lemmas.List.FromFn.{length-range_with_len, get_or-range_with_len}
use Rattle.map_nums.specs.Grids.{Size, IsSize, Cells, cell_at, cells_in, places}
use Rattle.map_nums.specs.Tiles.{tiles}
use Rattle.map_defs.specs.Damage.{differs, has_changed, tile_has, square_has, costs_by, cost_or_cell_differs, op_damage}
use Rattle.map_defs.specs.Ops.{Term, nearest_op, spread_op}
use Rattle.map_defs.specs.Spread.{IsSpread}
use Rattle.map_defs.specs.Work.{op_work}
use Rattle.map_defs.proofs.Squares.{reach_nought}
use Rattle.map_defs.proofs.SpreadCells.{spread_is, spread_only}
use Rattle.layer_tiles.specs.Tiles.{tiles_in, tile_of}
use Rattle.layer_tiles.specs.Changes.{ChangeState, cells_before, patched_change}
use Rattle.layer_tiles.specs.Layers.{LayerState}
use Rattle.layer_tiles.specs.Patches.{PatchState}
use Rattle.layer_tiles.proofs.Found.{get-from_Contains}
use Rattle.layer_tiles.specs.ChangeFacts.{IsChange, HoldsNoUnchanged}
use Rattle.layer_tiles.proofs.Rounds.{back}
use Rattle.tile_work.specs.Working.{WorkState, copies}
use Rattle.tile_work.proofs.Copies.{copies_few}
use Rattle.changed_cells.specs.Unions.{AreAllPlaces}
use Rattle.changed_cells.proofs.Joining.{fewer, differs_so}
use Rattle.friction_spread.specs.Repairs.{HoldsExactly}
use Rattle.changed_cells.proofs.Touching.{touched_few, has_so, changed_has}
use Rattle.friction_neighbor.specs.Repairs.{wanted_at, IsCaused}
use Rattle.friction_neighbor.specs.Fields.{FieldState}
use Rattle.friction_neighbor.proofs.Counting.{either_number, some_kept}

-- ---- tiles with places of one kind, and of a wider one

wider_step : (f : ℕ → Bool) (v w : Bool) (x : ℕ) (xs ys : List ℕ) → (v ≡ true → w ≡ true) → (list_any f xs ≡ true → list_any f ys ≡ true) → list_any f (cond v (x ∷ xs) xs) ≡ true → list_any f (cond w (x ∷ ys) ys) ≡ true
wider_step f true true x xs ys h k e = elim (or_cases (f x) (list_any f xs) e) as (λ _. (f x || list_any f ys) ≡ true) [ inl q ↦ or_left (f x) (list_any f ys) q | inr q ↦ or_right (f x) (list_any f ys) (k q) ]
wider_step f true false x xs ys h k e = absurd (both_ways false refl (h refl))
wider_step f false true x xs ys h k e = or_right (f x) (list_any f ys) (k e)
wider_step f false false x xs ys h k e = k e

any_wider : (f p q : ℕ → Bool) (xs : List ℕ) → ((i : ℕ) → p i ≡ true → q i ≡ true) → list_any f (filter p xs) ≡ true → list_any f (filter q xs) ≡ true
any_wider f p q [] h e = e
any_wider f p q (x ∷ xs) h e = wider_step f (p x) (q x) x (filter p xs) (filter q xs) (h x) (any_wider f p q xs h) e

has_wider : (s : Size) (p q : ℕ → Bool) (t : ℕ) → ((i : ℕ) → p i ≡ true → q i ≡ true) → tile_has s p t ≡ true → tile_has s q t ≡ true
has_wider s p q t h e = any_wider (λ i. tile_of s i == t) p q (places s) h e

-- no more tiles are touched than have a place of a kind that all changed places are of
pub touched_wider : (c : ChangeState) (s : Size) (test p : ℕ → Bool) → c.size ≡ s → IsChange c → IsSome c.before → HoldsNoUnchanged c → ((i : ℕ) → differs (cells_before c) c.cells i ≡ true → test i ≡ true) → ((t : ℕ) → tile_has s test t ≡ true → p t ≡ true) → length c.touched ≤ length (filter p (tiles s))
touched_wider c s test p e change there holds changes wider =
    let P : Size → Type 0 = λ z. length c.touched ≤ length (filter p (tiles z)) in
    let Q : Size → ℕ → Type 0 = λ z t. tile_has z test t ≡ true in
    subst P e (touched_few c p change (λ t m.
    let l = change.within t m in
    wider t (subst (λ z. Q z t) e (has_wider c.size (differs (cells_before c) c.cells) test t changes (changed_has c.size (cells_before c) c.cells t change.size l (holds there t m))))))

-- ---- tiles with a changed value

-- copied tiles have one
pub copied_few : (f : FieldState) → IsSize f.ground.size → (old cells : Cells) (w : WorkState) → ((i : ℕ) → cell_at cells i ≡ wanted_at f i) → IsCaused f old w → copies w.copied ≤ length (filter (tile_has f.ground.size (differs old cells)) (tiles f.ground.size))
copied_few f size old cells w right caused =
    let s = f.ground.size in
    copies_few w.copied (tile_has s (differs old cells)) 0 (tiles_in s)
    (λ t c.
    let r = caused t c in
    let z : 0 + t ≡ t = omega arith in
    (omega (arith, r.2, (back s r.0 size r.1).tile), ap (tile_has s (differs old cells)) z ∙ has_so s (differs old cells) t r.0 r.1 (differs_so old cells r.0 (λ e. r.3 (e ∙ right r.0))) (sym r.2)))

-- ---- of a whole repair

module _ (s : Size) (size : IsSize s) (limit : ℕ) (sb sn fb fn cb cn was now : Cells) (t u : Term) (costs_before : IsSpread s sb fb limit cb) (costs_after : IsSpread s sn fn limit cn) where
  abbrev pub test : ℕ → Bool
  test = has_changed (sb ∷ fb ∷ []) (sn ∷ fn ∷ [])

  abbrev pub result : ℕ → Bool
  result i = differs cb cn i || differs was now i

  abbrev pub damaged : ℕ → Bool
  damaged i = tile_has s test i || tile_has s result i

  abbrev further : ℕ → Bool
  further = cost_or_cell_differs limit s (sb ∷ fb ∷ []) (sn ∷ fn ∷ []) was now

  result_is : (i : ℕ) → further i ≡ result i
  result_is i =
      let b : costs_by limit s (sb ∷ fb ∷ []) ≡ cb = spread_only s sb fb limit (costs_by limit s (sb ∷ fb ∷ [])) cb (spread_is s sb fb limit) costs_before in
      let a : costs_by limit s (sn ∷ fn ∷ []) ≡ cn = spread_only s sn fn limit (costs_by limit s (sn ∷ fn ∷ [])) cn (spread_is s sn fn limit) costs_after in
      ap (λ (xs : Cells). differs xs (costs_by limit s (sn ∷ fn ∷ [])) i || differs was now i) b ∙ ap (λ (xs : Cells). differs cb xs i || differs was now i) a

  pub damage_few : length (filter damaged (tiles s)) ≤ length (op_damage (nearest_op limit t u) s (sb ∷ fb ∷ []) (sn ∷ fn ∷ []) (Some was) now)
  unfolding op_damage
  damage_few = fewer damaged (λ k. square_has 0 s test k || tile_has s further k) (tiles s)
      (λ k e. elim (or_cases (tile_has s test k) (tile_has s result k) e) as (λ _. (square_has 0 s test k || tile_has s further k) ≡ true) [
        | inl h ↦ or_left (square_has 0 s test k) (tile_has s further k) (reach_nought s test k ∙ h)
        | inr h ↦ or_right (square_has 0 s test k) (tile_has s further k) (has_wider s result further k (λ i r. result_is i ∙ r) h)
      ])

  -- the places of changed operands, those of new costs, and those whose value alone differs
  pub work_is : length (filter test (places s)) + (length (filter (differs cb cn) (places s)) + length (filter (λ i. not (differs cb cn i) && differs was now i) (places s))) ≡ op_work (nearest_op limit t u) s (sb ∷ fb ∷ []) (sn ∷ fn ∷ []) (Some was) now
  unfolding op_work
  work_is =
      let n = either_number (differs cb cn) (differs was now) (places s) in
      let a = fewer result further (places s) (λ i r. result_is i ∙ r) in
      let b = fewer further result (places s) (λ i r. sym (result_is i) ∙ r) in
      omega (arith, n, a, b)

  -- a place of the damage has its tile
  pub some_damaged : (i : ℕ) → i < cells_in s → (test i || result i) ≡ true → 1 ≤ length (filter damaged (tiles s))
  some_damaged i l e =
      let k = tile_of s i in
      let b = (back s i size l).tile in
      let z : get_or (tiles s) k 0 ≡ k = get_or-range_with_len 0 (tiles_in s) k 0 b ∙ omega arith in
      some_kept damaged (tiles s) k (omega (arith, b, length-range_with_len 0 (tiles_in s))) (ap damaged z ∙ elim (or_cases (test i) (result i) e) as (λ _. damaged k ≡ true) [
        | inl h ↦ or_left (tile_has s test k) (tile_has s result k) (has_so s test k i l h refl)
        | inr h ↦ or_right (tile_has s test k) (tile_has s result k) (has_so s result k i l h refl)
      ])

  -- what a repair of the costs alone damages, and its work
  pub spread_damage : length (op_damage (spread_op limit t u) s (sb ∷ fb ∷ []) (sn ∷ fn ∷ []) (Some cb) cn) ≤ length (op_damage (nearest_op limit t u) s (sb ∷ fb ∷ []) (sn ∷ fn ∷ []) (Some was) now)
  unfolding op_damage
  spread_damage = fewer (λ k. square_has 0 s test k || tile_has s (differs cb cn) k) (λ k. square_has 0 s test k || tile_has s further k) (tiles s)
      (λ k e. elim (or_cases (square_has 0 s test k) (tile_has s (differs cb cn) k) e) as (λ _. (square_has 0 s test k || tile_has s further k) ≡ true) [
        | inl h ↦ or_left (square_has 0 s test k) (tile_has s further k) h
        | inr h ↦ or_right (square_has 0 s test k) (tile_has s further k) (has_wider s (differs cb cn) further k (λ i r. result_is i ∙ or_left (differs cb cn i) (differs was now i) r) h)
      ])

  pub spread_work : op_work (spread_op limit t u) s (sb ∷ fb ∷ []) (sn ∷ fn ∷ []) (Some cb) cn ≤ op_work (nearest_op limit t u) s (sb ∷ fb ∷ []) (sn ∷ fn ∷ []) (Some was) now
  unfolding op_work
  spread_work = omega (arith, fewer (differs cb cn) further (places s) (λ i r. result_is i ∙ or_left (differs cb cn i) (differs was now i) r))

  -- so has one of a changed operand or of a new cost
  pub some_of_these : (changed moved : List ℕ) → AreAllPlaces s test changed → AreAllPlaces s (differs cb cn) moved → min 1 (length changed + length moved) ≤ length (filter damaged (tiles s))
  some_of_these changed moved all those = elim (cases_lt 0 (length changed)) as (λ _. min 1 (length changed + length moved) ≤ length (filter damaged (tiles s))) [
    | inl l ↦ omega (arith, some_damaged (get_or changed 0 0) (all.within 0 l) (or_left (test (get_or changed 0 0)) (result (get_or changed 0 0)) (all.pass 0 l)))
    | inr l ↦ elim (cases_lt 0 (length moved)) as (λ _. min 1 (length changed + length moved) ≤ length (filter damaged (tiles s))) [
      | inl m ↦ omega (arith, some_damaged (get_or moved 0 0) (those.within 0 m) (or_right (test (get_or moved 0 0)) (result (get_or moved 0 0)) (or_left (differs cb cn (get_or moved 0 0)) (differs was now (get_or moved 0 0)) (those.pass 0 m))))
      | inr m ↦ omega (arith, l, m)
    ]
  ]

  pub values_few : length (filter (tile_has s (differs was now)) (tiles s)) ≤ length (filter damaged (tiles s))
  values_few = fewer (tile_has s (differs was now)) damaged (tiles s) (λ k e. or_right (tile_has s test k) (tile_has s result k) (has_wider s (differs was now) result k (λ i r. or_right (differs cb cn i) (differs was now i) r) e))

  pub operand_few : (c : ChangeState) → c.size ≡ s → IsChange c → IsSome c.before → HoldsNoUnchanged c → ((i : ℕ) → differs (cells_before c) c.cells i ≡ true → test i ≡ true) → length c.touched ≤ length (filter damaged (tiles s))
  operand_few c e change there holds changes = touched_wider c s test damaged e change there holds changes (λ k h. or_left (tile_has s test k) (tile_has s result k) h)

  pub costs_few : (c : ChangeState) → c.size ≡ s → IsChange c → IsSome c.before → HoldsNoUnchanged c → ((i : ℕ) → differs (cells_before c) c.cells i ≡ true → differs cb cn i ≡ true) → length c.touched ≤ length (filter damaged (tiles s))
  costs_few c e change there holds changes = touched_wider c s result damaged e change there holds (λ i r. or_left (differs cb cn i) (differs was now i) (changes i r)) (λ k h. or_right (tile_has s test k) (tile_has s result k) h)

-- ---- tiles of costs that hold a changed one each

pub exact_holds : (s : Size) (l : LayerState) (p : PatchState) → l.size ≡ s → IsChange (patched_change l p) → HoldsExactly s l.cells p.tiles → HoldsNoUnchanged (patched_change l p)
exact_holds s l p e change exact there t m =
    let P : Size → Type 0 = λ z. HoldsExactly z l.cells p.tiles in
    let h = subst P (sym e) exact t (change.within t m) in
    λ q. h.0 (get-from_Contains p.tiles t m) (sym q)
