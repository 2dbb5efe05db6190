-- The damage of a statement as the tiles that pass a test, how many it is, and what changed in it.
use Rattle.std.proofs.Common.{◌≡◌, ℕ, ◌*◌, ◌<◌, ◌≤◌, Bool, true, List, [], ◌∷◌, length, get_or, map, Option, Some, None, refl, sym, ◌∙◌, ap, arith, eqb, ◌+◌, ◌/◌, subst, IsFalse}
use Rattle.std.specs.Prelude.{◌||◌, ◌==◌, unwrap_or, not}
use Rattle.std.specs.List.{All, filter, list_any, zip}
use Rattle.std.specs.Option.{IsSome}
use Rattle.std.proofs.lemmas.Bool.{eqb-true, or_left}
use Rattle.std.proofs.lemmas.List.Folds.{list_any_at}
use Rattle.std.proofs.lemmas.List.Sums.{sum_by-le}
use Rattle.std.proofs.lemmas.Map.Views.{Contains-from_any}
use Rattle.std.proofs.lemmas.List.{length-map}
use Rattle.std.proofs.lemmas.List.Elements.{All-filter}
use Rattle.std.proofs.lemmas.List.Filters.{length-filter_both}
use Rattle.std.proofs.lemmas.List.FromFn.{length-range_with_len}
use Rattle.std.proofs.lemmas.Nat.{mul-le}
use Rattle.map_nums.specs.Grids.{Size, Cells, cells_in, IsSize, cell_at}
use Rattle.map_nums.specs.Tiles.{tiles, tiles_in, tiles_across, tiles_down}
use Rattle.map_nums.specs.Answers.{is_wide}
use Rattle.map_defs.specs.Tiles.{is_in_square}
use Rattle.map_defs.specs.Differences.{differs, has_changed, tile_has, square_has, changed_tiles}
use Rattle.map_defs.specs.Facts.{HasTerms}
use Rattle.map_defs.specs.Ops.{Op}
use Rattle.map_defs.specs.Damage.{is_damaged, reach_of, op_damage, has_work}
use Rattle.map_defs.specs.Work.{op_work}
use Rattle.map_defs.proofs.Squares.{square_from_near}
use Rattle.layer_tiles.specs.Changes.{ChangeState, cells_before}
use Rattle.layer_tiles.specs.Operands.{cells_after}
use Rattle.layer_tiles.specs.Tallies.{TallyState, RisesBy}
use Rattle.layer_tiles.proofs.Rising.{rises_within}
use Rattle.damage_sets.specs.Damage.{touched_in}
use Rattle.damage_sets.proofs.Whole.{any_so}
use Rattle.map_waves.specs.Statements.{cells_were, made, damage_by, work_by, fault_in}
use Rattle.map_waves.specs.Operands.{IsOperand}
use Rattle.map_waves.specs.Keeping.{was_of, IsRightKept}
use Rattle.map_waves.specs.declared.keeping.Kept.{Kept}
use Rattle.op_jobs.specs.Beside.{suits}
use Rattle.op_jobs.specs.Changed.{is_changed}
use Rattle.op_jobs.specs.Operands.{IsEdited}
use Rattle.op_jobs.specs.Owning.{reached_looks}
use Rattle.op_jobs.specs.declared.beside.Beside.{Beside}
use Rattle.op_jobs.proofs.Listing.{range_all, filter_fewer, passes, filter_all, filter_within}
use Rattle.op_jobs.proofs.Quiet.{has_one, changed_are}
use Rattle.op_jobs.proofs.Grids.{made_count}
use Rattle.op_jobs.proofs.Ranges.{terms_few}
use Rattle.op_jobs.proofs.Ranging.{narrow_of}
use Rattle.op_jobs.proofs.Reached.{felt_there}

-- ---- what the patches of operands hold

zipped : {X : Type 0} (test : Cells → Cells → Bool) (f g : X → Cells) (xs : List X) → list_any (λ p. test p.0 p.1) (zip (map f xs) (map g xs)) ≡ list_any (λ x. test (f x) (g x)) xs
zipped test f g [] = refl
zipped test f g (x ∷ xs) = ap (λ b. test (f x) (g x) || b) (zipped test f g xs)

-- a changed cell of one operand is a changed operand cell
one_changed : (operands : List ChangeState) (k i : ℕ) (d : ChangeState) → k < length operands → differs (cells_before (get_or operands k d)) (get_or operands k d).cells i ≡ true → has_changed (cells_were operands) (cells_after operands) i ≡ true
one_changed operands k i d l e =
    zipped (λ b a. differs b a i) (λ (c : ChangeState). cells_before c) (λ (c : ChangeState). c.cells) operands
    ∙ list_any_at (λ (c : ChangeState). differs (cells_before c) c.cells i) operands k d l e

-- an operand's patch holds no tile but with a changed cell
touched_is : (s : Size) (c : ChangeState) → IsOperand s c → IsSome c.before → c.touched ≡ filter (tile_has s (differs (cells_before c) c.cells)) (tiles s)
unfolding changed_tiles
touched_is s c h some = at c.before refl some
  where
    at : (o : Option Cells) → c.before ≡ o → IsSome o → c.touched ≡ filter (tile_has s (differs (cells_before c) c.cells)) (tiles s)
    at None e there = absurd (cc)
    at (Some cells) e there = h.exact cells e ∙ ap (λ (o : Option Cells). filter (tile_has s (differs (unwrap_or o []) c.cells)) (tiles s)) (sym e)

module _ (s : Size) (operands : List ChangeState) (r : ℕ) (hit : ℕ → Bool) (felt : (t : ℕ) → square_has r s (has_changed (cells_were operands) (cells_after operands)) t ≡ true → hit t ≡ true) where
  changed_passes : All (λ c. (t : ℕ) → t < tiles_in s → tile_has s (differs (cells_before c) c.cells) t ≡ true → hit t ≡ true) operands
  changed_passes k d l t m e =
      let a = has_one s (differs (cells_before (get_or operands k d)) (get_or operands k d).cells) t e in
      let near = square_from_near r s t a.0 m a.1 (record { place = a.0; within = a.1; of_tile = a.3; rows = omega arith; columns = omega arith }) in
      felt t (any_so (is_in_square r s t) (has_changed (cells_were operands) (cells_after operands)) (cells_in s) a.0 a.1 (one_changed operands k a.0 d l a.2) near)

  module _ (are : All (IsOperand s) operands) (there : All (λ c. IsSome c.before) operands) where
    pub held_passes : All (λ c. (t : ℕ) → t < tiles_in s → list_any (λ u. u == t) c.touched ≡ true → hit t ≡ true) operands
    held_passes k d l t m e =
        let c = get_or operands k d in
        let held = Contains-from_any {eq = λ x y. eqb y x} (λ x y f. sym (eqb-true y x f)) t c.touched e in
        changed_passes k d l t m (passes (tile_has s (differs (cells_before c) c.cells)) (tiles s) t (rw (touched_is s c (are k d l) (there k d l)) at held))

    pub touched_within : All (λ c. length c.touched ≤ length (filter hit (tiles s))) operands
    touched_within k d l =
        let c = get_or operands k d in
        let test : ℕ → Bool = tile_has s (differs (cells_before c) c.cells) in
        omega (arith, ap length (touched_is s c (are k d l) (there k d l)), filter_fewer test hit (tiles s) (range_all (λ t. test t ≡ true → hit t ≡ true) (tiles_in s) (changed_passes k d l)))

    -- the tiles that all patches hold
    pub touched_few : touched_in operands ≤ length operands * length (filter hit (tiles s))
    touched_few = sum_by-le (λ c. length c.touched) (length (filter hit (tiles s))) operands touched_within

-- ---- the damage

-- tile t is of the damage
abbrev pub is_hit : Size → Op → Option Cells → List ChangeState → ℕ → Bool
is_hit s op None operands t = true
is_hit s op (Some was) operands t = is_damaged op s (cells_were operands) (cells_after operands) was (made s op (cells_after operands)) t

pub damage_is : (s : Size) (op : Op) (was : Option Cells) (operands : List ChangeState) → damage_by s op was operands ≡ filter (is_hit s op was operands) (tiles s)
unfolding op_damage
damage_is s op None operands = sym (filter_all (λ t. true) (tiles s) (range_all (λ t. true ≡ true) (tiles_in s) (λ t l. refl)))
damage_is s op (Some was) operands = refl

-- ---- how many tiles

pub tiles_few : (s : Size) → IsSize s → tiles_in s ≤ 16384
unfolding tiles_in tiles_down tiles_across
tiles_few s h = omega (arith, mul-le ((s.rows + 31) / 32) ((s.columns + 31) / 32) 128 128 (omega (arith, h.most_rows)) (omega (arith, h.most_columns)))

pub damage_most : (s : Size) (op : Op) (was : Option Cells) (operands : List ChangeState) → length (damage_by s op was operands) ≤ tiles_in s
damage_most s op was operands =
    let p : ℕ → Bool = is_hit s op was operands in
    omega (arith, ap length (damage_is s op was operands), length-filter_both p (λ t. not (p t)) (λ t. refl) (tiles s), length-range_with_len 0 (tiles_in s))

pub damage_within : (s : Size) (op : Op) (was : Option Cells) (operands : List ChangeState) → All (λ t. t < tiles_in s) (damage_by s op was operands)
damage_within s op was operands =
    subst (All (λ t. t < tiles_in s)) (sym (damage_is s op was operands))
    (All-filter (is_hit s op was operands) (λ t. t < tiles_in s) (tiles s) (range_all (λ t. t < tiles_in s) (tiles_in s) (λ t l. l)))

-- the looks that finding it takes
pub reached_fit : (s : Size) (op : Op) (was : Option Cells) (operands : List ChangeState) → All (IsOperand s) operands → ((w : Cells) → was ≡ Some w → All (λ c. IsSome c.before) operands) → length operands ≤ 8 → reached_looks was operands ≤ 16 * length (damage_by s op was operands)
unfolding op_damage
reached_fit s op None operands are there few = omega arith
reached_fit s op (Some w) operands are there few =
    let d = length (damage_by s op (Some w) operands) in
    let touched : touched_in operands ≤ length operands * d = touched_few s operands (reach_of op) (is_hit s op (Some w) operands) (λ t. or_left _ _) are (there w refl) in
    omega (arith, touched, mul-le (length operands) d 8 d few (omega arith))

-- ---- what is kept

abbrev Kepts : Type 0
Kepts = Option (Kept Beside)

pub record WasRight (s : Size) (op : Op) (operands : List ChangeState) (w : Cells) : Type 0 where
  pub there : All (λ c. IsSome c.before) operands
  pub right : w ≡ made s op (cells_were operands)
  pub faultless : fault_in s op (cells_were operands) ≡ None

pub was_right : (s : Size) (op : Op) (operands : List ChangeState) (kept : Kepts) (w : Cells) → IsRightKept suits s op operands kept → was_of kept ≡ Some w → WasRight s op operands w
was_right s op operands None w is e = absurd cc
was_right s op operands (Some k) w is e = let same : w ≡ k.layer.cells = cc in record { there = is.there; right = same ∙ is.right; faultless = is.faultless }

-- the looks that finding it takes, of an edited statement
pub found_rises : (s : Size) (op : Op) (operands : List ChangeState) (kept : Kepts) (a b : TallyState) → IsEdited s op operands kept → RisesBy (reached_looks (was_of kept) operands) 0 a b → RisesBy (26 * length (damage_by s op (was_of kept) operands)) 0 a b
found_rises s op operands kept a b is rise =
    let are = is.operands_are in
    let fit = reached_fit s op (was_of kept) operands are.each (λ w e. (was_right s op operands kept w is.right e).there) (omega (arith, are.count, terms_few op are.formed)) in
    rises_within (reached_looks (was_of kept) operands) 0 (26 * length (damage_by s op (was_of kept) operands)) 0 a b (omega (arith, fit)) (omega arith) rise

module _ (s : Size) (op : Op) (operands : List ChangeState) (was : Option Cells) (size : IsSize s) (right : (w : Cells) → was ≡ Some w → WasRight s op operands w) where
  -- its cells are in range
  pub was_narrow : (w : Cells) → was ≡ Some w → (i : ℕ) → i < cells_in s → IsFalse (is_wide (cell_at w i))
  was_narrow w e i l =
      let r = right w e in
      let P : Cells → Type 0 = λ cells. IsFalse (is_wide (cell_at cells i)) in
      subst P (sym r.right) (narrow_of s op (cells_were operands) (made_count s op (cells_were operands)) r.faultless i l)

  -- what changed is damaged
  pub changed_hit : HasTerms op → length operands ≡ length op.terms → (t : ℕ) → t < tiles_in s → is_changed s was (made s op (cells_after operands)) t ≡ true → is_hit s op was operands t ≡ true
  changed_hit fit terms t l e = by_was was refl e
    where
      by_was : (o : Option Cells) → o ≡ was → is_changed s o (made s op (cells_after operands)) t ≡ true → is_hit s op o operands t ≡ true
      by_was None f h = refl
      by_was (Some w) f h =
          let r = right w (sym f) in
          let P : Cells → Type 0 = λ cells. is_changed s (Some cells) (made s op (cells_after operands)) t ≡ true → is_hit s op (Some cells) operands t ≡ true in
          subst P (sym r.right) (felt_there s op (cells_were operands) (cells_after operands) size fit (length-map operands cells_before ∙ terms) (length-map operands (λ (c : ChangeState). c.cells) ∙ terms) t l) h

  pub changed_within : HasTerms op → length operands ≡ length op.terms → changed_tiles s was (made s op (cells_after operands)) ≡ filter (is_changed s was (made s op (cells_after operands))) (damage_by s op was operands)
  changed_within fit terms =
      let now = made s op (cells_after operands) in
      let P : List ℕ → Type 0 = λ ts. changed_tiles s was now ≡ filter (is_changed s was now) ts in
      subst P (sym (damage_is s op was operands))
      (changed_are s was now ∙ sym (filter_within (is_changed s was now) (is_hit s op was operands) (tiles s) (range_all (λ t. is_changed s was now t ≡ true → is_hit s op was operands t ≡ true) (tiles_in s) (changed_hit fit terms))))

-- ---- work

pub work_none : (s : Size) (op : Op) (was : Option Cells) (operands : List ChangeState) → IsFalse (has_work op) → work_by s op was operands ≡ 0
unfolding op_work
work_none s op None operands e = rw (e) refl
work_none s op (Some w) operands e = rw (e) refl
