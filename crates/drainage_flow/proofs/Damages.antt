-- What a repair may read, by its damage and its work.
use Rattle.std.proofs.Common.{◌≡◌, ℕ, ◌+◌, ◌*◌, ◌≤◌, Bool, true, false, cond, List, [], ◌∷◌, length, Some, refl, sym, ◌∙◌, ap, subst, arith}
use Rattle.std.specs.Prelude.{◌||◌, filter, IsSome}
use Rattle.std.specs.List.{list_any}
use Rattle.std.proofs.lemmas.Bool.{or_left, or_right}
use Rattle.map_nums.specs.Grids.{Size, Cells, cells_in, places, grid_by}
use Rattle.map_nums.specs.Tiles.{tiles}
use Rattle.map_defs.specs.Ops.{Term, flow_op}
use Rattle.map_defs.specs.Damage.{op_damage, is_damaged}
use Rattle.map_defs.specs.Work.{op_work}
use Rattle.map_defs.specs.Differences.{differs, has_changed, tile_has, square_has}
use Rattle.map_defs.proofs.Squares.{reach_nought}
use Rattle.layer_tiles.specs.Changes.{ChangeState, cells_before}
use Rattle.layer_tiles.specs.ChangeFacts.{IsChange, HoldsNoUnchanged}
use Rattle.layer_tiles.specs.Tallies.{TallyState, RisesBy}
use Rattle.layer_tiles.proofs.Rising.{rises_none, rises_then, rises_within}
use Rattle.changed_cells.specs.Unions.{AreAllPlaces, both_changed}
use Rattle.changed_cells.proofs.Joining.{differs_so, fewer, same_length}
use Rattle.changed_cells.proofs.Touching.{touched_few, changed_has}
use Rattle.drainage_flow.specs.FlowNets.{flow_number, number_of}
use Rattle.drainage_flow.specs.Settling.{number_at, flow_changes}
use Rattle.drainage_flow.specs.Showing.{shown_at, changes, changed_count}
use Rattle.drainage_flow.specs.Repairs.{were, are, flow_now, flow_damage, flow_work}
use Rattle.drainage_flow.proofs.Ends.{grid_shown, flow_cell, differing_few}

wider_here : (p : ℕ → Bool) (b c : Bool) (x : ℕ) (ys zs : List ℕ) → (b ≡ true → c ≡ true) → (list_any p ys ≡ true → list_any p zs ≡ true) → list_any p (cond b (x ∷ ys) ys) ≡ true → list_any p (cond c (x ∷ zs) zs) ≡ true
wider_here p true true x ys zs h k e = first (p x) refl
  where
    first : (b : Bool) → p x ≡ b → p x || list_any p zs ≡ true
    first true t = or_left (p x) (list_any p zs) t
    first false t = or_right (p x) (list_any p zs) (k (sym (ap (λ b. b || list_any p ys) t) ∙ e))
wider_here p true false x ys zs h k e = (let t : false ≡ true = h refl in absurd (cc))
wider_here p false true x ys zs h k e = or_right (p x) (list_any p zs) (k e)
wider_here p false false x ys zs h k e = k e

wider : (p q r : ℕ → Bool) (xs : List ℕ) → ((i : ℕ) → q i ≡ true → r i ≡ true) → list_any p (filter q xs) ≡ true → list_any p (filter r xs) ≡ true
wider p q r [] h e = absurd (cc)
wider p q r (x ∷ xs) h e = wider_here p (q x) (r x) x (filter q xs) (filter r xs) (h x) (wider p q r xs h) e

module _ (t u : Term) (surface weights : ChangeState) (old : Cells) where
  abbrev damaged : ℕ → Bool
  damaged = is_damaged (flow_op t u) surface.size (were surface weights) (are surface weights) old (flow_now surface weights)

  damage_is : flow_damage t u surface weights (Some old) ≡ filter damaged (tiles surface.size)
  unfolding op_damage
  damage_is = refl

  -- a tile with a changed operand cell
  operand_damaged : (q : ℕ → Bool) (tile : ℕ) → ((i : ℕ) → q i ≡ true → has_changed (were surface weights) (are surface weights) i ≡ true) → tile_has surface.size q tile ≡ true → damaged tile ≡ true
  operand_damaged q tile h e =
      or_left (square_has 0 surface.size (has_changed (were surface weights) (are surface weights)) tile) _
      (reach_nought surface.size (has_changed (were surface weights) (are surface weights)) tile ∙ wider _ q (has_changed (were surface weights) (are surface weights)) (places surface.size) h e)

  pub surface_few : IsChange surface → IsSome surface.before → HoldsNoUnchanged surface → length surface.touched ≤ length (flow_damage t u surface weights (Some old))
  surface_few c some holds = rw (damage_is) (touched_few surface damaged c (λ tile m. operand_damaged (differs (cells_before surface) surface.cells) tile
      (λ i e. or_left (differs (cells_before surface) surface.cells i) _ e)
      (changed_has surface.size (cells_before surface) surface.cells tile c.size (c.within tile m) (holds some tile m))))

  pub weights_few : weights.size ≡ surface.size → IsChange weights → IsSome weights.before → HoldsNoUnchanged weights → length weights.touched ≤ length (flow_damage t u surface weights (Some old))
  weights_few same c some holds = rw (damage_is) (subst (λ (s : Size). length weights.touched ≤ length (filter damaged (tiles s))) same (touched_few weights damaged c (λ tile m. operand_damaged (differs (cells_before weights) weights.cells) tile
      (λ i e. or_right (differs (cells_before surface) surface.cells i) _ (or_left (differs (cells_before weights) weights.cells i) false e))
      (subst (λ (s : Size). tile_has s (differs (cells_before weights) weights.cells) tile ≡ true) same (changed_has weights.size (cells_before weights) weights.cells tile c.size (c.within tile m) (holds some tile m))))))

  pub changed_few : changed_count surface.size surface.cells old (flow_number surface.size surface.cells weights.cells) ≤ length (flow_damage t u surface weights (Some old))
  changed_few =
      let e : (grid_by surface.size (shown_at surface.cells (flow_number surface.size surface.cells weights.cells))).cells ≡ flow_now surface weights = grid_shown surface.size surface.cells weights.cells (flow_number surface.size surface.cells weights.cells) (λ c l. refl) in
      rw (damage_is)
      (subst (λ (now : Cells). length (filter (tile_has surface.size (differs old now)) (tiles surface.size)) ≤ length (filter damaged (tiles surface.size))) (sym e)
      (fewer (tile_has surface.size (differs old (flow_now surface weights))) damaged (tiles surface.size) (λ tile h. or_right (square_has 0 surface.size (has_changed (were surface weights) (are surface weights)) tile) (tile_has surface.size (differs old (flow_now surface weights)) tile) h)))

  pub flow_changes_few : flow_changes surface.size surface.cells weights.cells old ≤ changes surface.size old (flow_now surface weights)
  unfolding flow_number
  flow_changes_few = differing_few (number_at old) (flow_number surface.size surface.cells weights.cells) (differs old (flow_now surface weights)) (cells_in surface.size)
      (λ c l n. differs_so old (flow_now surface weights) c (λ e. n (ap number_of (e ∙ flow_cell surface.size surface.cells weights.cells c l))))

  work_is : flow_work t u surface weights (Some old) ≡ length (filter (both_changed surface weights) (places surface.size)) + changes surface.size old (flow_now surface weights)
  unfolding op_work
  work_is = refl

  -- finding the changed places, mending, writing
  pub repair_rises : (changed : List ℕ) (n : ℕ) (a b c d : TallyState) → AreAllPlaces surface.size (both_changed surface weights) changed → n ≡ flow_changes surface.size surface.cells weights.cells old → weights.size ≡ surface.size → IsChange surface → IsChange weights → IsSome surface.before → IsSome weights.before → HoldsNoUnchanged surface → HoldsNoUnchanged weights
      → RisesBy (2 * length surface.touched + 2 * length weights.touched) (2 * length (filter (both_changed surface weights) (places surface.size))) a b
      → RisesBy 0 (234 * length changed + 11 * flow_changes surface.size surface.cells weights.cells old) b c
      → RisesBy (3 * changed_count surface.size surface.cells old (flow_number surface.size surface.cells weights.cells)) (4 * length changed + 3 * n) c d
      → RisesBy (32 * length (flow_damage t u surface weights (Some old))) (1000 * flow_work t u surface weights (Some old)) a d
  repair_rises changed n a b c d places_are count same sc wc sb wb sh wh x y z =
      rises_within _ _ _ _ a d
      (omega (arith, surface_few sc sb sh, weights_few same wc wb wh, changed_few))
      (omega (arith, work_is, flow_changes_few, count, same_length surface.size (both_changed surface weights) changed places_are))
      (rises_then _ _ _ _ a c d (rises_then _ _ _ _ a b c x y) z)

  -- wherever memory is wanted or a flow is out of range on the way
  module _ (same : weights.size ≡ surface.size) (sc : IsChange surface) (wc : IsChange weights) (sb : IsSome surface.before) (wb : IsSome weights.before) (sh : HoldsNoUnchanged surface) (wh : HoldsNoUnchanged weights) (a b : TallyState)
      (x : RisesBy (2 * length surface.touched + 2 * length weights.touched) (2 * length (filter (both_changed surface weights) (places surface.size))) a b) where
    pub find_rises : RisesBy (32 * length (flow_damage t u surface weights (Some old))) (1000 * flow_work t u surface weights (Some old)) a b
    find_rises =
        rises_within (2 * length surface.touched + 2 * length weights.touched) (2 * length (filter (both_changed surface weights) (places surface.size))) (32 * length (flow_damage t u surface weights (Some old))) (1000 * flow_work t u surface weights (Some old)) a b
        (omega (arith, surface_few sc sb sh, weights_few same wc wb wh)) (omega (arith, work_is)) x

    module _ (found read : List ℕ) (all : AreAllPlaces surface.size (both_changed surface weights) found) (reads : read ≡ found) (c : TallyState) (y : RisesBy 0 (234 * length read + 11 * flow_changes surface.size surface.cells weights.cells old) b c) where
      mended : RisesBy 0 (234 * length found + 11 * flow_changes surface.size surface.cells weights.cells old) b c
      mended = subst (λ (xs : List ℕ). RisesBy 0 (234 * length xs + 11 * flow_changes surface.size surface.cells weights.cells old) b c) reads y

      pub mended_rises : RisesBy (32 * length (flow_damage t u surface weights (Some old))) (1000 * flow_work t u surface weights (Some old)) a c
      mended_rises =
          repair_rises found (flow_changes surface.size surface.cells weights.cells old) a b c c all refl same sc wc sb wb sh wh x mended
          (rises_within 0 0 (3 * changed_count surface.size surface.cells old (flow_number surface.size surface.cells weights.cells)) (4 * length found + 3 * flow_changes surface.size surface.cells weights.cells old) c c (omega arith) (omega arith) (rises_none c))

      pub written_rises : (also : List ℕ) (n : ℕ) (d : TallyState) → also ≡ found → n ≡ flow_changes surface.size surface.cells weights.cells old → RisesBy (3 * changed_count surface.size surface.cells old (flow_number surface.size surface.cells weights.cells)) (4 * length also + 3 * n) c d → RisesBy (32 * length (flow_damage t u surface weights (Some old))) (1000 * flow_work t u surface weights (Some old)) a d
      written_rises also n d e count z =
          repair_rises found n a b c d all count same sc wc sb wb sh wh x mended
          (subst (λ (xs : List ℕ). RisesBy (3 * changed_count surface.size surface.cells old (flow_number surface.size surface.cells weights.cells)) (4 * length xs + 3 * n) c d) e z)
