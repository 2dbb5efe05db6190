-- What a repair of values starts from.
use Rattle.std.proofs.Common.{◌≡◌, ℕ, ◌+◌, ◌*◌, ◌≤◌, min, Bool, List, [], ◌∷◌, length, Some, IsSome, refl, sym, ◌∙◌, ap, subst, arith}
use Rattle.std.specs.Prelude.{◌||◌, false, filter}
use Rattle.std.proofs.lemmas.Bool.{or_left, or_right}
use Rattle.map_nums.specs.Grids.{Size, Cells, cell_at, cells_in, places}
use Rattle.map_nums.specs.Numbers.{greatest_value}
use Rattle.map_nums.specs.Tiles.{tiles}
use Rattle.map_defs.specs.Damage.{differs, has_changed, tile_has, op_damage}
use Rattle.map_defs.specs.Nearest.{AreNearest}
use Rattle.map_defs.specs.Ops.{Term, nearest_op}
use Rattle.map_defs.specs.Spread.{IsSpread}
use Rattle.map_defs.specs.Work.{op_work}
use Rattle.layer_tiles.specs.Changes.{ChangeState, cells_before, patched_change}
use Rattle.layer_tiles.specs.Patches.{PatchState, patched}
use Rattle.layer_tiles.specs.ChangeFacts.{IsChange, HoldsNoUnchanged}
use Rattle.layer_tiles.specs.Tallies.{TallyState, RisesBy}
use Rattle.layer_tiles.proofs.Rising.{rises_then, rises_within}
use Rattle.changed_cells.specs.Changed.{AreChanged}
use Rattle.changed_cells.specs.Unions.{AreAllPlaces}
use Rattle.changed_cells.proofs.Joining.{same_length, all_changed}
use Rattle.friction_spread.specs.Costs.{net_of}
use Rattle.friction_spread.specs.Repairs.{HoldsExactly}
use Rattle.friction_spread.proofs.Grounds.{net_costs}
use Rattle.friction_neighbor.specs.Fields.{IsField, field_of, cost_at, own_at}
use Rattle.friction_neighbor.specs.Repairs.{alone, AreLeastFar}
use Rattle.friction_neighbor.specs.declared.repair.Nearest.{Nearest}
use Rattle.friction_neighbor.specs.Results.{AreRightBefore}
use Rattle.friction_neighbor.specs.Views.{ViewState}
use Rattle.friction_neighbor.proofs.Agreeing.{nearest_agree}
use Rattle.friction_neighbor.proofs.Begun.{least_far}
use Rattle.friction_neighbor.proofs.Damaging.{damage_few, work_is, some_of_these, values_few, operand_few, costs_few, exact_holds}
use Rattle.friction_neighbor.proofs.Righting.{least_of}

-- the operands and the costs, before and after: layers of one size, and the costs are least
pub record IsBasis (sources friction costs : ChangeState) (limit : ℕ) : Type 0 where
  pub low : limit ≤ greatest_value
  pub friction_size : friction.size ≡ sources.size
  pub costs_size : costs.size ≡ sources.size
  pub sources_change : IsChange sources
  pub friction_change : IsChange friction
  pub costs_change : IsChange costs
  pub sources_there : IsSome sources.before
  pub friction_there : IsSome friction.before
  pub costs_there : IsSome costs.before
  pub right_before : IsSpread sources.size (cells_before sources) (cells_before friction) limit (cells_before costs)
  pub right_after : IsSpread sources.size sources.cells friction.cells limit costs.cells

pub basis_of : (sources friction : ChangeState) (old : Nearest) (patch : PatchState) (costs : ChangeState) (limit : ℕ) → costs ≡ patched_change old.cost.now patch → limit ≤ greatest_value → friction.size ≡ sources.size → AreRightBefore sources friction limit old → IsSpread sources.size sources.cells friction.cells limit (patched sources.size old.cost.now.cells patch.tiles) → IsChange sources → IsChange friction → IsChange costs → IsBasis sources friction costs limit
basis_of sources friction old patch costs limit e low fs right spread a b d =
    let P : ChangeState → Type 0 = λ k. IsSome k.before in
    let Q : ChangeState → Type 0 = λ k. IsSpread sources.size (cells_before sources) (cells_before friction) limit (cells_before k) in
    let R : ChangeState → Type 0 = λ k. IsSpread sources.size sources.cells friction.cells limit k.cells in
    let S : Size → Type 0 = λ z. IsSpread sources.size sources.cells friction.cells limit (patched z old.cost.now.cells patch.tiles) in
    record {
      low = low;
      friction_size = fs;
      costs_size = ap (λ (k : ChangeState). k.size) e ∙ right.costs.size;
      sources_change = a;
      friction_change = b;
      costs_change = d;
      sources_there = right.costs.sources_there;
      friction_there = right.costs.friction_there;
      costs_there = subst P (sym e) refl;
      right_before = subst Q (sym e) right.costs.right;
      right_after = subst R (sym e) (subst S (sym right.costs.size) spread);
    }

pub basis_holds : (sources friction : ChangeState) (old : Nearest) (patch : PatchState) (costs : ChangeState) (limit : ℕ) → costs ≡ patched_change old.cost.now patch → AreRightBefore sources friction limit old → IsChange costs → HoldsExactly sources.size old.cost.now.cells patch.tiles → HoldsNoUnchanged costs
basis_holds sources friction old patch costs limit e right d exact =
    let P : ChangeState → Type 0 = HoldsNoUnchanged in
    subst P (sym e) (exact_holds sources.size old.cost.now patch right.costs.size (subst IsChange e d) exact)

-- the places of new costs, as they were found
pub those_here : (costs : ChangeState) (s : Size) (found moved : List ℕ) → costs.size ≡ s → moved ≡ found → AreChanged costs.size (cells_before costs) costs.cells found → AreAllPlaces s (differs (cells_before costs) costs.cells) moved
those_here costs s found moved e f h =
    let P : Size → Type 0 = λ z. AreAllPlaces z (differs (cells_before costs) costs.cells) moved in
    let Q : List ℕ → Type 0 = AreAllPlaces costs.size (differs (cells_before costs) costs.cells) in
    subst P e (subst Q (sym f) (all_changed costs.size (cells_before costs) costs.cells found h))

module _ (sources friction costs : ChangeState) (limit : ℕ) (h : IsBasis sources friction costs limit) where
  abbrev s : Size
  s = sources.size

  abbrev pub changes : ℕ → Bool
  changes = has_changed (cells_before sources ∷ cells_before friction ∷ []) (sources.cells ∷ friction.cells ∷ [])

  abbrev pub view : ViewState
  view = record { field = field_of s sources.cells friction.cells limit costs.cells; was = cells_before costs }

  field_before : IsField (field_of s (cells_before sources) (cells_before friction) limit (cells_before costs))
  field_before = record { size = h.sources_change.size; limit = h.low; sources = h.sources_change.before h.sources_there; friction = h.friction_change.before h.friction_there ∙ ap cells_in h.friction_size; costs = h.right_before }

  field_after : IsField view.field
  field_after = record { size = h.sources_change.size; limit = h.low; sources = h.sources_change.cells; friction = h.friction_change.cells ∙ ap cells_in h.friction_size; costs = h.right_after }

  pub far : (changed moved : List ℕ) → AreAllPlaces s changes changed → AreAllPlaces s (differs (cells_before costs) costs.cells) moved → (old : Cells) → AreNearest s (cells_before sources) (cells_before friction) limit old → AreLeastFar view old changed moved
  far changed moved all those old right =
      let f = field_of s (cells_before sources) (cells_before friction) limit (cells_before costs) in
      least_far s limit (cells_before sources) sources.cells (cells_before friction) friction.cells (cells_before costs) costs.cells field_before field_after changed moved all those old right.full
      (λ i. least_of (net_of f.ground) (net_costs f.ground) (cost_at f) (own_at f) (cell_at old) i (nearest_agree f field_before old right i))

  module _ (holds : HoldsNoUnchanged sources) (also : HoldsNoUnchanged friction) (hold : HoldsNoUnchanged costs) (old now : Cells) (t u : Term) where
    abbrev damage : ℕ
    damage = length (op_damage (nearest_op limit t u) s (cells_before sources ∷ cells_before friction ∷ []) (sources.cells ∷ friction.cells ∷ []) (Some old) now)

    abbrev work : ℕ
    work = op_work (nearest_op limit t u) s (cells_before sources ∷ cells_before friction ∷ []) (sources.cells ∷ friction.cells ∷ []) (Some old) now

    pub operands_looks : length sources.touched + length friction.touched ≤ 2 * damage
    operands_looks =
        let few = damage_few s h.sources_change.size limit (cells_before sources) sources.cells (cells_before friction) friction.cells (cells_before costs) costs.cells old now t u h.right_before h.right_after in
        let x = operand_few s h.sources_change.size limit (cells_before sources) sources.cells (cells_before friction) friction.cells (cells_before costs) costs.cells old now t u h.right_before h.right_after sources refl h.sources_change h.sources_there holds (λ i q. or_left (differs (cells_before sources) sources.cells i) (differs (cells_before friction) friction.cells i || false) q) in
        let y = operand_few s h.sources_change.size limit (cells_before sources) sources.cells (cells_before friction) friction.cells (cells_before costs) costs.cells old now t u h.right_before h.right_after friction h.friction_size h.friction_change h.friction_there also (λ i q. or_right (differs (cells_before sources) sources.cells i) (differs (cells_before friction) friction.cells i || false) (or_left (differs (cells_before friction) friction.cells i) false q)) in
        omega (arith, few, x, y)

    pub costs_looks : length costs.touched ≤ damage
    costs_looks =
        let few = damage_few s h.sources_change.size limit (cells_before sources) sources.cells (cells_before friction) friction.cells (cells_before costs) costs.cells old now t u h.right_before h.right_after in
        omega (arith, few, costs_few s h.sources_change.size limit (cells_before sources) sources.cells (cells_before friction) friction.cells (cells_before costs) costs.cells old now t u h.right_before h.right_after costs h.costs_size h.costs_change h.costs_there hold (λ i q. q))

    pub changed_work : length (filter changes (places s)) ≤ work
    changed_work =
        let w = work_is s h.sources_change.size limit (cells_before sources) sources.cells (cells_before friction) friction.cells (cells_before costs) costs.cells old now t u h.right_before h.right_after in
        omega (arith, w)

    -- the changed places are found, and the values put right
    pub whole : (changed moved : List ℕ) → AreAllPlaces s changes changed → AreAllPlaces s (differs (cells_before costs) costs.cells) moved → (x y z e : TallyState) →
        RisesBy (2 * length sources.touched + 2 * length friction.touched) (2 * length (filter changes (places s))) x y → RisesBy (2 * length costs.touched) 0 y z →
        RisesBy (2 * length (filter (tile_has s (differs old now)) (tiles s)) + min 1 (length changed + length moved)) (328 * (length changed + length moved) + 288 * alone view old now) z e → RisesBy (9 * damage) (330 * work) x e
    whole changed moved all those x y z e first second third =
        let w = work_is s h.sources_change.size limit (cells_before sources) sources.cells (cells_before friction) friction.cells (cells_before costs) costs.cells old now t u h.right_before h.right_after in
        let few = damage_few s h.sources_change.size limit (cells_before sources) sources.cells (cells_before friction) friction.cells (cells_before costs) costs.cells old now t u h.right_before h.right_after in
        let some = some_of_these s h.sources_change.size limit (cells_before sources) sources.cells (cells_before friction) friction.cells (cells_before costs) costs.cells old now t u h.right_before h.right_after changed moved all those in
        let values = values_few s h.sources_change.size limit (cells_before sources) sources.cells (cells_before friction) friction.cells (cells_before costs) costs.cells old now t u h.right_before h.right_after in
        let n = same_length s changes changed all in
        let m = same_length s (differs (cells_before costs) costs.cells) moved those in
        let l = 2 * length sources.touched + 2 * length friction.touched in
        let tiles_moved = length (filter (tile_has s (differs old now)) (tiles s)) in
        rises_within (l + 2 * length costs.touched + (2 * tiles_moved + min 1 (length changed + length moved))) (2 * length (filter changes (places s)) + 0 + (328 * (length changed + length moved) + 288 * alone view old now)) (9 * damage) (330 * work) x e
        (omega (arith, operands_looks, costs_looks, few, some, values)) (omega (arith, w, n, m))
        (rises_then (l + 2 * length costs.touched) (2 * length (filter changes (places s)) + 0) (2 * tiles_moved + min 1 (length changed + length moved)) (328 * (length changed + length moved) + 288 * alone view old now) x z e (rises_then l (2 * length (filter changes (places s))) (2 * length costs.touched) 0 x y z first second) third)
