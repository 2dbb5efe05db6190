use Rattle.std.proofs.Common.{◌≡◌, ℕ, ◌+◌, ◌*◌, ◌≤◌, List, [], ◌∷◌, length, Some, refl, sym, ◌∙◌, ap, subst, arith}
use Rattle.std.specs.Prelude.{filter}
use Rattle.std.proofs.lemmas.List.{get_or_default}
use Rattle.map_nums.specs.Grids.{Size, cells_in, places}
use Rattle.map_nums.specs.Tiles.{tiles}
use Rattle.map_defs.specs.Damage.{differs, has_changed, tile_has, op_damage}
use Rattle.map_defs.specs.Ops.{spread_op}
use Rattle.map_defs.specs.Spread.{IsSpread}
use Rattle.map_defs.specs.Work.{op_work}
use Rattle.layer_tiles.specs.Changes.{cells_before}
use Rattle.layer_tiles.specs.Patches.{patched}
use Rattle.layer_tiles.specs.Tallies.{TallyState, RisesBy}
use Rattle.layer_tiles.proofs.Rising.{rises_then, rises_within}
use Rattle.changed_cells.specs.Unions.{AreAllPlaces}
use Rattle.changed_cells.proofs.Joining.{same_length, found_few}
use Rattle.friction_spread.specs.Costs.{GroundState}
use Rattle.friction_spread.specs.Near.{AgreeFar}
use Rattle.friction_spread.proofs.Mending.{agree_far}
use Rattle.friction_spread.proofs.Works.{work_of, work_is}
use Rattle.friction_spread.proofs.Damaging.{repair_looks}
use Rattle.friction_spread.proofs.repair.repair_layer.Given.{Over}
use Rattle.friction_spread.proofs.repair.repair_layer.Goals as goal
use Rattle.friction_spread.proofs.repair.repair_layer.Goals.{After-deref}

found_all : (g : Over) (c : After-deref g) → AreAllPlaces c.args.sources.now.size (has_changed (cells_before c.args.sources.now ∷ cells_before c.args.friction.now ∷ []) (c.args.sources.now.cells ∷ c.args.friction.now.cells ∷ [])) c.deref.result.now
found_all g c =
    let P : List ℕ → Type 0 = AreAllPlaces c.args.sources.now.size (has_changed (cells_before c.args.sources.now ∷ cells_before c.args.friction.now ∷ []) (c.args.sources.now.cells ∷ c.args.friction.now.cells ∷ [])) in
    subst P (sym c.deref.ensures.value) c.in_ok-changed.ensures.places

size_is : (g : Over) (c : After-deref g) → c.new-ground.result.size ≡ c.args.sources.now.size
size_is g c = ap (λ (x : GroundState). x.size) c.new-ground.ensures

pub repaired_costs-requires-clause-far : goal.repaired_costs-requires-clause-far
repaired_costs-requires-clause-far g c =
    let e = (goal.at.repaired_costs-requires-clause-far g c).After-deref in
    let P : GroundState → Type 0 = λ gr. AgreeFar gr c.args.base.now.cells c.deref.result.now in
    subst P (sym c.new-ground.ensures) (agree_far c.args.sources.now.size c.args.limit (cells_before c.args.sources.now) c.args.sources.now.cells (cells_before c.args.friction.now) c.args.friction.now.cells c.deref.result.now (found_all g e) c.args.base.now.cells c.requires.right.right)

pub repaired_costs-requires-clause-within : goal.repaired_costs-requires-clause-within
repaired_costs-requires-clause-within g c = λ k d l.
    let e = (goal.at.repaired_costs-requires-clause-within g c).After-deref in
    omega (arith, (found_all g e).within k l, get_or_default c.deref.result.now k d 0 l, ap cells_in (size_is g e))

pub repaired_costs-requires-clause-few : goal.repaired_costs-requires-clause-few
repaired_costs-requires-clause-few g c =
    let e = (goal.at.repaired_costs-requires-clause-few g c).After-deref in
    omega (arith, found_few c.args.sources.now.size (has_changed (cells_before c.args.sources.now ∷ cells_before c.args.friction.now ∷ []) (c.args.sources.now.cells ∷ c.args.friction.now.cells ∷ [])) c.deref.result.now (found_all g e), ap cells_in (size_is g e))

pub returns-clause-worked : goal.returns-clause-worked
returns-clause-worked g c = λ t u.
    let e = (goal.at.returns-clause-worked g c).After-deref in
    let old = c.args.base.now.cells in
    let s = c.args.sources.now.size in
    c.in_ok-repair.ensures.worked
    ∙ ap (λ (z : Size). length c.deref.result.now + length (filter (differs old (patched z old c.in_ok-repair.repair.patch.tiles)) (places z))) (size_is g e)
    ∙ work_of c.args.limit s (cells_before c.args.sources.now) c.args.sources.now.cells (cells_before c.args.friction.now) c.args.friction.now.cells old (patched s old c.in_ok-repair.repair.patch.tiles) c.deref.result.now t u (found_all g e)

-- what both operands and the repair read, within the bounds of the whole
whole : (looks tiles_moved n l m damage work : ℕ) (x y z : TallyState) → n ≡ l → l + m ≡ work → looks + 3 * tiles_moved ≤ 7 * damage → RisesBy looks (2 * l) x y → RisesBy (3 * tiles_moved) (378 * n + 628 * m) y z → RisesBy (7 * damage) (628 * work) x z
whole looks k n l m damage work x y z e f h p q = rises_within (looks + 3 * k) (2 * l + (378 * n + 628 * m)) (7 * damage) (628 * work) x z h (omega (arith, e, f)) (rises_then looks (2 * l) (3 * k) (378 * n + 628 * m) x y z p q)

pub returns-in_err-changed-clause-reads : goal.returns-in_err-changed-clause-reads
returns-in_err-changed-clause-reads g c = λ a b t u cells right.
    let old = c.args.base.now.cells in
    let so = c.args.sources.now in
    let fr = c.args.friction.now in
    let s = so.size in
    let test = has_changed (cells_before so ∷ cells_before fr ∷ []) (so.cells ∷ fr.cells ∷ []) in
    let l = repair_looks s c.args.limit so fr old cells t u refl c.requires.size c.extent-extent.ensures.change c.extent-friction.ensures.change c.requires.right.sources_there c.requires.right.friction_there a b in
    let w = work_is c.args.limit s (cells_before so ∷ cells_before fr ∷ []) (so.cells ∷ fr.cells ∷ []) old cells t u in
    rises_within (2 * length so.touched + 2 * length fr.touched) (2 * length (filter test (places s))) (7 * length (op_damage (spread_op c.args.limit t u) s (cells_before so ∷ cells_before fr ∷ []) (so.cells ∷ fr.cells ∷ []) (Some old) cells)) (628 * op_work (spread_op c.args.limit t u) s (cells_before so ∷ cells_before fr ∷ []) (so.cells ∷ fr.cells ∷ []) (Some old) cells) _ _ (omega (arith, l)) (omega (arith, w)) c.in_err-changed.ensures.looks

pub returns-in_err-repair-clause-reads : goal.returns-in_err-repair-clause-reads
returns-in_err-repair-clause-reads g c = λ a b t u cells right.
    let e = (goal.at.returns-in_err-repair-clause-reads g c).After-deref in
    let old = c.args.base.now.cells in
    let so = c.args.sources.now in
    let fr = c.args.friction.now in
    let s = so.size in
    let n = length c.deref.result.now in
    let test = has_changed (cells_before so ∷ cells_before fr ∷ []) (so.cells ∷ fr.cells ∷ []) in
    let P : GroundState → Type 0 = λ gr. IsSpread gr.size gr.sources gr.friction gr.limit cells → RisesBy (3 * length (filter (tile_has gr.size (differs old cells)) (tiles gr.size))) (378 * n + 628 * length (filter (differs old cells) (places gr.size))) (g.M.Tally.counts c.changed_places_of_both.new.tally) (g.M.Tally.counts c.repaired_costs.new.tally) in
    let r = subst P c.new-ground.ensures (c.repaired_costs.ensures.reads cells) right in
    let l = repair_looks s c.args.limit so fr old cells t u refl c.requires.size c.extent-extent.ensures.change c.extent-friction.ensures.change c.requires.right.sources_there c.requires.right.friction_there a b in
    whole (2 * length so.touched + 2 * length fr.touched) (length (filter (tile_has s (differs old cells)) (tiles s))) n (length (filter test (places s))) (length (filter (differs old cells) (places s)))
    (length (op_damage (spread_op c.args.limit t u) s (cells_before so ∷ cells_before fr ∷ []) (so.cells ∷ fr.cells ∷ []) (Some old) cells)) (op_work (spread_op c.args.limit t u) s (cells_before so ∷ cells_before fr ∷ []) (so.cells ∷ fr.cells ∷ []) (Some old) cells) _ _ _
    (same_length s test c.deref.result.now (found_all g e)) (work_is c.args.limit s (cells_before so ∷ cells_before fr ∷ []) (so.cells ∷ fr.cells ∷ []) old cells t u) l c.changed_places_of_both.ensures.looks r

pub returns-clause-reads : goal.returns-clause-reads
returns-clause-reads g c = λ a b t u cells right.
    let e = (goal.at.returns-clause-reads g c).After-deref in
    let old = c.args.base.now.cells in
    let so = c.args.sources.now in
    let fr = c.args.friction.now in
    let s = so.size in
    let n = length c.deref.result.now in
    let test = has_changed (cells_before so ∷ cells_before fr ∷ []) (so.cells ∷ fr.cells ∷ []) in
    let P : GroundState → Type 0 = λ gr. IsSpread gr.size gr.sources gr.friction gr.limit cells → RisesBy (3 * length (filter (tile_has gr.size (differs old cells)) (tiles gr.size))) (378 * n + 628 * length (filter (differs old cells) (places gr.size))) (g.M.Tally.counts c.changed_places_of_both.new.tally) (g.M.Tally.counts c.repaired_costs.new.tally) in
    let r = subst P c.new-ground.ensures (c.repaired_costs.ensures.reads cells) right in
    let l = repair_looks s c.args.limit so fr old cells t u refl c.requires.size c.extent-extent.ensures.change c.extent-friction.ensures.change c.requires.right.sources_there c.requires.right.friction_there a b in
    whole (2 * length so.touched + 2 * length fr.touched) (length (filter (tile_has s (differs old cells)) (tiles s))) n (length (filter test (places s))) (length (filter (differs old cells) (places s)))
    (length (op_damage (spread_op c.args.limit t u) s (cells_before so ∷ cells_before fr ∷ []) (so.cells ∷ fr.cells ∷ []) (Some old) cells)) (op_work (spread_op c.args.limit t u) s (cells_before so ∷ cells_before fr ∷ []) (so.cells ∷ fr.cells ∷ []) (Some old) cells) _ _ _
    (same_length s test c.deref.result.now (found_all g e)) (work_is c.args.limit s (cells_before so ∷ cells_before fr ∷ []) (so.cells ∷ fr.cells ∷ []) old cells t u) l c.changed_places_of_both.ensures.looks r
