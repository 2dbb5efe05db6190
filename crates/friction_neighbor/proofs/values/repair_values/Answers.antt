use Rattle.std.proofs.Common.{◌≡◌, ℕ, ◌+◌, ◌*◌, min, List, length, sym, ◌∙◌, ap, subst, arith}
use Rattle.std.specs.Prelude.{filter}
use Rattle.std.proofs.lemmas.List.{get_or_default}
use Rattle.map_nums.specs.Grids.{cells_in, places}
use Rattle.map_nums.specs.Tiles.{tiles}
use Rattle.map_defs.specs.Damage.{differs, tile_has}
use Rattle.map_defs.specs.Nearest.{AreNearest}
use Rattle.layer_tiles.specs.Changes.{ChangeState}
use Rattle.layer_tiles.specs.Patches.{patched}
use Rattle.layer_tiles.specs.Tallies.{RisesBy}
use Rattle.layer_tiles.proofs.Rising.{rises_then, rises_within}
use Rattle.changed_cells.specs.Unions.{AreAllPlaces}
use Rattle.friction_spread.specs.Repairs.{HoldsExactly}
use Rattle.friction_neighbor.specs.Repairs.{alone, AreLeastFar}
use Rattle.friction_neighbor.specs.Views.{ViewState, view_of}
use Rattle.friction_neighbor.proofs.Repairing.{basis_of, basis_holds, those_here, changes, far, operands_looks, costs_looks, changed_work, whole}
use Rattle.friction_neighbor.proofs.values.repair_values.Goals as goal

pub new-field-requires-clause-costs : goal.new-field-requires-clause-costs
new-field-requires-clause-costs g c = (basis_of c.args.sources.now c.args.friction.now c.args.old.now c.args.costs.now c.patched-costs.result c.args.limit c.patched-costs.ensures c.requires.limit c.requires.size c.requires.right c.requires.spread c.extent-extent.ensures.change c.extent-friction.ensures.change c.extent-costs.ensures.change).right_after

pub new-field-requires-clause-there : goal.new-field-requires-clause-there
new-field-requires-clause-there g c = (basis_of c.args.sources.now c.args.friction.now c.args.old.now c.args.costs.now c.patched-costs.result c.args.limit c.patched-costs.ensures c.requires.limit c.requires.size c.requires.right c.requires.spread c.extent-extent.ensures.change c.extent-friction.ensures.change c.extent-costs.ensures.change).costs_there

pub new-field-requires-clause-size : goal.new-field-requires-clause-size
new-field-requires-clause-size g c = (basis_of c.args.sources.now c.args.friction.now c.args.old.now c.args.costs.now c.patched-costs.result c.args.limit c.patched-costs.ensures c.requires.limit c.requires.size c.requires.right c.requires.spread c.extent-extent.ensures.change c.extent-friction.ensures.change c.extent-costs.ensures.change).costs_size

pub repaired_values-requires-clause-size : goal.repaired_values-requires-clause-size
repaired_values-requires-clause-size g c = c.requires.right.size ∙ ap (λ (v : ViewState). v.field.ground.size) (sym c.new-field.ensures)

pub repaired_values-requires-clause-far : goal.repaired_values-requires-clause-far
repaired_values-requires-clause-far g c =
    let so = c.args.sources.now in
    let fr = c.args.friction.now in
    let k = c.patched-costs.result in
    let l = c.args.limit in
    let b = (basis_of c.args.sources.now c.args.friction.now c.args.old.now c.args.costs.now c.patched-costs.result c.args.limit c.patched-costs.ensures c.requires.limit c.requires.size c.requires.right c.requires.spread c.extent-extent.ensures.change c.extent-friction.ensures.change c.extent-costs.ensures.change) in
    let P : ViewState → Type 0 = λ v. AreLeastFar v c.args.old.now.value.now.cells c.deref.result.now c.deref-2.result.now in
    subst P (sym c.new-field.ensures) (far so fr k l b c.deref.result.now c.deref-2.result.now (subst (λ (xs : List ℕ). AreAllPlaces so.size (changes so fr k l b) xs) (sym c.deref.ensures.value) c.in_ok-changed.ensures.places) (those_here k so.size (c.in_ok-moved.moved.items) c.deref-2.result.now b.costs_size c.deref-2.ensures.value c.in_ok-moved.ensures.places) c.args.old.now.value.now.cells c.requires.right.values)

pub repaired_values-requires-clause-within : goal.repaired_values-requires-clause-within
repaired_values-requires-clause-within g c = λ i d m.
    let so = c.args.sources.now in
    let fr = c.args.friction.now in
    let k = c.patched-costs.result in
    let l = c.args.limit in
    let b = (basis_of c.args.sources.now c.args.friction.now c.args.old.now c.args.costs.now c.patched-costs.result c.args.limit c.patched-costs.ensures c.requires.limit c.requires.size c.requires.right c.requires.spread c.extent-extent.ensures.change c.extent-friction.ensures.change c.extent-costs.ensures.change) in
    let all = (subst (λ (xs : List ℕ). AreAllPlaces so.size (changes so fr k l b) xs) (sym c.deref.ensures.value) c.in_ok-changed.ensures.places) in
    omega (arith, all.within i m, get_or_default c.deref.result.now i d 0 m, ap (λ (v : ViewState). cells_in v.field.ground.size) c.new-field.ensures)

pub repaired_values-requires-clause-moved : goal.repaired_values-requires-clause-moved
repaired_values-requires-clause-moved g c =
    let so = c.args.sources.now in
    let fr = c.args.friction.now in
    let k = c.patched-costs.result in
    let l = c.args.limit in
    let b = (basis_of c.args.sources.now c.args.friction.now c.args.old.now c.args.costs.now c.patched-costs.result c.args.limit c.patched-costs.ensures c.requires.limit c.requires.size c.requires.right c.requires.spread c.extent-extent.ensures.change c.extent-friction.ensures.change c.extent-costs.ensures.change) in
    let P : ViewState → Type 0 = λ v. AreAllPlaces v.field.ground.size (differs v.was v.field.costs) c.deref-2.result.now in
    subst P (sym c.new-field.ensures) (those_here k so.size (c.in_ok-moved.moved.items) c.deref-2.result.now b.costs_size c.deref-2.ensures.value c.in_ok-moved.ensures.places)

pub returns-clause-size : goal.returns-clause-size
returns-clause-size g c = c.in_ok-values.ensures.size ∙ ap (λ (v : ViewState). v.field.ground.size) c.new-field.ensures

pub returns-clause-nearest : goal.returns-clause-nearest
returns-clause-nearest g c =
    let P : ViewState → Type 0 = λ v. AreNearest v.field.ground.size v.field.ground.sources v.field.ground.friction v.field.ground.limit (patched v.field.ground.size c.args.old.now.value.now.cells c.in_ok-values.values.patch.tiles) in
    subst P c.new-field.ensures c.in_ok-values.ensures.nearest

pub returns-clause-exact : goal.returns-clause-exact
returns-clause-exact g c =
    let P : ViewState → Type 0 = λ v. HoldsExactly v.field.ground.size c.args.old.now.value.now.cells c.in_ok-values.values.patch.tiles in
    subst P c.new-field.ensures c.in_ok-values.ensures.exact

pub returns-clause-moved : goal.returns-clause-moved
returns-clause-moved g c =
    let old = c.args.old.now.value.now.cells in
    let tiles = c.in_ok-values.values.patch.tiles in
    let P : ViewState → Type 0 = λ v. c.in_ok-values.values.moved ≡ alone v old (patched v.field.ground.size old tiles) in
    let Q : ChangeState → Type 0 = λ k. c.in_ok-values.values.moved ≡ alone (view_of c.args.sources.now c.args.friction.now k c.args.limit) old (patched c.args.sources.now.size old tiles) in
    subst Q c.patched-costs.ensures (subst P c.new-field.ensures c.in_ok-values.ensures.moved)

pub returns-in_err-changed-clause-reads : goal.returns-in_err-changed-clause-reads
returns-in_err-changed-clause-reads g c = λ holds also t u cells right.
    let so = c.args.sources.now in
    let fr = c.args.friction.now in
    let k = c.patched-costs.result in
    let l = c.args.limit in
    let b = (basis_of c.args.sources.now c.args.friction.now c.args.old.now c.args.costs.now c.patched-costs.result c.args.limit c.patched-costs.ensures c.requires.limit c.requires.size c.requires.right c.requires.spread c.extent-extent.ensures.change c.extent-friction.ensures.change c.extent-costs.ensures.change) in
    let hold = (basis_holds c.args.sources.now c.args.friction.now c.args.old.now c.args.costs.now c.patched-costs.result c.args.limit c.patched-costs.ensures c.requires.right c.extent-costs.ensures.change c.requires.exact) in
    let old = c.args.old.now.value.now.cells in
    rises_within (2 * length so.touched + 2 * length fr.touched) (2 * length (filter (changes so fr k l b) (places so.size))) _ _ _ _ (omega (arith, operands_looks so fr k l b holds also hold old cells t u)) (omega (arith, changed_work so fr k l b holds also hold old cells t u)) c.changed_places_of_both.ensures.looks

pub returns-in_err-moved-clause-reads : goal.returns-in_err-moved-clause-reads
returns-in_err-moved-clause-reads g c = λ holds also t u cells right.
    let so = c.args.sources.now in
    let fr = c.args.friction.now in
    let k = c.patched-costs.result in
    let l = c.args.limit in
    let b = (basis_of c.args.sources.now c.args.friction.now c.args.old.now c.args.costs.now c.patched-costs.result c.args.limit c.patched-costs.ensures c.requires.limit c.requires.size c.requires.right c.requires.spread c.extent-extent.ensures.change c.extent-friction.ensures.change c.extent-costs.ensures.change) in
    let hold = (basis_holds c.args.sources.now c.args.friction.now c.args.old.now c.args.costs.now c.patched-costs.result c.args.limit c.patched-costs.ensures c.requires.right c.extent-costs.ensures.change c.requires.exact) in
    let old = c.args.old.now.value.now.cells in
    let p = 2 * length (filter (changes so fr k l b) (places so.size)) in
    rises_within (2 * length so.touched + 2 * length fr.touched + 2 * length k.touched) (p + 0) _ _ _ _ (omega (arith, operands_looks so fr k l b holds also hold old cells t u, costs_looks so fr k l b holds also hold old cells t u)) (omega (arith, changed_work so fr k l b holds also hold old cells t u))
    (rises_then (2 * length so.touched + 2 * length fr.touched) p (2 * length k.touched) 0 _ _ _ c.changed_places_of_both.ensures.looks c.changed_places.ensures.looks)

pub returns-in_err-values-clause-reads : goal.returns-in_err-values-clause-reads
returns-in_err-values-clause-reads g c = λ holds also t u cells right.
    let so = c.args.sources.now in
    let fr = c.args.friction.now in
    let k = c.patched-costs.result in
    let l = c.args.limit in
    let b = (basis_of c.args.sources.now c.args.friction.now c.args.old.now c.args.costs.now c.patched-costs.result c.args.limit c.patched-costs.ensures c.requires.limit c.requires.size c.requires.right c.requires.spread c.extent-extent.ensures.change c.extent-friction.ensures.change c.extent-costs.ensures.change) in
    let hold = (basis_holds c.args.sources.now c.args.friction.now c.args.old.now c.args.costs.now c.patched-costs.result c.args.limit c.patched-costs.ensures c.requires.right c.extent-costs.ensures.change c.requires.exact) in
    let old = c.args.old.now.value.now.cells in
    let n = length c.deref.result.now + length c.deref-2.result.now in
    let P : ViewState → Type 0 = λ v. AreNearest v.field.ground.size v.field.ground.sources v.field.ground.friction v.field.ground.limit cells → RisesBy (2 * length (filter (tile_has v.field.ground.size (differs old cells)) (tiles v.field.ground.size)) + min 1 n) (328 * n + 288 * alone v old cells) (g.M.Tally.counts c.changed_places.new.tally) (g.M.Tally.counts c.repaired_values.new.tally) in
    whole so fr k l b holds also hold old cells t u c.deref.result.now c.deref-2.result.now (subst (λ (xs : List ℕ). AreAllPlaces so.size (changes so fr k l b) xs) (sym c.deref.ensures.value) c.in_ok-changed.ensures.places) (those_here k so.size (c.in_ok-moved.moved.items) c.deref-2.result.now b.costs_size c.deref-2.ensures.value c.in_ok-moved.ensures.places) _ _ _ _ c.changed_places_of_both.ensures.looks c.changed_places.ensures.looks (subst P c.new-field.ensures (c.repaired_values.ensures.reads cells) right)

pub returns-clause-reads : goal.returns-clause-reads
returns-clause-reads g c = λ holds also t u cells right.
    let so = c.args.sources.now in
    let fr = c.args.friction.now in
    let k = c.patched-costs.result in
    let l = c.args.limit in
    let b = (basis_of c.args.sources.now c.args.friction.now c.args.old.now c.args.costs.now c.patched-costs.result c.args.limit c.patched-costs.ensures c.requires.limit c.requires.size c.requires.right c.requires.spread c.extent-extent.ensures.change c.extent-friction.ensures.change c.extent-costs.ensures.change) in
    let hold = (basis_holds c.args.sources.now c.args.friction.now c.args.old.now c.args.costs.now c.patched-costs.result c.args.limit c.patched-costs.ensures c.requires.right c.extent-costs.ensures.change c.requires.exact) in
    let old = c.args.old.now.value.now.cells in
    let n = length c.deref.result.now + length c.deref-2.result.now in
    let P : ViewState → Type 0 = λ v. AreNearest v.field.ground.size v.field.ground.sources v.field.ground.friction v.field.ground.limit cells → RisesBy (2 * length (filter (tile_has v.field.ground.size (differs old cells)) (tiles v.field.ground.size)) + min 1 n) (328 * n + 288 * alone v old cells) (g.M.Tally.counts c.changed_places.new.tally) (g.M.Tally.counts c.repaired_values.new.tally) in
    whole so fr k l b holds also hold old cells t u c.deref.result.now c.deref-2.result.now (subst (λ (xs : List ℕ). AreAllPlaces so.size (changes so fr k l b) xs) (sym c.deref.ensures.value) c.in_ok-changed.ensures.places) (those_here k so.size (c.in_ok-moved.moved.items) c.deref-2.result.now b.costs_size c.deref-2.ensures.value c.in_ok-moved.ensures.places) _ _ _ _ c.changed_places_of_both.ensures.looks c.changed_places.ensures.looks (subst P c.new-field.ensures (c.repaired_values.ensures.reads cells) right)
