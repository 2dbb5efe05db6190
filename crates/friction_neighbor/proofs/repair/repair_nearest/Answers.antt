use Rattle.std.proofs.Common.{◌≡◌, ℕ, Some, pos, sym, ◌∙◌, ap, subst, arith}
use Rattle.std.specs.Prelude.{nat_abs}
use Rattle.std.proofs.lemmas.Int.{to_z-of_z}
use Rattle.map_nums.specs.Widths.{value_width}
use Rattle.map_defs.specs.Nearest.{AreNearest}
use Rattle.map_defs.specs.Ops.{Term, number_term, spread_op}
use Rattle.map_defs.specs.Spread.{IsSpread}
use Rattle.map_defs.specs.Work.{op_work}
use Rattle.layer_tiles.specs.Patches.{patched}
use Rattle.layer_tiles.specs.Changes.{patched_change}
use Rattle.friction_spread.specs.Repairs.{ReadsWithin}
use Rattle.friction_neighbor.specs.Repairs.{alone}
use Rattle.friction_neighbor.specs.Results.{AreRightBefore, NearestReadsWithin, befores, afters}
use Rattle.friction_neighbor.specs.Views.{view_of}
use Rattle.friction_neighbor.proofs.Totals.{worked_is, worked_most, costs_within, both_within}
use Rattle.friction_neighbor.proofs.repair.repair_nearest.Given.{Over}
use Rattle.friction_neighbor.proofs.repair.repair_nearest.Goals as goal
use Rattle.friction_neighbor.proofs.repair.repair_nearest.Goals.{After-limit_of}

limit_is : (g : Over) (c : After-limit_of g) → c.limit_of.result ≡ nat_abs c.args.limit
limit_is g c = c.limit_of.ensures.value ∙ ap nat_abs (to_z-of_z value_width c.args.limit c.ranges.limit)

pub repair_values-requires-clause-right : goal.repair_values-requires-clause-right
repair_values-requires-clause-right g c =
    let e = (goal.at.repair_values-requires-clause-right g c).After-limit_of in
    let P : ℕ → Type 0 = λ n. AreRightBefore c.args.sources.now c.args.friction.now n c.args.old.now in
    subst P (sym (limit_is g e)) c.requires.right

pub repair_values-requires-clause-spread : goal.repair_values-requires-clause-spread
repair_values-requires-clause-spread g c =
    let e = (goal.at.repair_values-requires-clause-spread g c).After-limit_of in
    let so = c.args.sources.now in
    let P : ℕ → Type 0 = λ n. IsSpread so.size so.cells c.args.friction.now.cells n (patched so.size c.args.old.now.cost.now.cells c.in_ok-costs.costs.patch.tiles) in
    subst P (sym (limit_is g e)) (subst P (ap nat_abs (to_z-of_z value_width c.args.limit c.ranges.limit)) c.in_ok-costs.ensures.spread)

pub returns-clause-cost : goal.returns-clause-cost
returns-clause-cost g c =
    let so = c.args.sources.now in
    let P : ℕ → Type 0 = λ n. IsSpread so.size so.cells c.args.friction.now.cells n (patched so.size c.args.old.now.cost.now.cells c.in_ok-costs.costs.patch.tiles) in
    subst P (ap nat_abs (to_z-of_z value_width c.args.limit c.ranges.limit)) c.in_ok-costs.ensures.spread

pub returns-clause-value : goal.returns-clause-value
returns-clause-value g c =
    let e = (goal.at.returns-clause-value g c).After-limit_of in
    let so = c.args.sources.now in
    let P : ℕ → Type 0 = λ n. AreNearest so.size so.cells c.args.friction.now.cells n (patched so.size c.args.old.now.value.now.cells c.in_ok-values.values.patch.tiles) in
    subst P (limit_is g e) c.in_ok-values.ensures.nearest

pub overflow_add-result : goal.overflow_add-result
overflow_add-result g c =
    let e = (goal.at.overflow_add-result g c).After-limit_of in
    let so = c.args.sources.now in
    let fr = c.args.friction.now in
    let old = c.args.old.now in
    let zero_term : Term = number_term (pos 0) in
    let now = patched so.size old.value.now.cells c.in_ok-values.values.patch.tiles in
    let P : ℕ → Type 0 = λ n. c.in_ok-values.values.moved ≡ alone (view_of so fr (patched_change old.cost.now c.in_ok-costs.costs.patch) n) old.value.now.cells now in
    let W : ℕ → Type 0 = λ n. c.in_ok-costs.costs.worked ≡ op_work (spread_op n zero_term zero_term) so.size (befores so fr) (afters so fr) (Some old.cost.now.cells) (patched so.size old.cost.now.cells c.in_ok-costs.costs.patch.tiles) in
    omega (arith, worked_most so fr (nat_abs c.args.limit) old c.extent-extent.ensures.size c.requires.right c.in_ok-costs.costs.patch now c.in_ok-values.values.moved c.in_ok-costs.costs.worked zero_term zero_term (subst P (limit_is g e) c.in_ok-values.ensures.moved) (subst W (ap nat_abs (to_z-of_z value_width c.args.limit c.ranges.limit)) (c.in_ok-costs.ensures.worked zero_term zero_term)), c.extent-extent.ensures.size.most_cells)

pub returns-clause-worked : goal.returns-clause-worked
returns-clause-worked g c = λ t u.
    let e = (goal.at.returns-clause-worked g c).After-limit_of in
    let so = c.args.sources.now in
    let fr = c.args.friction.now in
    let old = c.args.old.now in
    let now = patched so.size old.value.now.cells c.in_ok-values.values.patch.tiles in
    let P : ℕ → Type 0 = λ n. c.in_ok-values.values.moved ≡ alone (view_of so fr (patched_change old.cost.now c.in_ok-costs.costs.patch) n) old.value.now.cells now in
    let S : ℕ → Type 0 = λ n. IsSpread so.size so.cells fr.cells n (patched so.size old.cost.now.cells c.in_ok-costs.costs.patch.tiles) in
    let W : ℕ → Type 0 = λ n. c.in_ok-costs.costs.worked ≡ op_work (spread_op n t u) so.size (befores so fr) (afters so fr) (Some old.cost.now.cells) (patched so.size old.cost.now.cells c.in_ok-costs.costs.patch.tiles) in
    worked_is so fr (nat_abs c.args.limit) old c.extent-extent.ensures.size c.requires.right c.in_ok-costs.costs.patch now c.in_ok-values.values.moved c.in_ok-costs.costs.worked t u (subst S (ap nat_abs (to_z-of_z value_width c.args.limit c.ranges.limit)) c.in_ok-costs.ensures.spread) (subst P (limit_is g e) c.in_ok-values.ensures.moved) (subst W (ap nat_abs (to_z-of_z value_width c.args.limit c.ranges.limit)) (c.in_ok-costs.ensures.worked t u))

pub returns-in_err-costs-clause-reads : goal.returns-in_err-costs-clause-reads
returns-in_err-costs-clause-reads g c =
    let R : ℕ → Type 0 = λ n. ReadsWithin 7 628 c.args.sources.now c.args.friction.now n (Some c.args.old.now.cost.now.cells) (g.M.Tally.counts c.args.tally.now) (g.M.Tally.counts c.spread_repair.new.tally) in
    costs_within c.args.sources.now c.args.friction.now (nat_abs c.args.limit) c.args.old.now c.extent-extent.ensures.size c.requires.right _ _ (subst R (ap nat_abs (to_z-of_z value_width c.args.limit c.ranges.limit)) c.spread_repair.ensures.inner)

pub returns-in_err-values-clause-reads : goal.returns-in_err-values-clause-reads
returns-in_err-values-clause-reads g c =
    let e = (goal.at.returns-in_err-values-clause-reads g c).After-limit_of in
    let P : ℕ → Type 0 = λ n. NearestReadsWithin 9 330 c.args.sources.now c.args.friction.now n (Some c.args.old.now.value.now.cells) (g.M.Tally.counts c.spread_repair.new.tally) (g.M.Tally.counts c.repair_values.new.tally) in
    let R : ℕ → Type 0 = λ n. ReadsWithin 7 628 c.args.sources.now c.args.friction.now n (Some c.args.old.now.cost.now.cells) (g.M.Tally.counts c.args.tally.now) (g.M.Tally.counts c.spread_repair.new.tally) in
    both_within c.args.sources.now c.args.friction.now (nat_abs c.args.limit) c.args.old.now c.extent-extent.ensures.size c.requires.right _ _ _ (subst R (ap nat_abs (to_z-of_z value_width c.args.limit c.ranges.limit)) c.spread_repair.ensures.inner) (subst P (limit_is g e) c.repair_values.ensures.reads)

pub returns-clause-reads : goal.returns-clause-reads
returns-clause-reads g c =
    let e = (goal.at.returns-clause-reads g c).After-limit_of in
    let P : ℕ → Type 0 = λ n. NearestReadsWithin 9 330 c.args.sources.now c.args.friction.now n (Some c.args.old.now.value.now.cells) (g.M.Tally.counts c.spread_repair.new.tally) (g.M.Tally.counts c.repair_values.new.tally) in
    let R : ℕ → Type 0 = λ n. ReadsWithin 7 628 c.args.sources.now c.args.friction.now n (Some c.args.old.now.cost.now.cells) (g.M.Tally.counts c.args.tally.now) (g.M.Tally.counts c.spread_repair.new.tally) in
    both_within c.args.sources.now c.args.friction.now (nat_abs c.args.limit) c.args.old.now c.extent-extent.ensures.size c.requires.right _ _ _ (subst R (ap nat_abs (to_z-of_z value_width c.args.limit c.ranges.limit)) c.spread_repair.ensures.inner) (subst P (limit_is g e) c.repair_values.ensures.reads)
