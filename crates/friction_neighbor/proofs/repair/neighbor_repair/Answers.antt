use Rattle.std.proofs.Common.{◌≡◌, ℕ, [], Option, Some, None, sym, ◌∙◌, ap, subst}
use Rattle.std.specs.Prelude.{nat_abs, IfOk}
use Rattle.std.proofs.lemmas.Int.{to_z-of_z}
use Rattle.map_nums.specs.Widths.{value_width}
use Rattle.map_defs.specs.Ops.{Term, nearest_op}
use Rattle.map_defs.specs.Work.{first_work, op_work}
use Rattle.layer_tiles.specs.Patches.{patched}
use Rattle.tile_work.specs.Working.{before_of, base_of}
use Rattle.friction_neighbor.specs.declared.repair.Nearest.{Nearest}
use Rattle.friction_neighbor.specs.declared.repair.NearestRepair.{NearestRepair}
use Rattle.friction_neighbor.specs.Results.{values_of, NearestReadsWithin, befores, afters}
use Rattle.friction_neighbor.proofs.Totals.{first_within, first_worked, wider, ok_then}
use Rattle.friction_neighbor.proofs.repair.neighbor_repair.Goals as goal

pub returns-in-Some-clause-reads : goal.returns-in-Some-clause-reads
returns-in-Some-clause-reads g c =
    let so = c.args.sources.now in
    let fr = c.args.friction.now in
    let x = g.M.Tally.counts c.args.tally.now in
    let y = g.M.Tally.counts c.repair_nearest.new.tally in
    let R : ℕ → Type 0 = λ n. NearestReadsWithin 16 958 so fr n (Some c.in-Some.layers.value.now.cells) x y in
    let P : Option Nearest → Type 0 = λ o. NearestReadsWithin 32 1000 so fr (nat_abs c.args.limit) (before_of (values_of o)) x y in
    subst P (sym c.in-Some.is) (wider so fr (nat_abs c.args.limit) (Some c.in-Some.layers.value.now.cells) x y (subst R (ap nat_abs (to_z-of_z value_width c.args.limit c.ranges.limit)) c.repair_nearest.ensures.reads))

pub returns-in-None-clause-worked : goal.returns-in-None-clause-worked
returns-in-None-clause-worked g c =
    let so = c.args.sources.now in
    let fr = c.args.friction.now in
    let P : Option Nearest → Type 0 = λ o. IfOk c.first_nearest.result (λ (r : NearestRepair). (t u : Term) → r.worked ≡ op_work (nearest_op (nat_abs c.args.limit) t u) so.size (befores so fr) (afters so fr) (before_of (values_of o)) (patched so.size (base_of (before_of (values_of o))) r.value.tiles)) in
    subst P (sym c.in-None.is)
    (ok_then (λ (r : NearestRepair). r.worked ≡ first_work so.size (patched so.size [] r.value.tiles)) (λ (r : NearestRepair). (t u : Term) → r.worked ≡ op_work (nearest_op (nat_abs c.args.limit) t u) so.size (befores so fr) (afters so fr) None (patched so.size [] r.value.tiles))
    (λ r w t u. w ∙ first_worked so fr (nat_abs c.args.limit) (patched so.size [] r.value.tiles) t u) c.first_nearest.result c.first_nearest.ensures.worked)

pub returns-in-None-clause-reads : goal.returns-in-None-clause-reads
returns-in-None-clause-reads g c =
    let so = c.args.sources.now in
    let fr = c.args.friction.now in
    let x = g.M.Tally.counts c.args.tally.now in
    let y = g.M.Tally.counts c.first_nearest.new.tally in
    let P : Option Nearest → Type 0 = λ o. NearestReadsWithin 32 1000 so fr (nat_abs c.args.limit) (before_of (values_of o)) x y in
    subst P (sym c.in-None.is) (first_within so fr (nat_abs c.args.limit) x y c.first_nearest.ensures.looks)
