use Rattle.std.proofs.Common.{◌≡◌, ℕ, ◌+◌, ◌*◌, ◌≤◌, length, Some, sym, ◌∙◌, ap, subst, arith}
use Rattle.std.specs.Prelude.{filter}
use Rattle.map_nums.specs.Grids.{Cells, cells_in, places}
use Rattle.map_defs.specs.Damage.{differs}
use Rattle.map_defs.specs.Spread.{IsSpread}
use Rattle.layer_tiles.specs.Patches.{patched}
use Rattle.tile_work.specs.Working.{base_of}
use Rattle.friction_spread.specs.Costs.{GroundState, values, AreCosts}
use Rattle.least_costs.specs.Ranks.{changed}
use Rattle.least_costs.proofs.Takes.{changed_most}
use Rattle.friction_spread.proofs.Begun.{begun_same, begun_count}
use Rattle.friction_spread.proofs.Mending.{repair_begun}
use Rattle.friction_spread.proofs.Results.{spread_from, made, moved_differs}
use Rattle.map_defs.specs.Damage.{tile_has}
use Rattle.map_nums.specs.Tiles.{tiles}
use Rattle.layer_tiles.proofs.Rising.{rises_none, rises_within}
use Rattle.friction_spread.proofs.Shown.{costs_here}
use Rattle.friction_spread.proofs.Reading.{reads_failed, reads_done}
use Rattle.friction_spread.proofs.repair.repaired_costs.Given.{Over}
use Rattle.friction_spread.proofs.repair.repaired_costs.Goals as goal
use Rattle.friction_spread.proofs.repair.repaired_costs.Goals.{In_ok-labels, In_ok-patch}

base_count : (g : Over) (c : In_ok-labels g) → length c.args.base.now.cells ≡ cells_in c.args.ground.now.size
base_count g c = c.extent-base.ensures.layer.cells ∙ ap cells_in c.requires.size

begins : (g : Over) (c : In_ok-labels g) → c.in_ok-labels.labels.cells ≡ c.args.base.now.cells
begins g c = c.in_ok-labels.ensures.cells ∙ begun_same c.extent-extent.result c.args.base.now.cells (base_count g c ∙ ap cells_in (sym c.extent-extent.ensures.extent))

pub settle-requires-clause-costs : goal.settle-requires-clause-costs
settle-requires-clause-costs g c = let P : Cells → Type 0 = AreCosts c.args.ground.now.limit in subst P (sym (begins g (goal.at.settle-requires-clause-costs g c).In_ok-labels)) c.requires.costs

pub settle-requires-clause-begun : goal.settle-requires-clause-begun
settle-requires-clause-begun g c =
    let e = (goal.at.settle-requires-clause-begun g c).In_ok-labels in
    repair_begun c.args.ground.now c.in_ok-labels.labels.before c.args.base.now.cells c.in_ok-labels.labels.cells c.args.changed.now c.look_at_all.new.queue c.in_ok-labels.ensures.before (begins g e) (base_count g e) c.requires.costs c.requires.far c.in_ok-look_at_all.ensures.queued

pub overflow_add-worked : goal.overflow_add-worked
overflow_add-worked g c =
    let gr = c.args.ground.now in
    let m = changed_most (values gr.limit (base_of c.in_ok-labels.labels.before)) (values gr.limit c.settle.new.labels.cells) (cells_in gr.size) in
    omega (arith, m, c.in_ok-moved.ensures.moved, c.requires.few, c.extent-extent.ensures.ground.size.most_cells)

cells_made : (g : Over) (c : In_ok-patch g) → patched c.args.ground.now.size c.args.base.now.cells c.in_ok-patch.patch.tiles ≡ c.settle.new.labels.cells
cells_made g c =
    let same = c.settle.ensures.same in
    made c.args.ground.now.size c.settle.new.labels.size c.settle.new.labels.before c.args.base.now.cells c.settle.new.labels.cells c.in_ok-patch.patch.tiles (same.size ∙ c.in_ok-labels.ensures.size ∙ c.extent-extent.ensures.extent) (ap base_of (same.before ∙ c.in_ok-labels.ensures.before)) c.in_ok-patch.ensures.patch.makes

pub returns-clause-spread : goal.returns-clause-spread
returns-clause-spread g c =
    let gr = c.args.ground.now in
    let n : length c.settle.new.labels.cells ≡ cells_in gr.size = c.settle.ensures.same.count ∙ ap length c.in_ok-labels.ensures.cells ∙ begun_count c.extent-extent.result (Some c.args.base.now.cells) ∙ ap cells_in c.extent-extent.ensures.extent in
    let P : Cells → Type 0 = IsSpread gr.size gr.sources gr.friction gr.limit in
    subst P (sym (cells_made g (goal.at.returns-clause-spread g c).In_ok-patch)) (spread_from gr c.settle.new.labels.cells n c.in_ok-moved.ensures.costs c.in_ok-moved.ensures.least)

pub returns-clause-worked : goal.returns-clause-worked
returns-clause-worked g c =
    let gr = c.args.ground.now in
    let old = c.args.base.now.cells in
    let b : base_of c.in_ok-labels.labels.before ≡ old = ap base_of c.in_ok-labels.ensures.before in
    let m : c.in_ok-moved.moved ≡ length (filter (differs old c.settle.new.labels.cells) (places gr.size)) =
    c.in_ok-moved.ensures.moved ∙ ap (λ (xs : Cells). changed (values gr.limit xs) (values gr.limit c.settle.new.labels.cells) (cells_in gr.size)) b ∙ moved_differs gr old c.settle.new.labels.cells c.requires.costs c.in_ok-moved.ensures.costs in
    ap (λ k. length c.args.changed.now + k) (m ∙ ap (λ (xs : Cells). length (filter (differs old xs) (places gr.size))) (sym (cells_made g (goal.at.returns-clause-worked g c).In_ok-patch)))

-- the picks of a whole repair
picks_most : (g : GroundState) (old cells : Cells) (q n : ℕ) → AreCosts g.limit old → AreCosts g.limit cells → q ≤ 9 * n → 189 * n + (21 * q + 628 * changed (values g.limit old) (values g.limit cells) (cells_in g.size)) ≤ 378 * n + 628 * length (filter (differs old cells) (places g.size))
picks_most g old cells q n a b l = omega (arith, l, moved_differs g old cells a b)

pub returns-in_err-labels-clause-reads : goal.returns-in_err-labels-clause-reads
returns-in_err-labels-clause-reads g c = λ cells right. rises_within 0 0 _ _ _ _ (omega arith) (omega arith) (rises_none _)

pub returns-in_err-look_at_all-clause-reads : goal.returns-in_err-look_at_all-clause-reads
returns-in_err-look_at_all-clause-reads g c = λ cells right.
    let gr = c.args.ground.now in
    let old = c.args.base.now.cells in
    let n = length c.args.changed.now in
    rises_within 0 (189 * n) (3 * length (filter (tile_has gr.size (differs old cells)) (tiles gr.size))) (378 * n + 628 * length (filter (differs old cells) (places gr.size))) _ _ (omega arith) (omega arith) c.look_at_all.ensures.picks

pub returns-in_err-moved-clause-reads : goal.returns-in_err-moved-clause-reads
returns-in_err-moved-clause-reads g c = λ cells right.
    let gr = c.args.ground.now in
    let old = c.args.base.now.cells in
    let n = length c.args.changed.now in
    let q = length c.look_at_all.new.queue in
    let t = 3 * length (filter (tile_has gr.size (differs old cells)) (tiles gr.size)) in
    rises_within t (189 * n + (21 * q + 628 * changed (values gr.limit old) (values gr.limit cells) (cells_in gr.size))) t (378 * n + 628 * length (filter (differs old cells) (places gr.size))) _ _ (omega arith) (picks_most gr old cells q n c.requires.costs (costs_here gr cells right) (omega (arith, c.in_ok-look_at_all.ensures.len, ap length c.new-queue.ensures)))
    (reads_failed gr cells old c.extent-extent.ensures.ground.size right c.in_ok-labels.labels c.settle.new.labels (ap base_of c.in_ok-labels.ensures.before) c.in_ok-labels.ensures.copied c.settle.ensures.same c.settle.ensures.caused (189 * n) q _ _ _ c.look_at_all.ensures.picks c.in_err-moved.ensures.due c.in_err-moved.ensures.wanted)

pub returns-in_err-patch-clause-reads : goal.returns-in_err-patch-clause-reads
returns-in_err-patch-clause-reads g c = λ cells right.
    let gr = c.args.ground.now in
    let old = c.args.base.now.cells in
    let n = length c.args.changed.now in
    let q = length c.look_at_all.new.queue in
    let t = 3 * length (filter (tile_has gr.size (differs old cells)) (tiles gr.size)) in
    rises_within t (189 * n + (21 * q + 628 * changed (values gr.limit old) (values gr.limit cells) (cells_in gr.size))) t (378 * n + 628 * length (filter (differs old cells) (places gr.size))) _ _ (omega arith) (picks_most gr old cells q n c.requires.costs (costs_here gr cells right) (omega (arith, c.in_ok-look_at_all.ensures.len, ap length c.new-queue.ensures)))
    (reads_done gr cells old c.extent-extent.ensures.ground.size right c.in_ok-labels.labels c.settle.new.labels (ap base_of c.in_ok-labels.ensures.before) c.in_ok-labels.ensures.copied c.settle.ensures.same c.settle.ensures.caused (189 * n) q _ _ _ c.look_at_all.ensures.picks _ c.in_ok-moved.ensures.tally c.into_patch.ensures.looks)

pub returns-clause-reads : goal.returns-clause-reads
returns-clause-reads g c = λ cells right.
    let gr = c.args.ground.now in
    let old = c.args.base.now.cells in
    let n = length c.args.changed.now in
    let q = length c.look_at_all.new.queue in
    let t = 3 * length (filter (tile_has gr.size (differs old cells)) (tiles gr.size)) in
    rises_within t (189 * n + (21 * q + 628 * changed (values gr.limit old) (values gr.limit cells) (cells_in gr.size))) t (378 * n + 628 * length (filter (differs old cells) (places gr.size))) _ _ (omega arith) (picks_most gr old cells q n c.requires.costs (costs_here gr cells right) (omega (arith, c.in_ok-look_at_all.ensures.len, ap length c.new-queue.ensures)))
    (reads_done gr cells old c.extent-extent.ensures.ground.size right c.in_ok-labels.labels c.settle.new.labels (ap base_of c.in_ok-labels.ensures.before) c.in_ok-labels.ensures.copied c.settle.ensures.same c.settle.ensures.caused (189 * n) q _ _ _ c.look_at_all.ensures.picks _ c.in_ok-moved.ensures.tally c.into_patch.ensures.looks)
