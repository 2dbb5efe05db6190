use Rattle.std.proofs.Common.{◌≡◌, ℕ, ◌+◌, ◌*◌, false, List, length, Some, sym, ◌∙◌, ap, subst, arith}
use Rattle.std.proofs.lemmas.List.{get_or_default}
use Rattle.map_nums.specs.Grids.{Cells, cell_at, cells_in}
use Rattle.layer_tiles.specs.Patches.{patched}
use Rattle.layer_tiles.proofs.Rising.{rises_none, rises_then, rises_within}
use Rattle.tile_work.specs.PlaceSets.{PlaceSetState}
use Rattle.tile_work.specs.Working.{base_of}
use Rattle.friction_spread.proofs.Begun.{begun_same, begun_count}
use Rattle.friction_spread.proofs.Results.{made}
use Rattle.friction_neighbor.specs.Puts.{is_marked, ArePut}
use Rattle.friction_neighbor.specs.Repairs.{IsValueRepair, alone}
use Rattle.friction_neighbor.proofs.Agreeing.{nearest_wanted, wanted_nearest}
use Rattle.friction_neighbor.proofs.Begun.{repair_begun, unmarked_all}
use Rattle.friction_neighbor.proofs.Counting.{copies_some, alone_none}
use Rattle.friction_neighbor.proofs.Reading.{reads_failed, reads_done}
use Rattle.friction_neighbor.proofs.values.repaired_values.Given.{Over}
use Rattle.friction_neighbor.proofs.values.repaired_values.Goals as goal
use Rattle.friction_neighbor.proofs.values.repaired_values.Goals.{In_ok-values, In_ok-seen, In_ok-patch}

base_count : (g : Over) (c : In_ok-values g) → length c.args.base.now.cells ≡ cells_in c.args.field.now.field.ground.size
base_count g c = c.extent-base.ensures.layer.cells ∙ ap cells_in c.requires.size

begins : (g : Over) (c : In_ok-values g) → c.in_ok-values.values.cells ≡ c.args.base.now.cells
begins g c = c.in_ok-values.ensures.cells ∙ begun_same c.extent-extent.result c.args.base.now.cells (base_count g c ∙ ap cells_in (sym c.extent-extent.ensures.extent))

before_is : (g : Over) (c : In_ok-values g) → base_of c.in_ok-values.values.before ≡ c.args.base.now.cells
before_is g c = ap base_of c.in_ok-values.ensures.before

seen_size : (g : Over) (c : In_ok-seen g) → c.in_ok-seen.seen.size ≡ c.args.field.now.field.ground.size
seen_size g c = ap (λ (p : PlaceSetState). p.size) c.in_ok-seen.ensures ∙ c.extent-extent.ensures.extent

none_marked : (g : Over) (c : In_ok-seen g) (i : ℕ) → is_marked c.in_ok-seen.seen i ≡ false
none_marked g c i = ap (λ (p : PlaceSetState). is_marked p i) c.in_ok-seen.ensures ∙ unmarked_all (cells_in c.extent-extent.result) i

pub put_all-requires-clause-size : goal.put_all-requires-clause-size
put_all-requires-clause-size g c = seen_size g (goal.at.put_all-requires-clause-size g c).In_ok-seen

pub put_all-requires-2-clause-size : goal.put_all-requires-2-clause-size
put_all-requires-2-clause-size g c = c.in_ok-put_all.ensures.put.size ∙ seen_size g (goal.at.put_all-requires-2-clause-size g c).In_ok-seen

pub put_all-requires-2-clause-within : goal.put_all-requires-2-clause-within
put_all-requires-2-clause-within g c = λ k d l. omega (arith, c.requires.moved.within k l, get_or_default c.args.moved.now k d 0 l)

pub settle-requires-clause-begun : goal.settle-requires-clause-begun
settle-requires-clause-begun g c =
    let e = (goal.at.settle-requires-clause-begun g c).In_ok-values in
    let h = (goal.at.settle-requires-clause-begun g c).In_ok-seen in
    let v = c.args.field.now in
    let old = c.args.base.now.cells in
    let P : Cells → Type 0 = λ xs. IsValueRepair v xs c.in_ok-values.values.cells c.put_all-2.new.seen c.put_all-2.new.queue in
    let Q : List (ℕ × ℕ) → Type 0 = λ xs. ArePut v.field xs c.in_ok-seen.seen c.put_all.new.queue c.put_all.new.seen in
    subst P (sym (before_is g e))
    (repair_begun v c.extent-extent.ensures.field old c.in_ok-values.values.cells c.args.changed.now c.args.moved.now c.in_ok-seen.seen c.put_all.new.seen c.put_all-2.new.seen c.put_all.new.queue c.put_all-2.new.queue (begins g e) (base_count g e) c.requires.far c.requires.moved (seen_size g h) (none_marked g h)
    (subst Q c.new-queue.ensures c.in_ok-put_all.ensures.put) c.in_ok-put_all-2.ensures.put c.in_ok-put_all.ensures.marked c.in_ok-put_all-2.ensures.marked)

pub settle-requires-clause-unmoved : goal.settle-requires-clause-unmoved
settle-requires-clause-unmoved g c =
    let e = (goal.at.settle-requires-clause-unmoved g c).In_ok-values in
    alone_none c.args.field.now (base_of c.in_ok-values.values.before) c.in_ok-values.values.cells (λ i. ap (λ (xs : Cells). cell_at xs i) (begins g e ∙ sym (before_is g e)))

pub settle-requires-clause-caused : goal.settle-requires-clause-caused
settle-requires-clause-caused g c = λ t q. absurd (omega (arith, copies_some c.in_ok-values.values.copied t q, c.in_ok-values.ensures.copied))

cells_made : (g : Over) (c : In_ok-patch g) → patched c.args.field.now.field.ground.size c.args.base.now.cells c.in_ok-patch.patch.tiles ≡ c.settle.new.values.cells
cells_made g c =
    let same = c.settle.ensures.same in
    made c.args.field.now.field.ground.size c.settle.new.values.size c.settle.new.values.before c.args.base.now.cells c.settle.new.values.cells c.in_ok-patch.patch.tiles (same.size ∙ c.in_ok-values.ensures.size ∙ c.extent-extent.ensures.extent) (ap base_of (same.before ∙ c.in_ok-values.ensures.before)) c.in_ok-patch.ensures.patch.makes

pub returns-clause-nearest : goal.returns-clause-nearest
returns-clause-nearest g c =
    let f = c.args.field.now.field in
    let n : length c.settle.new.values.cells ≡ cells_in f.ground.size = c.settle.ensures.same.count ∙ ap length c.in_ok-values.ensures.cells ∙ begun_count c.extent-extent.result (Some c.args.base.now.cells) ∙ ap cells_in c.extent-extent.ensures.extent in
    let e = cells_made g (goal.at.returns-clause-nearest g c).In_ok-patch in
    wanted_nearest f c.extent-extent.ensures.field (patched f.ground.size c.args.base.now.cells c.in_ok-patch.patch.tiles) (ap length e ∙ n) (λ i. ap (λ (xs : Cells). cell_at xs i) e ∙ c.in_ok-moved.ensures.right i)

pub returns-clause-moved : goal.returns-clause-moved
returns-clause-moved g c =
    let v = c.args.field.now in
    let e = (goal.at.returns-clause-moved g c).In_ok-patch in
    c.in_ok-moved.ensures.moved ∙ ap (λ (xs : Cells). alone v xs c.settle.new.values.cells) (ap base_of c.in_ok-values.ensures.before) ∙ ap (alone v c.args.base.now.cells) (sym (cells_made g e))

pub returns-in_err-values-clause-reads : goal.returns-in_err-values-clause-reads
returns-in_err-values-clause-reads g c = λ cells right. rises_within 0 0 _ _ _ _ (omega arith) (omega arith) (rises_none _)

pub returns-in_err-seen-clause-reads : goal.returns-in_err-seen-clause-reads
returns-in_err-seen-clause-reads g c = λ cells right. rises_within 0 0 _ _ _ _ (omega arith) (omega arith) (rises_none _)

pub returns-in_err-put_all-clause-reads : goal.returns-in_err-put_all-clause-reads
returns-in_err-put_all-clause-reads g c = λ cells right. rises_within 0 (9 * length c.args.changed.now) _ _ _ _ (omega arith) (omega arith) c.put_all.ensures.picks

pub returns-in_err-put_all-2-clause-reads : goal.returns-in_err-put_all-2-clause-reads
returns-in_err-put_all-2-clause-reads g c = λ cells right. rises_within (0 + 0) (9 * length c.args.changed.now + 9 * length c.args.moved.now) _ _ _ _ (omega arith) (omega arith) (rises_then 0 (9 * length c.args.changed.now) 0 (9 * length c.args.moved.now) _ _ _ c.put_all.ensures.picks c.put_all-2.ensures.picks)

pub returns-in_err-moved-clause-reads : goal.returns-in_err-moved-clause-reads
returns-in_err-moved-clause-reads g c = λ cells right.
    let v = c.args.field.now in
    let q = length c.put_all-2.new.queue in
    reads_failed v c.extent-extent.ensures.field.size c.args.base.now.cells cells (nearest_wanted v.field c.extent-extent.ensures.field cells right) (length c.args.changed.now) (length c.args.moved.now) q (omega (arith, c.in_ok-put_all.ensures.len, c.in_ok-put_all-2.ensures.len, ap length c.new-queue.ensures)) c.in_ok-values.values c.settle.new.values (ap base_of c.in_ok-values.ensures.before) c.in_ok-values.ensures.copied c.settle.ensures.caused _ _ _ _ c.put_all.ensures.picks c.put_all-2.ensures.picks c.in_err-moved.ensures.some c.in_err-moved.ensures.wanted

pub returns-in_err-patch-clause-reads : goal.returns-in_err-patch-clause-reads
returns-in_err-patch-clause-reads g c = λ cells right.
    let v = c.args.field.now in
    let q = length c.put_all-2.new.queue in
    reads_done v c.extent-extent.ensures.field.size c.args.base.now.cells cells (nearest_wanted v.field c.extent-extent.ensures.field cells right) (length c.args.changed.now) (length c.args.moved.now) q (omega (arith, c.in_ok-put_all.ensures.len, c.in_ok-put_all-2.ensures.len, ap length c.new-queue.ensures)) c.in_ok-values.values c.settle.new.values (ap base_of c.in_ok-values.ensures.before) c.in_ok-values.ensures.copied c.settle.ensures.caused _ _ _ _ c.put_all.ensures.picks c.put_all-2.ensures.picks _ c.in_ok-moved.ensures.tally c.into_patch.ensures.looks

pub returns-clause-reads : goal.returns-clause-reads
returns-clause-reads g c = λ cells right.
    let v = c.args.field.now in
    let q = length c.put_all-2.new.queue in
    reads_done v c.extent-extent.ensures.field.size c.args.base.now.cells cells (nearest_wanted v.field c.extent-extent.ensures.field cells right) (length c.args.changed.now) (length c.args.moved.now) q (omega (arith, c.in_ok-put_all.ensures.len, c.in_ok-put_all-2.ensures.len, ap length c.new-queue.ensures)) c.in_ok-values.values c.settle.new.values (ap base_of c.in_ok-values.ensures.before) c.in_ok-values.ensures.copied c.settle.ensures.caused _ _ _ _ c.put_all.ensures.picks c.put_all-2.ensures.picks _ c.in_ok-moved.ensures.tally c.into_patch.ensures.looks
