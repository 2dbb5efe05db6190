use Rattle.std.proofs.Common.{◌≡◌, ◌+◌, ◌-◌, ◌*◌, ◌≤◌, min, length, false, refl, ap, ◌∙◌, arith}
use Rattle.std.proofs.lemmas.List.{length-replicate}
use Rattle.map_nums.specs.Grids.{cells_in}
use Rattle.layer_tiles.specs.Changes.{cells_before}
use Rattle.region_labels.specs.Flood.{FloodState, marks_in}
use Rattle.region_labels.proofs.Rows.{marks_most}
use Rattle.region_labels.proofs.Works.{IsRepairedBy, repaired_by}
use Rattle.std.specs.Prelude.{filter}
use Rattle.map_nums.specs.Grids.{IsSize, Cells, places}
use Rattle.map_nums.specs.Tiles.{tiles}
use Rattle.map_defs.specs.Differences.{differs, tile_has}
use Rattle.map_defs.specs.Regions.{AreRegions}
use Rattle.map_defs.specs.Work.{is_touched}
use Rattle.layer_tiles.specs.Tallies.{RisesBy}
use Rattle.layer_tiles.proofs.Rising.{rises_then, rises_within}
use Rattle.tile_work.specs.Working.{copies}
use Rattle.region_labels.proofs.Bounds.{few_copied, clear_copied, rounds_copied, few_touched}
use Rattle.region_labels.proofs.repair.repaired_labels.Given.{Over}
use Rattle.region_labels.proofs.repair.repaired_labels.Goals as goal
use Rattle.region_labels.proofs.repair.repaired_labels.Goals.{In_ok-patch, After-clear_labels, After-label_rounds, After-into_patch}

pub overflow_add-worked : goal.overflow_add-worked
overflow_add-worked g c =
    let fb = c.label_rounds.new.flood in
    let a : length c.in_ok-flood.flood.marks ≡ cells_in c.extent-extent.result = ap (λ (f : FloodState). length f.marks) c.in_ok-flood.ensures ∙ length-replicate (cells_in c.extent-extent.result) false in
    let e : cells_in c.extent-extent.result ≡ cells_in c.args.of.now.size = ap cells_in c.extent-extent.ensures.extent in
    omega (arith, marks_most fb.marks, c.in_ok-label_rounds.ensures.ok.size, a, e, c.extent-extent.ensures.size.most_cells, c.count.ensures, c.requires.few)

repaired : (g : Over) (c : In_ok-patch g) → IsRepairedBy c.args.of.now.size c.args.of.now.cells c.args.base.now.cells c.args.changed.now c.label_rounds.new.flood.marks c.in_ok-patch.patch.tiles
repaired g c = repaired_by c.args.of.now.size c.extent-extent.result (cells_before c.args.of.now) c.args.of.now.cells c.args.base.now.cells c.args.changed.now c.in_ok-labels.labels c.clear_labels.new.labels c.label_rounds.new.labels c.in_ok-flood.flood c.label_rounds.new.flood c.in_ok-patch.patch.tiles (cells_in c.extent-extent.result) c.requires.right c.requires.changed c.extent-extent.ensures.extent c.in_ok-labels.ensures.size c.in_ok-labels.ensures.before c.in_ok-labels.ensures.cells c.in_ok-flood.ensures refl c.clear_labels.ensures.same c.in_ok-clear_labels.ensures.ok c.label_rounds.ensures.same c.in_ok-label_rounds.ensures.ok c.in_ok-label_rounds.ensures.handled c.in_ok-label_rounds.ensures.caused c.in_ok-patch.ensures.patch

pub returns-clause-regions : goal.returns-clause-regions
returns-clause-regions g c = (repaired g (goal.at.returns-clause-regions g c).In_ok-patch).regions

pub returns-clause-worked : goal.returns-clause-worked
returns-clause-worked g c = ap (λ n. length c.args.changed.now + n) (c.count.ensures ∙ (repaired g (goal.at.returns-clause-worked g c).In_ok-patch).work)

cleared_few : (g : Over) (c : After-clear_labels g) (labels : Cells) → AreRegions c.args.of.now.size c.args.of.now.cells labels → copies c.clear_labels.new.labels.copied ≤ length (filter (tile_has c.args.of.now.size (differs c.args.base.now.cells labels)) (tiles c.args.of.now.size))
cleared_few g c labels r =
    let s = c.args.of.now.size in
    let la = c.in_ok-labels.labels in
    let lb = c.clear_labels.new.labels in
    let size : IsSize s = c.extent-extent.ensures.size in
    few_copied s c.args.of.now.cells c.args.base.now.cells labels la.copied lb.copied size r c.in_ok-labels.ensures.copied
    (clear_copied s c.extent-extent.result c.args.of.now.cells c.args.base.now.cells c.args.changed.now la lb c.requires.right.full c.extent-extent.ensures.extent c.in_ok-labels.ensures.cells c.clear_labels.ensures.copied)

rounds_few : (g : Over) (c : After-label_rounds g) (labels : Cells) → AreRegions c.args.of.now.size c.args.of.now.cells labels → copies c.label_rounds.new.labels.copied ≤ length (filter (tile_has c.args.of.now.size (differs c.args.base.now.cells labels)) (tiles c.args.of.now.size))
rounds_few g c labels r =
    let s = c.args.of.now.size in
    let la = c.in_ok-labels.labels in
    let lb = c.clear_labels.new.labels in
    let lc = c.label_rounds.new.labels in
    let size : IsSize s = c.extent-extent.ensures.size in
    few_copied s c.args.of.now.cells c.args.base.now.cells labels la.copied lc.copied size r c.in_ok-labels.ensures.copied
    (rounds_copied s c.extent-extent.result c.args.of.now.cells c.args.base.now.cells c.args.changed.now la lb c.requires.right.full c.extent-extent.ensures.extent c.in_ok-labels.ensures.cells
    c.in_ok-flood.flood (cells_in c.extent-extent.result) lc.copied c.in_ok-flood.ensures refl c.in_ok-clear_labels.ensures.ok c.clear_labels.ensures.copied c.label_rounds.ensures.copied)

rounds_touched : (g : Over) (c : After-label_rounds g) (labels : Cells) → AreRegions c.args.of.now.size c.args.of.now.cells labels → marks_in c.label_rounds.new.flood.marks ≤ length (filter (is_touched c.args.of.now.size labels c.args.changed.now) (places c.args.of.now.size))
rounds_touched g c labels r = few_touched c.args.of.now.size c.args.of.now.cells labels c.args.changed.now c.in_ok-flood.flood c.extent-extent.result (cells_in c.extent-extent.result) c.label_rounds.new.flood.marks r c.in_ok-flood.ensures c.label_rounds.ensures.caused

pub returns-in_err-clear_labels-clause-bounds : goal.returns-in_err-clear_labels-clause-bounds
returns-in_err-clear_labels-clause-bounds g c = λ labels r.
    let f = cleared_few g (goal.at.returns-in_err-clear_labels-clause-bounds g c).After-clear_labels labels r in
    let n = length c.args.changed.now in
    rises_within (copies c.clear_labels.new.labels.copied - copies c.in_ok-labels.labels.copied + 1) (2 * n) _ _ _ _ (omega (arith, f, c.in_err-clear_labels.ensures.some)) (omega arith) c.in_err-clear_labels.ensures.wanted

pub returns-in_err-label_rounds-clause-bounds : goal.returns-in_err-label_rounds-clause-bounds
returns-in_err-label_rounds-clause-bounds g c = λ labels r.
    let d = (goal.at.returns-in_err-label_rounds-clause-bounds g c).After-label_rounds in
    let f = rounds_few g d labels r in
    let m = rounds_touched g d labels r in
    let n = length c.args.changed.now in
    let a = copies c.in_ok-labels.labels.copied in
    let b = copies c.clear_labels.new.labels.copied in
    let e = copies c.label_rounds.new.labels.copied in
    let k = marks_in c.label_rounds.new.flood.marks - marks_in c.in_ok-flood.flood.marks in
    rises_within (b - a + (e - b + 1)) (2 * n + (9 * n + 10 * k)) _ _ _ _ (omega (arith, f, c.clear_labels.ensures.more, c.label_rounds.ensures.more, c.in_err-label_rounds.ensures.some)) (omega (arith, m))
    (rises_then (b - a) (2 * n) (e - b + 1) (9 * n + 10 * k) _ _ _ c.in_ok-clear_labels.ensures.picks c.in_err-label_rounds.ensures.wanted)

patched_bounds : (g : Over) (c : After-into_patch g) (labels : Cells) → AreRegions c.args.of.now.size c.args.of.now.cells labels → RisesBy (2 * length (filter (tile_has c.args.of.now.size (differs c.args.base.now.cells labels)) (tiles c.args.of.now.size)) + min 1 (length c.args.changed.now)) (11 * length c.args.changed.now + 10 * length (filter (is_touched c.args.of.now.size labels c.args.changed.now) (places c.args.of.now.size))) (g.M.Tally.counts c.args.tally.now) (g.M.Tally.counts c.into_patch.new.tally)
patched_bounds g c labels r =
    let d = (goal.at.After-into_patch g c).After-label_rounds in
    let f = rounds_few g d labels r in
    let m = rounds_touched g d labels r in
    let n = length c.args.changed.now in
    let a = copies c.in_ok-labels.labels.copied in
    let b = copies c.clear_labels.new.labels.copied in
    let e = copies c.label_rounds.new.labels.copied in
    let k = marks_in c.label_rounds.new.flood.marks - marks_in c.in_ok-flood.flood.marks in
    rises_within (b - a + (e - b) + e) (2 * n + (9 * n + 10 * k) + 0) _ _ _ _ (omega (arith, f, c.clear_labels.ensures.more, c.label_rounds.ensures.more)) (omega (arith, m))
    (rises_then (b - a + (e - b)) (2 * n + (9 * n + 10 * k)) e 0 _ _ _ (rises_then (b - a) (2 * n) (e - b) (9 * n + 10 * k) _ _ _ c.in_ok-clear_labels.ensures.picks c.in_ok-label_rounds.ensures.picks) c.into_patch.ensures.looks)

pub returns-in_err-patch-clause-bounds : goal.returns-in_err-patch-clause-bounds
returns-in_err-patch-clause-bounds g c = patched_bounds g (goal.at.returns-in_err-patch-clause-bounds g c).After-into_patch

pub returns-clause-bounds : goal.returns-clause-bounds
returns-clause-bounds g c = patched_bounds g (goal.at.returns-clause-bounds g c).After-into_patch
