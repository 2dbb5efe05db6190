use Rattle.std.proofs.Common.{◌≡◌, ◌<◌, false, length, sym, ◌∙◌, arith, None}
use Rattle.std.specs.Prelude.{is_some}
use Rattle.std.proofs.lemmas.List.{length-map, get_or_default}
use Rattle.map_nums.specs.Grids.{cell_at, cells_in}
use Rattle.region_labels.proofs.Running.{run_more}
use Rattle.region_labels.proofs.first.reach_run.Goals as goal

pub loop-j-preserved : goal.loop-j-preserved
loop-j-preserved c =
    let s = c.args.list.now.size in
    let old = c.args.list.now in
    let l = c.loop-j.list in
    let j = c.loop-j.j in
    let full : length l.labels ≡ cells_in s = sym (length-map l.labels is_some) ∙ (c.loop-j.invariant.grown c.args.at (omega arith, omega arith)).size ∙ length-map old.labels is_some ∙ c.extent-size.ensures.count in
    let within : j < cells_in s = omega (arith, c.loop-j-test.true, c.requires.within) in
    let none : is_some (cell_at l.labels j) ≡ false = sym c.has.ensures ∙ c.if-has.false in
    let same : cell_at c.args.cells.now j ≡ c.args.value = sym (c.index-cells-j.is ∙ get_or_default c.args.cells.now j c.index-cells-j.result None (omega (arith, within, c.requires.count))) ∙ c.same.ensures.0 c.if-not-same.false in
    run_more s c.args.cells.now c.args.value c.args.label c.args.at j old l c.add.new.self c.extent-size.ensures.size c.requires.label c.loop-j.auto.j (omega (arith, c.loop-j-test.true, c.requires.row)) within full none same c.in_ok-add.ensures.ok c.loop-j.invariant
