use Rattle.std.proofs.Common.{◌≡◌, ◌≤◌, ◌∙◌, ap, subst, sym, rules, List, length, map}
use Rattle.std.specs.Ordering.{int_cmp, is_lt}
use Rattle.std.specs.Cmp.{int_cmp_total}
use Rattle.std.proofs.lemmas.Result.{IfOk-weaker}
use Rattle.std.proofs.lemmas.List.Sorted.{ranks_by, answers_always}
use Rattle.map_nums.specs.Grids.{largest_area}
use Rattle.map_defs.specs.Cells.{same_cell}
use Rattle.layer_tiles.specs.Cells.{word_of}
use Rattle.cell_kinds.specs.declared.kinds.Run.{Run}
use Rattle.cell_kinds.specs.Counted.{kind_from, counted_kinds}
use Rattle.cell_kinds.specs.Runs.{runs_of}
use Rattle.cell_kinds.specs.Expanded.{expanded, AreFilled}
use Rattle.cell_kinds.proofs.Expanded.{sorted_filled, sorted_few, sorted_runs}
use Rattle.layer_tiles.proofs.RowLooks.{rows_rise}
use Rattle.cell_kinds.proofs.kinds.kinds_of.Goals as goal

pub joined-requires-clause-filled : goal.joined-requires-clause-filled
joined-requires-clause-filled g c =
    subst AreFilled (sym c.deref.ensures.value) (sorted_filled c.args.layer.now.cells c.in_ok-runs.runs.items c.sort_unstable_by.new.self.items c.in_ok-runs.ensures.runs c.sort_unstable_by.ensures.permutation)

pub joined-requires-clause-few : goal.joined-requires-clause-few
joined-requires-clause-few g c =
    let layer = c.in_ok-runs.ensures.layer in
    subst (λ (runs : List Run). length (expanded runs) ≤ largest_area) (sym c.deref.ensures.value)
    (sorted_few c.args.layer.now.cells c.in_ok-runs.runs.items c.sort_unstable_by.new.self.items c.in_ok-runs.ensures.runs c.sort_unstable_by.ensures.permutation c.args.layer.now.size layer.size layer.cells)

pub returns-clause-kinds : goal.returns-clause-kinds
returns-clause-kinds g c =
    let cells = c.args.layer.now.cells in
    let sorted = c.sort_unstable_by.ensures.sorted (λ (a b : Run). is_lt (int_cmp (word_of a.cell) (word_of b.cell))) (ranks_by int_cmp_total (λ (r : Run). word_of r.cell)) (answers_always _ _ _ (λ f a r f' q. search rules)) in
    let same : map kind_from (runs_of same_cell (expanded c.deref.result.now)) ≡ counted_kinds cells =
    ap (λ (runs : List Run). map kind_from (runs_of same_cell (expanded runs))) c.deref.ensures.value
    ∙ sorted_runs cells c.in_ok-runs.runs.items c.sort_unstable_by.new.self.items c.in_ok-runs.ensures.runs c.sort_unstable_by.ensures.permutation c.in_ok-runs.ensures.layer.are_cells sorted in
    IfOk-weaker c.joined.result _ _ (λ v e. e ∙ same) c.joined.ensures

pub returns-in_err-runs-clause-looks : goal.returns-in_err-runs-clause-looks
returns-in_err-runs-clause-looks g c = rows_rise c.args.layer.now.size _ _ c.all_runs.ensures.looks

pub returns-clause-looks : goal.returns-clause-looks
returns-clause-looks g c = rows_rise c.args.layer.now.size _ _ c.all_runs.ensures.looks
