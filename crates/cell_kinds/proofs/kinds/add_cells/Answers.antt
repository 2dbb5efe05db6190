use Rattle.std.proofs.Common.{◌≡◌, ◌+◌, List, [], ◌∷◌, ◌++◌, take, ap, subst, sym, ◌∙◌, arith, ℤ, Option}
use Rattle.map_nums.specs.Grids.{Cells}
use Rattle.cell_kinds.specs.declared.kinds.Run.{Run}
use Rattle.cell_kinds.specs.Expanded.{expanded, AreRuns}
use Rattle.cell_kinds.proofs.Expanded.{run_more, run_longer, cells_more}
use Rattle.cell_kinds.proofs.kinds.add_cells.Goals as goal
use Rattle.cell_kinds.proofs.kinds.add_cells.Goals.{then-same, else-same+in_ok-push}

pub loop-cell-preserved : goal.loop-cell-preserved
loop-cell-preserved c =
    let start = expanded c.args.runs.now.items in
    let cells = c.args.cells.now in
    let i = c.loop-cell.cell-index in
    let runs = c.loop-cell.runs.items in
    let run = c.loop-cell.run in
    let cell = c.cell-item.result in
    let further : (start ++ take (i + 1) cells) ++ cell ∷ [] ≡ start ++ take (i + 1 + 1) cells = cells_more start cells c.in-Some.rest.now c.in-Some.first.now cell cell i c.in-Some.ensures.cases.0 c.loop-cell-test.true c.cell-item.is in
    elim c.if-same.branch [
      | then-same w ↦
          rw (w.runs-is, w.run-is)
          record {
            runs = subst (λ (cs : Cells). AreRuns (runs ++ record { cell = run.cell; count = run.count + 1 } ∷ []) cs) (ap (λ (x : Option ℤ). (start ++ take (i + 1) cells) ++ x ∷ []) (sym (c.same.ensures.0 w.if-same.true)) ∙ further) (run_longer runs run (start ++ take (i + 1) cells) c.loop-cell.invariant.runs);
            few = omega arith;
          }
      | else-same+in_ok-push w ↦
          rw (w.runs-is, w.run-is)
          record {
            runs = subst (λ (cs : Cells). AreRuns (w.push.new.self.items ++ record { cell = cell; count = 1 } ∷ []) cs) further (run_more w.push.new.self.items (start ++ take (i + 1) cells) cell (subst (λ (rs : List Run). AreRuns rs (start ++ take (i + 1) cells)) (sym w.in_ok-push.ensures.items) c.loop-cell.invariant.runs));
            few = omega arith;
          }
    ]
