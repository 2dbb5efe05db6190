use Rattle.std.proofs.Common.{◌≡◌, ◌++◌, take, ap, sym, ◌∙◌, arith, rules, FitsSigned, to_z, of_z}
use Rattle.std.proofs.lemmas.Int.{to_z-of_z}
use Rattle.map_nums.specs.Widths.{value_width}
use Rattle.focal_ops.proofs.Round.{put_some, put_none}
use Rattle.focal_ops.proofs.numbers.collect_piece.Goals as goal
use Rattle.focal_ops.proofs.numbers.collect_piece.Goals.{in-Some, in_default}

pub loop-cell-preserved : goal.loop-cell-preserved
loop-cell-preserved c = elim c.match-get.branch [
  | in-Some w ↦ (
      let fits : FitsSigned value_width w.in-Some.value = search rules in
      let same : to_z value_width (of_z value_width w.in-Some.value) ≡ w.in-Some.value = to_z-of_z value_width w.in-Some.value fits in
      rw (w.end-is, w.numbers-is, same)
      record {
        within = omega (arith, c.loop-cell.invariant.within);
        numbers = put_some c.args.piece.now c.loop-cell.cell-index c.cell-item.result w.in-Some.value (take c.args.count c.args.numbers.now) c.loop-cell.numbers c.loop-cell.end c.loop-cell-test.true c.cell-item.is (sym w.in-Some.is ∙ c.get.ensures.value) (omega (arith, c.loop-cell.invariant.within, c.requires, c.loop-cell.auto.numbers, c.loop-cell-test.true)) c.loop-cell.invariant.numbers;
      })
  | in_default w ↦
      rw (w.end-is, w.numbers-is)
      record {
        within = omega (arith, c.loop-cell.invariant.within);
        numbers = c.loop-cell.invariant.numbers ∙ ap (λ xs. take c.args.count c.args.numbers.now ++ xs) (sym (put_none c.args.piece.now c.loop-cell.cell-index c.cell-item.result c.loop-cell-test.true c.cell-item.is (sym w.in_default.is ∙ c.get.ensures.value)));
      }
]
