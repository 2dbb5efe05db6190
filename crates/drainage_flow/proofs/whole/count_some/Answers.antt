use Rattle.std.proofs.Common.{◌≡◌, ◌∙◌, ap, arith, ℕ, ℤ, Option, cond}
use Rattle.std.specs.Prelude.{is_some}
use Rattle.map_nums.specs.Grids.{cell_at}
use Rattle.drainage_flow.proofs.Around.{read}
use Rattle.drainage_flow.proofs.Ends.{one_most, count_next}
use Rattle.drainage_flow.proofs.whole.count_some.Goals as goal

pub loop-k-preserved : goal.loop-k-preserved
loop-k-preserved c =
    let cells = c.args.cells.now in
    let k = c.loop-k.k in
    let one : c.one_if-count.result ≡ cond (is_some (cell_at cells k)) 1 0 = c.one_if-count.ensures ∙ ap (λ (o : Option ℤ). let v : ℕ = cond (is_some o) 1 0 in v) (read cells k c.index-cells-k.result c.index-cells-k.is c.loop-k-test.true) in
    record {
      few = omega (arith, c.loop-k.invariant.few, one_most c.one_if-count.result (is_some (cell_at cells k)) one);
      counted = count_next (λ i. is_some (cell_at cells i)) k c.loop-k.count c.one_if-count.result c.loop-k.invariant.counted one;
    }
