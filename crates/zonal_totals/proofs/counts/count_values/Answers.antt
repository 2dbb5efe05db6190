use Rattle.std.proofs.Common.{ℕ, arith}
use Rattle.std.proofs.lemmas.Int.{ints}
use Rattle.map_nums.specs.Grids.{cell_at}
use Rattle.zonal_totals.specs.Sums.{held, pair_at}
use Rattle.zonal_totals.proofs.Sums.{row_sum, rows_fit}
use Rattle.zonal_totals.proofs.Ranging.{same_held}
use Rattle.zonal_totals.proofs.counts.count_values.Goals as goal

pub count_row-requires-clause-room : goal.count_row-requires-clause-room
count_row-requires-clause-room c = omega (arith, c.requires.room, c.loop-r.invariant.weight, c.row_of-row.ensures.width, rows_fit c.loop-r.r c.args.height c.args.width c.loop-r-test.true)

pub loop-r-preserved : goal.loop-r-preserved
loop-r-preserved c =
    let n = c.row_of-row.ensures.width in
    let inv = c.loop-r.invariant in
    record {
      net = λ p.
          let F = λ (k : ℕ). held p (pair_at (cell_at c.args.zones.now.cells k) (cell_at c.args.values.now.cells k)) in
          let G = λ (k : ℕ). held p (pair_at (cell_at c.row_of-row.result.now k) (cell_at c.row_of-keys.result.now k)) in
          let m = row_sum F G c.loop-r.r c.args.width _ n (λ k h. same_held p _ _ _ _ (c.row_of-row.ensures.cells k h) (c.row_of-keys.ensures.cells k h)) in
          omega (arith, ints, inv.net p, c.in_ok-count_row.ensures.net p, m);
      weight = omega (arith, inv.weight, c.in_ok-count_row.ensures.weight, n);
    }
