use Rattle.std.proofs.Common.{ℕ, arith}
use Rattle.map_nums.specs.Grids.{cell_at}
use Rattle.zonal_totals.specs.Sums.{shift}
use Rattle.std.proofs.lemmas.Int.{ints}
use Rattle.zonal_totals.proofs.Sums.{row_sum, same_shift, rows_fit}
use Rattle.zonal_totals.proofs.rows.compare_values.Goals as goal

pub compare_row-requires-clause-room : goal.compare_row-requires-clause-room
compare_row-requires-clause-room c = omega (arith, c.requires.room, c.loop-r.invariant.weight, c.row_of-new_zones.ensures.width, rows_fit c.loop-r.r c.args.height c.args.width c.loop-r-test.true)

pub loop-r-preserved : goal.loop-r-preserved
loop-r-preserved c =
    let r = c.loop-r.r in
    let w = c.args.width in
    let n = c.row_of-new_zones.ensures.width in
    let inv = c.loop-r.invariant in
    record {
      net = λ p.
          let F = λ (k : ℕ). shift p (cell_at c.args.zones_before.now.cells k) (cell_at c.args.values_before.now.cells k) (cell_at c.args.zones.now.cells k) (cell_at c.args.values.now.cells k) in
          let G = λ (k : ℕ). shift p (cell_at c.row_of-old_zones.result.now k) (cell_at c.row_of-old_values.result.now k) (cell_at c.row_of-new_zones.result.now k) (cell_at c.row_of-new_values.result.now k) in
          let m = row_sum F G r w _ n (λ k h. same_shift p _ _ _ _ _ _ _ _ (c.row_of-old_zones.ensures.cells k h) (c.row_of-old_values.ensures.cells k h) (c.row_of-new_zones.ensures.cells k h) (c.row_of-new_values.ensures.cells k h)) in
          omega (arith, ints, inv.net p, c.in_ok-compare_row.ensures.net p, m);
      weight = omega (arith, inv.weight, c.in_ok-compare_row.ensures.weight, n);
    }
