use Rattle.std.proofs.Common.{ℕ, arith, take, None, ◌∙◌}
use Rattle.map_nums.specs.Grids.{cell_at}
use Rattle.zonal_totals.specs.Sums.{shift}
use Rattle.std.proofs.lemmas.Int.{ints}
use Rattle.std.proofs.lemmas.List.{get_or-take}
use Rattle.zonal_totals.proofs.Sums.{row_sum, same_shift, rows_fit}
use Rattle.zonal_totals.proofs.rows.compare_zones.Goals as goal

pub compare_row-requires-clause-room : goal.compare_row-requires-clause-room
compare_row-requires-clause-room c = omega (arith, c.requires.room, c.loop-r.invariant.weight, c.row_of-new_zones.ensures.width, rows_fit c.loop-r.r c.args.height c.args.width c.loop-r-test.true)

pub loop-r-preserved : goal.loop-r-preserved
loop-r-preserved c =
    let r = c.loop-r.r in
    let w = c.args.width in
    let n = c.row_of-new_zones.ensures.width in
    let inv = c.loop-r.invariant in
    let keys = c.args.keys.now in
    record {
      net = λ p.
          let F = λ (k : ℕ). shift p (cell_at c.args.zones_before.now.cells k) (cell_at keys 0) (cell_at c.args.zones.now.cells k) (cell_at keys 0) in
          let G = λ (k : ℕ). shift p (cell_at c.row_of-old_zones.result.now k) (cell_at (take w keys) k) (cell_at c.row_of-new_zones.result.now k) (cell_at (take w keys) k) in
          let m = row_sum F G r w _ n (λ k h.
          let number = get_or-take w keys k None h ∙ c.requires.keys.one k (omega (arith, h, c.requires.most)) in
          same_shift p _ _ _ _ _ _ _ _ (c.row_of-old_zones.ensures.cells k h) number (c.row_of-new_zones.ensures.cells k h) number) in
          omega (arith, ints, inv.net p, c.in_ok-compare_row.ensures.net p, m);
      weight = omega (arith, inv.weight, c.in_ok-compare_row.ensures.weight, n);
    }
