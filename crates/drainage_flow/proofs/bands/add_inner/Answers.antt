use Rattle.std.proofs.Common.{◌≡◌, ◌+◌, ◌-◌, ◌*◌, ◌<◌, ap, arith}
use Rattle.std.proofs.lemmas.Nat.{mul-le}
use Rattle.drainage_flow.proofs.Downs.{adds_one, rows_cut, leads_on}
use Rattle.drainage_flow.proofs.bands.add_inner.Goals as goal

pub slice_bounds-below-end : goal.slice_bounds-below-end
slice_bounds-below-end c =
    let s = c.args.extent in
    let most = mul-le (c.args.row + 2) s.columns s.rows s.columns (omega arith) (omega arith) in
    omega (arith, c.requires.count, most, c.columns-columns.ensures.columns, ap (λ n. c.args.row * n) c.columns-columns.ensures.columns)

pub loop-left-preserved : goal.loop-left-preserved
loop-left-preserved c =
    let s = c.args.extent in
    let surface = c.args.surface.now in
    let row = c.args.row in
    let left = c.loop-left.left in
    let w = c.columns-columns.result in
    let e = c.columns-columns.ensures.columns in
    let at = row * s.columns + 1 + left in
    let start : row * w ≡ row * s.columns = ap (λ n. row * n) e in
    let i : at ≡ row * w + 1 + left = omega (arith, start) in
    let next : row ≡ row - 1 + 1 = omega (arith, c.requires.above) in
    let wide : left + 2 < s.columns = omega (arith, c.loop-left-test.true, e) in
    adds_one s surface (row * s.columns + 1) left c.args.downs.now.items c.loop-left.downs.items c.push.new.self.items c.inner_down.result c.loop-left.invariant
    (c.inner_down.ensures s surface at
    (rows_cut s surface (row - 1) row (row * w) left at next start i c.requires.below wide w e c.requires.count)
    (leads_on s surface (row - 1) row (row * w) left at next start i c.requires.below wide w c.steps-steps.result e c.steps-steps.ensures))
    c.in_ok-push.ensures.items
