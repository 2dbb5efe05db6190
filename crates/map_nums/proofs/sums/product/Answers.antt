use Rattle.std.proofs.Common.{◌≡◌, ◌+◌, suc, ◌≤◌, ℤ, ◌*ℤ◌, get_or, take, pos, negsuc, to_z, of_z, FitsSigned, unsigned_abs, rules, arith}
use Rattle.std.specs.Int.{w128}
use Rattle.std.proofs.lemmas.Int.{ints, to_z-of_z, fits_signed_mul, fits_signed_from_abs}
use Rattle.std.proofs.lemmas.List.Sums.{fold_more}
use Rattle.map_nums.specs.Widths.{value_width}
use Rattle.map_nums.specs.Stats.{product_of}
use Rattle.map_nums.proofs.Products.{IsHeld, held_times, clamped}
use Rattle.map_nums.proofs.Ranges.{most}
use Rattle.map_nums.proofs.sums.product.Goals as goal

widened : (z : ℤ) → FitsSigned value_width z → to_z w128 (of_z w128 (to_z value_width (of_z value_width z))) ≡ z
widened z f = omega (arith, ints)

magnitude : (z : ℤ) → FitsSigned value_width z → unsigned_abs z ≤ 9223372036854775808
magnitude (pos z) f = omega (arith, f.sfits)
magnitude (negsuc z) f = omega (arith, f.sfits)

pub loop-value-preserved : goal.loop-value-preserved
loop-value-preserved c =
    let xs = c.args.values.now in
    let i = c.loop-value.value-index in
    let v = get_or xs i (pos 0) in
    let p = to_z w128 c.loop-value.product-bits in
    let f : FitsSigned value_width v = search rules in
    let more : product_of (take (i + 1) xs) ≡ product_of (take i xs) *ℤ v = fold_more ◌*ℤ◌ (pos 1) xs i (pos 0) c.loop-value-test.true in
    let step : IsHeld most (product_of (take i xs) *ℤ v) (clamped most (p *ℤ v)) = held_times most (product_of (take i xs)) p v c.loop-value.invariant in
    let g : FitsSigned w128 (p *ℤ v) = fits_signed_mul w128 p v (suc most) 9223372036854775808 c.loop-value.invariant.near (magnitude v f) (omega arith) in
    let e : c.clamp-product.result ≡ clamped most (p *ℤ v) = rw (widened v f, to_z-of_z w128 (p *ℤ v) g) at c.clamp-product.ensures.value in
    let near = step.near in
    let r : FitsSigned w128 (clamped most (p *ℤ v)) = fits_signed_from_abs w128 (clamped most (p *ℤ v)) (omega (arith, near)) in
    rw (more, e, to_z-of_z w128 (clamped most (p *ℤ v)) r) step
