-- A quotient without a division: a product with a scale, then the division by a power of two.
use Rattle.std.proofs.Common.{◌≡◌, ℕ, ◌+◌, ◌-◌, ◌*◌, ◌/◌, ◌%◌, ◌<◌, ◌≤◌, sym, ◌∙◌, ap, arith}
use Rattle.std.proofs.Math.Nat.{mul-le-mul_right, div-le_self, lt_of_mul-lt-mul_left}
use Rattle.std.proofs.lemmas.Nat.{div-mul-add, mod_below, div_below, div-add-mod', mul-lt}
use Rattle.map_nums.specs.Grids.{Size, IsSize, cells_in, row_of}
use Rattle.layer_tiles.specs.Scales.{scaled_one, scale_of}

-- n has the quotient q and the rest r by c, and the scale m is a little more than w by c
module _ (w n c q r m e : ℕ) (whole : q * c + r ≡ n) (rest : r < c) (scale : c * m ≡ w + e) (little : e ≤ c) (few : c * n < w) where
  product_is : n * m ≡ q * w + (q * e + r * m)
  product_is = ap (λ x. x * m) (sym whole) ∙ omega (arith, ap (λ x. q * x) scale)

  rest_is : c * (q * e + r * m) ≡ e * n + r * w
  rest_is = omega (arith, ap (λ x. x * e) whole, ap (λ x. r * x) scale)

  rest_below : q * e + r * m < w
  rest_below =
      let above : e * n ≤ c * n = mul-le-mul_right n little in
      let next : (r + 1) * w ≤ c * w = mul-le-mul_right w (omega (arith, rest)) in
      lt_of_mul-lt-mul_left c (omega (arith, rest_is, above, next, few))

  pub scaled : n * m / w ≡ q
  scaled = ap (λ x. x / w) product_is ∙ div-mul-add q w (q * e + r * m) rest_below

-- w by the divisor, rounded down, and one more, serves for each number that is small beside w
pub quotient_by_product : (w n c : ℕ) → 0 < c → c * n < w → n * (w / c + 1) / w ≡ n / c
quotient_by_product w n c some few =
    let below = mod_below w c some in
    scaled w n c (n / c) (n % c) (w / c + 1) (c - w % c) (div-add-mod' n c) (mod_below n c some) (omega (arith, div-add-mod' w c, below)) (omega arith) few

scale_most : (s : Size) → scale_of s ≤ 8589934593
unfolding scale_of
scale_most s = omega (arith, div-le_self scaled_one s.columns)

-- the product fits a word
pub product_fits : (s : Size) (at : ℕ) → IsSize s → at < cells_in s → at * scale_of s < 18446744073709551616
product_fits s at h l = omega (arith, mul-lt at (scale_of s) 1500000 8589934594 (omega (arith, l, h.most_cells)) (omega (arith, scale_most s)))

-- the row of a cell by a product, and the numbers on the way to it fit
pub record IsRow (s : Size) (at n m : ℕ) : Type 0 where
  pub product : n * m < 18446744073709551616
  pub is : n * m / scaled_one ≡ row_of s at
  pub within : n * m / scaled_one < s.rows
  pub small : n * m / scaled_one < 4096

-- where t is the map's size and m is its scale
pub row_by_scale : (s t : Size) (at n m : ℕ) → t ≡ s → IsSize t → m ≡ scale_of t → n ≡ at → at < cells_in s → IsRow s at n m
unfolding scale_of
row_by_scale s t at n m e h scale same l =
    let few = mul-lt t.columns at 4097 1500000 (omega (arith, h.most_columns)) (omega (arith, h.most_cells, l, ap (λ u. cells_in u) e)) in
    let fits : n * m < 18446744073709551616 = rw (scale, same) (product_fits t at h (omega (arith, l, ap (λ u. cells_in u) e))) in
    let by : n * m / scaled_one ≡ at / s.columns = rw (scale, same, ← e) (quotient_by_product scaled_one at t.columns h.some_column (omega (arith, few))) in
    let below : at / s.columns < s.rows = div_below at s.columns s.rows (rw (← e) h.some_column) l in
    record { product = fits; is = by; within = rw (by) below; small = rw (by) (omega (arith, below, h.most_rows, ap (λ (u : Size). u.rows) e)) }
