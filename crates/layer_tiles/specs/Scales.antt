-- The number that an extent keeps so that a cell's row is found by a product, without a division.
use Rattle.std.specs.Prelude.{ℕ, ◌+◌, ◌/◌}
use Rattle.map_nums.specs.Grids.{Size}

-- a power of two that is above the product of any row's length with any place
abbrev pub scaled_one : ℕ
scaled_one = 8589934592

-- the scale of a row; a word of its own, so that proofs above need not read the division in it
unfoldable pub scale_of : Size → ℕ
scale_of s = scaled_one / s.columns + 1
