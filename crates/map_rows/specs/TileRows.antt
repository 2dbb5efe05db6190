-- Tiles changed and damaged, on grids of several tiles.
use Rattle.std.specs.Prelude.{false, ◌≡◌, ℕ, pos, List, [], ◌∷◌, ◌++◌, replicate, filter, Some, None}
use Rattle.map_nums.specs.declared.Stat.TheVariants.{Sum, Product, Variety}
use Rattle.map_nums.specs.Grids.{Size, Cells}
use Rattle.map_nums.specs.Tiles.{tiles_in, tiles}
use Rattle.map_defs.specs.Ops.{Op, Term, number_term, local_op, focal_op, zonal_op}
use Rattle.map_defs.specs.Tiles.{is_in_square}
use Rattle.map_defs.specs.Damage.{op_damage, changed_tiles}
use Rattle.map_rows.specs.Words.{some, by, all}
use Rattle.map_rows.specs.Edits.{counts, at_first, at_change}

abbrev pub term : Term
term = number_term (pos 0)

-- a row of 65 zones: 1 in columns 1 to 32 but for the first, 2 in columns 33 to 64, 1 in the last
abbrev pub zones : ℕ → Cells
zones first = some first ∷ replicate 31 (some 1) ++ replicate 32 (some 2) ++ (some 1 ∷ [])

abbrev pub sum_of_ones : Op
sum_of_ones = zonal_op Sum term term

-- a row of 33 cells of 1, the last two painted
abbrev pub painted : ℕ → Cells
painted n = replicate 31 (some 1) ++ replicate 2 (some n)

abbrev pub product : Op
product = local_op Product false (term ∷ term ∷ [])

-- 33 by 33 cells of 1, but for this one in row 32 and column 32
abbrev pub all_but : ℕ → Cells
all_but n = replicate 1054 (some 1) ++ (some n ∷ replicate 34 (some 1))

-- the tiles whose squares, grown by r, hold place i
abbrev pub squares : ℕ → Size → ℕ → List ℕ
squares r s i = filter (λ t. is_in_square r s t i) (tiles s)

pub record TileRows : Type 0 where
  pub four : tiles_in (by 33 33) ≡ 4
  pub three : tiles_in (by 1 65) ≡ 3
  pub zones_first : at_first sum_of_ones (by 1 65) (all (by 1 65) 1 ∷ zones 1 ∷ []) ≡ counts 3 3 0
  pub zones_change : at_change sum_of_ones (by 1 65) (all (by 1 65) 1 ∷ zones 1 ∷ []) (all (by 1 65) 1 ∷ zones 2 ∷ []) ≡ counts 3 3 0
  -- each zone keeps its statistic
  pub zones_keep : at_change (zonal_op Variety term term) (by 1 65) (zones 1 ∷ zones 1 ∷ []) (zones 2 ∷ zones 2 ∷ []) ≡ counts 0 1 0
  pub factors : at_change product (by 1 33) (painted 1 ∷ all (by 1 33) 50000 ∷ []) (painted 40 ∷ all (by 1 33) 50000 ∷ []) ≡ counts 2 2 0
  -- the painted layer, and a sum of three by three over it
  pub corner_changed : changed_tiles (by 33 33) (Some (all_but 1)) (all_but 2) ≡ 0 ∷ []
  pub corner_damaged : op_damage (focal_op Sum None term) (by 33 33) (all_but 1 ∷ []) (all_but 2 ∷ []) (Some []) [] ≡ 0 ∷ 1 ∷ 2 ∷ 3 ∷ []
  pub over_corner : squares 1 (by 70 100) 3163 ≡ 1 ∷ 2 ∷ 5 ∷ 6 ∷ []
  pub own_tile : squares 0 (by 70 100) 3163 ≡ 1 ∷ []
  pub eight_off : squares 8 (by 70 100) 4040 ≡ 5 ∷ []
  pub nine_off : squares 9 (by 70 100) 4040 ≡ 0 ∷ 1 ∷ 4 ∷ 5 ∷ []
  pub far : squares 64 (by 70 100) 6999 ≡ 1 ∷ 2 ∷ 3 ∷ 5 ∷ 6 ∷ 7 ∷ 9 ∷ 10 ∷ 11 ∷ []
  pub last_cell : squares 1 (by 33 33) 1088 ≡ 0 ∷ 1 ∷ 2 ∷ 3 ∷ []
  pub first_short : squares 31 (by 33 33) 0 ≡ 0 ∷ []
  pub first_far : squares 32 (by 33 33) 0 ≡ 0 ∷ 1 ∷ 2 ∷ 3 ∷ []
  pub last_column : squares 1 (by 1 65) 64 ≡ 1 ∷ 2 ∷ []
