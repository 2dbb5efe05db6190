-- Zonal operations, worked.
use Rattle.std.specs.Prelude.{◌≡◌, ℕ, ℤ, [], ◌∷◌, ◌++◌, replicate, Option, None}
use Rattle.map_nums.specs.declared.Stat.TheVariants.{Sum, Mean, Variety}
use Rattle.map_nums.specs.Grids.{Cells}
use Rattle.map_defs.specs.Zonal.{zonal_at, zonal_grid}
use Rattle.map_rows.specs.Words.{some, nums, by, all}

-- a row of 65 zones: 1 in columns 1 to 32 but for the first, 2 in columns 33 to 64, 1 in the last
abbrev pub zones : ℕ → Cells
zones first = some first ∷ replicate 31 (some 1) ++ replicate 32 (some 2) ++ (some 1 ∷ [])

-- the count of a zone's cells at a column
abbrev pub count_at : ℕ → ℕ → Option ℤ
count_at first column = zonal_at Sum (by 1 65) (all (by 1 65) 1) (zones first) column

abbrev pub gaps : Cells
gaps = some 2 ∷ None ∷ some 4 ∷ None ∷ []

pub record ZonalRows : Type 0 where
  pub smallest : (zonal_grid Sum (by 1 1) (some 7 ∷ []) (some 7 ∷ [])).cells ≡ some 7 ∷ []
  pub before_first : count_at 1 0 ≡ some 33
  pub before_last : count_at 1 64 ≡ some 33
  pub before_middle : count_at 1 39 ≡ some 32
  -- the first cell changes its zone
  pub after_first : count_at 2 0 ≡ some 33
  pub after_second : count_at 2 1 ≡ some 32
  pub after_middle : count_at 2 39 ≡ some 33
  pub after_last : count_at 2 64 ≡ some 32
  pub mean_of_all : (zonal_grid Mean (by 1 4) gaps (all (by 1 4) 1)).cells ≡ nums (3 ∷ 3 ∷ 3 ∷ 3 ∷ [])
  pub mean_of_own : (zonal_grid Mean (by 1 4) gaps gaps).cells ≡ gaps
  pub variety : zonal_at Variety (by 1 65) (zones 2) (zones 2) 0 ≡ some 1
  -- a zone with no number
  pub nothing : (zonal_grid Sum (by 1 2) (None ∷ None ∷ []) (nums (1 ∷ 1 ∷ []))).cells ≡ None ∷ None ∷ []
