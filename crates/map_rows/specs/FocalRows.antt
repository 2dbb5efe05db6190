-- Focal operations, worked.
use Rattle.std.specs.Prelude.{◌≡◌, ℕ, [], ◌∷◌, ◌++◌, replicate, Some, None}
use Rattle.map_nums.specs.declared.Stat.TheVariants.{Sum, Majority}
use Rattle.map_nums.specs.Grids.{Cells}
use Rattle.map_defs.specs.Focal.{focal_at, focal_grid, offsets_of}
use Rattle.map_rows.specs.Words.{some, less, nums, by}

-- 33 by 33 cells of 1, but for this one in row 32 and column 32
abbrev pub all_but : ℕ → Cells
all_but n = replicate 1054 (some 1) ++ (some n ∷ replicate 34 (some 1))

pub record FocalRows : Type 0 where
  pub smallest : (focal_grid Sum (offsets_of None) (by 1 1) (some 7 ∷ [])).cells ≡ some 7 ∷ []
  pub null : (focal_grid Sum (offsets_of None) (by 1 1) (None ∷ [])).cells ≡ None ∷ []
  pub majority : (focal_grid Majority (offsets_of None) (by 1 3) (less 3 ∷ less 4 ∷ some 5 ∷ [])).cells ≡ less 4 ∷ less 4 ∷ less 4 ∷ []
  pub square : (focal_grid Sum (offsets_of None) (by 3 3) (nums (1 ∷ 2 ∷ 3 ∷ 4 ∷ 5 ∷ 6 ∷ 7 ∷ 8 ∷ 9 ∷ []))).cells ≡ nums (12 ∷ 21 ∷ 16 ∷ 27 ∷ 45 ∷ 33 ∷ 24 ∷ 39 ∷ 28 ∷ [])
  pub disc : (focal_grid Sum (offsets_of (Some 1)) (by 3 3) (nums (1 ∷ 2 ∷ 3 ∷ 4 ∷ 5 ∷ 6 ∷ 7 ∷ 8 ∷ 9 ∷ []))).cells ≡ nums (7 ∷ 11 ∷ 11 ∷ 17 ∷ 25 ∷ 23 ∷ 19 ∷ 29 ∷ 23 ∷ [])
  -- over the corner of four tiles
  pub corner : focal_at Sum (offsets_of None) (by 33 33) (all_but 2) 1088 ≡ some 5
  pub first : focal_at Sum (offsets_of None) (by 33 33) (all_but 2) 0 ≡ some 4
