-- Local operations, worked.
use Rattle.std.specs.Prelude.{true, false, ◌≡◌, ℕ, pos, List, [], ◌∷◌, None}
use Rattle.map_nums.specs.declared.Stat.TheVariants.{Sum, Product, Maximum, Minimum, Mean, Median, Variety}
use Rattle.map_nums.specs.declared.Rate.{Rate}
use Rattle.map_nums.specs.Grids.{Cells}
use Rattle.map_defs.specs.Local.{LocalOp, of_stat, difference, ratio, rating, local_grid}
use Rattle.map_rows.specs.Words.{some, less, nums, by, all}

abbrev pub nine : Cells
nine = nums (1 ∷ 2 ∷ 3 ∷ 4 ∷ 5 ∷ 6 ∷ 7 ∷ 8 ∷ 9 ∷ [])

abbrev pub ties : Cells
ties = less 3 ∷ less 4 ∷ some 5 ∷ []

-- of three cells in a row
abbrev pub of_three : LocalOp → List Cells → Cells
of_three op operands = (local_grid (by 1 3) op operands).cells

abbrev pub with_three : ℕ → Cells
with_three n = all (by 1 3) n

-- two operands, null at one place each
abbrev pub gaps : List Cells
gaps = (some 1 ∷ None ∷ some 3 ∷ []) ∷ (some 5 ∷ some 7 ∷ None ∷ []) ∷ []

-- 9 for 1 to 3, null for 5
abbrev pub rates : List Rate
rates = record { low = pos 1; high = pos 3; give = some 9 } ∷ record { low = pos 5; high = pos 5; give = None } ∷ []

pub record LocalRows : Type 0 where
  pub sum : (local_grid (by 3 3) (of_stat Sum false) (nine ∷ all (by 3 3) 3 ∷ [])).cells ≡ nums (4 ∷ 5 ∷ 6 ∷ 7 ∷ 8 ∷ 9 ∷ 10 ∷ 11 ∷ 12 ∷ [])
  pub maximum : (local_grid (by 3 3) (of_stat Maximum false) (nine ∷ all (by 3 3) 9 ∷ [])).cells ≡ all (by 3 3) 9
  pub minimum : (local_grid (by 2 3) (of_stat Minimum false) ((some 1 ∷ some 1 ∷ some 2 ∷ None ∷ some 12 ∷ less 5 ∷ []) ∷ all (by 2 3) 1 ∷ [])).cells ≡ some 1 ∷ some 1 ∷ some 1 ∷ None ∷ some 1 ∷ less 5 ∷ []
  pub variety : (local_grid (by 1 1) (of_stat Variety false) ((some 7 ∷ []) ∷ (some 7 ∷ []) ∷ [])).cells ≡ some 1 ∷ []
  pub mean : of_three (of_stat Mean false) (ties ∷ (less 4 ∷ less 4 ∷ less 4 ∷ []) ∷ []) ≡ less 4 ∷ less 4 ∷ some 0 ∷ []
  pub halves : of_three ratio (ties ∷ with_three 2 ∷ []) ≡ less 2 ∷ less 2 ∷ some 2 ∷ []
  pub by_nought : of_three ratio (ties ∷ with_three 0 ∷ []) ≡ None ∷ None ∷ None ∷ []
  -- floors of -3, -4 and 5 over -2
  pub by_less : of_three ratio (ties ∷ (less 2 ∷ less 2 ∷ less 2 ∷ []) ∷ []) ≡ some 1 ∷ some 2 ∷ less 3 ∷ []
  pub lower_median : of_three (of_stat Median false) (ties ∷ with_three 0 ∷ []) ≡ less 3 ∷ less 4 ∷ some 0 ∷ []
  pub taken_away : of_three difference (ties ∷ with_three 2 ∷ []) ≡ less 5 ∷ less 6 ∷ some 3 ∷ []
  pub nulls : of_three (of_stat Sum false) gaps ≡ some 6 ∷ None ∷ None ∷ []
  pub ignored : of_three (of_stat Sum true) gaps ≡ some 6 ∷ some 7 ∷ some 3 ∷ []
  -- where one operand has a number, the mean is that number, and the variety is 1
  pub ignored_means : of_three (of_stat Mean true) gaps ≡ some 3 ∷ some 7 ∷ some 3 ∷ []
  pub ignored_varieties : of_three (of_stat Variety true) gaps ≡ some 2 ∷ some 1 ∷ some 1 ∷ []
  pub ignored_maxima : of_three (of_stat Maximum true) gaps ≡ some 5 ∷ some 7 ∷ some 3 ∷ []
  -- a product of no number is null
  pub no_numbers : of_three (of_stat Product true) ((None ∷ None ∷ some 3 ∷ []) ∷ (None ∷ some 7 ∷ None ∷ []) ∷ (None ∷ some 2 ∷ None ∷ []) ∷ []) ≡ None ∷ some 14 ∷ some 3 ∷ []
  pub rated : (local_grid (by 3 3) (rating rates) (nine ∷ [])).cells ≡ some 9 ∷ some 9 ∷ some 9 ∷ some 4 ∷ None ∷ some 6 ∷ some 7 ∷ some 8 ∷ some 9 ∷ []
  -- a product past the range of a cell is still the product
  pub products : of_three (of_stat Product false) (nums (1 ∷ 40 ∷ 41 ∷ []) ∷ with_three 50000 ∷ with_three 500000000 ∷ []) ≡ nums (25000000000000 ∷ 1000000000000000 ∷ 1025000000000000 ∷ [])
