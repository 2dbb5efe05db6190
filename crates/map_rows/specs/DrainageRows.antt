-- Drainage and flow, worked.
use Rattle.std.specs.Prelude.{◌≡◌, [], ◌∷◌, None}
use Rattle.map_nums.specs.Grids.{Cells}
use Rattle.map_defs.specs.Drainage.{direction_grid}
use Rattle.map_defs.specs.Flow.{flow_grid, course_of}
use Rattle.map_rows.specs.Words.{some, nums, by, all}

abbrev pub basin : Cells
basin = nums (9 ∷ 4 ∷ 9 ∷ 9 ∷ 5 ∷ 4 ∷ 9 ∷ 9 ∷ 9 ∷ [])

-- the middle raised to 9
abbrev pub filled : Cells
filled = nums (9 ∷ 4 ∷ 9 ∷ 9 ∷ 9 ∷ 4 ∷ 9 ∷ 9 ∷ 9 ∷ [])

abbrev pub directions : Cells → Cells
directions surface = (direction_grid (by 3 3) surface).cells

-- each cell has the weight 1
abbrev pub flows : Cells → Cells
flows surface = (flow_grid (by 3 3) surface (all (by 3 3) 1)).cells

pub record DrainageRows : Type 0 where
  pub down : directions basin ≡ nums (3 ∷ 0 ∷ 5 ∷ 3 ∷ 1 ∷ 0 ∷ 2 ∷ 1 ∷ 1 ∷ [])
  pub gathered : flows basin ≡ nums (1 ∷ 6 ∷ 1 ∷ 1 ∷ 4 ∷ 3 ∷ 1 ∷ 1 ∷ 1 ∷ [])
  pub course : course_of (by 3 3) basin 6 ≡ 6 ∷ 4 ∷ 1 ∷ []
  pub down_filled : directions filled ≡ nums (3 ∷ 0 ∷ 5 ∷ 2 ∷ 1 ∷ 0 ∷ 0 ∷ 2 ∷ 1 ∷ [])
  pub gathered_filled : flows filled ≡ nums (1 ∷ 4 ∷ 1 ∷ 1 ∷ 1 ∷ 4 ∷ 1 ∷ 1 ∷ 1 ∷ [])
  pub plain_down : directions (all (by 3 3) 5) ≡ all (by 3 3) 0
  pub plain_gathered : flows (all (by 3 3) 5) ≡ all (by 3 3) 1
  pub smallest_down : (direction_grid (by 1 1) (some 7 ∷ [])).cells ≡ some 0 ∷ []
  pub smallest_gathered : (flow_grid (by 1 1) (some 7 ∷ []) (some 1 ∷ [])).cells ≡ some 1 ∷ []
  pub null_surface : (flow_grid (by 1 2) (some 7 ∷ None ∷ []) (some 1 ∷ some 1 ∷ [])).cells ≡ some 1 ∷ None ∷ []
  pub null_weight : (flow_grid (by 1 2) (some 7 ∷ some 5 ∷ []) (None ∷ some 1 ∷ [])).cells ≡ some 0 ∷ some 1 ∷ []
