-- Regions, worked.
use Rattle.std.specs.Prelude.{◌≡◌, [], ◌∷◌, None}
use Rattle.map_nums.specs.Grids.{Cells}
use Rattle.map_defs.specs.Rounds.{region_grid}
use Rattle.map_rows.specs.Words.{some, nums, by}

abbrev pub along : Cells → Cells
along cells = (region_grid (by 1 5) cells).cells

pub record RegionRows : Type 0 where
  pub whole : along (nums (7 ∷ 7 ∷ 7 ∷ 7 ∷ 7 ∷ [])) ≡ nums (1 ∷ 1 ∷ 1 ∷ 1 ∷ 1 ∷ [])
  pub split : along (nums (7 ∷ 7 ∷ 8 ∷ 7 ∷ 7 ∷ [])) ≡ nums (1 ∷ 1 ∷ 3 ∷ 4 ∷ 4 ∷ [])
  pub nulls : along (some 7 ∷ None ∷ None ∷ some 7 ∷ some 7 ∷ []) ≡ some 1 ∷ None ∷ None ∷ some 4 ∷ some 4 ∷ []
  -- joined over corners, the last cell too
  pub corners : (region_grid (by 3 3) (nums (1 ∷ 2 ∷ 1 ∷ 2 ∷ 1 ∷ 2 ∷ 2 ∷ 2 ∷ 1 ∷ []))).cells ≡ nums (1 ∷ 2 ∷ 1 ∷ 2 ∷ 1 ∷ 2 ∷ 2 ∷ 2 ∷ 1 ∷ [])
  pub smallest : (region_grid (by 1 1) (some 7 ∷ [])).cells ≡ some 1 ∷ []
