-- Nearest sources, worked.
use Rattle.std.specs.Prelude.{◌≡◌, ℕ, List, [], ◌∷◌, None}
use Rattle.map_nums.specs.Numbers.{greatest_value}
use Rattle.map_nums.specs.Grids.{Cells}
use Rattle.map_defs.specs.Nearest.{nearest_grid}
use Rattle.map_rows.specs.Words.{some, less, nums, by, all}

-- sources at both ends of a row
abbrev pub two_ends : Cells
two_ends = some 3 ∷ None ∷ None ∷ None ∷ some 2 ∷ []

abbrev pub along : Cells → List ℕ → Cells
along sources friction = (nearest_grid greatest_value (by 1 5) sources (nums friction)).cells

pub record NearestRows : Type 0 where
  -- the place in the middle costs the same from both ends, and the lesser number stands
  pub even : along two_ends (1 ∷ 1 ∷ 1 ∷ 1 ∷ 1 ∷ []) ≡ nums (3 ∷ 3 ∷ 2 ∷ 2 ∷ 2 ∷ [])
  pub second_risen : along two_ends (1 ∷ 5 ∷ 1 ∷ 1 ∷ 1 ∷ []) ≡ nums (3 ∷ 3 ∷ 2 ∷ 2 ∷ 2 ∷ [])
  pub fourth_too : along two_ends (1 ∷ 5 ∷ 1 ∷ 5 ∷ 1 ∷ []) ≡ nums (3 ∷ 3 ∷ 2 ∷ 2 ∷ 2 ∷ [])
  pub one_end : along (some 3 ∷ None ∷ None ∷ None ∷ None ∷ []) (1 ∷ 5 ∷ 1 ∷ 5 ∷ 1 ∷ []) ≡ nums (3 ∷ 3 ∷ 3 ∷ 3 ∷ 3 ∷ [])
  -- a source keeps its own number beside a lesser one, a negative number is less than none, and a barrier is no source
  pub sources : along (some 3 ∷ some 0 ∷ None ∷ less 1 ∷ some 2 ∷ []) (1 ∷ 1 ∷ 1 ∷ 1 ∷ 0 ∷ []) ≡ some 3 ∷ some 0 ∷ less 1 ∷ less 1 ∷ None ∷ []
  pub limited : (nearest_grid 9 (by 1 5) two_ends (nums (1 ∷ 1 ∷ 1 ∷ 1 ∷ 1 ∷ []))).cells ≡ some 3 ∷ None ∷ None ∷ None ∷ some 2 ∷ []
  -- a step across corners costs more than one along a side
  pub square : (nearest_grid greatest_value (by 2 2) (some 4 ∷ None ∷ some 6 ∷ None ∷ []) (all (by 2 2) 1)).cells ≡ nums (4 ∷ 4 ∷ 6 ∷ 6 ∷ [])
