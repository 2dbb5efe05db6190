-- Spreading, worked.
use Rattle.std.specs.Prelude.{◌≡◌, ℕ, List, [], ◌∷◌, None}
use Rattle.map_nums.specs.Numbers.{greatest_value}
use Rattle.map_nums.specs.Grids.{Cells}
use Rattle.map_defs.specs.Rounds.{spread_grid}
use Rattle.map_rows.specs.Words.{some, nums, by, all}

-- the limit where none is written
abbrev pub no_limit : ℕ
no_limit = greatest_value

-- the costs along a row, from a source in its first cell
abbrev pub along : List ℕ → Cells
along friction = (spread_grid no_limit (by 1 5) (some 1 ∷ None ∷ None ∷ None ∷ None ∷ []) (nums friction)).cells

-- the costs from a first and a fourth cell
abbrev pub from_two : ℕ → Cells → Cells
from_two limit friction = (spread_grid limit (by 1 5) (some 1 ∷ None ∷ None ∷ some 1 ∷ None ∷ []) friction).cells

-- the costs over a square from its first cell
abbrev pub over : List ℕ → Cells
over friction = (spread_grid no_limit (by 3 3) (some 1 ∷ None ∷ None ∷ None ∷ None ∷ None ∷ None ∷ None ∷ None ∷ []) (nums friction)).cells

pub record SpreadRows : Type 0 where
  pub even : along (1 ∷ 1 ∷ 1 ∷ 1 ∷ 1 ∷ []) ≡ nums (0 ∷ 10 ∷ 20 ∷ 30 ∷ 40 ∷ [])
  pub risen : along (1 ∷ 1 ∷ 5 ∷ 1 ∷ 1 ∷ []) ≡ nums (0 ∷ 10 ∷ 40 ∷ 70 ∷ 80 ∷ [])
  pub twice : along (1 ∷ 2 ∷ 2 ∷ 2 ∷ 1 ∷ []) ≡ nums (0 ∷ 15 ∷ 35 ∷ 55 ∷ 70 ∷ [])
  pub barrier : from_two 20 (some 1 ∷ some 1 ∷ some 1 ∷ some 0 ∷ some 1 ∷ []) ≡ some 0 ∷ some 10 ∷ some 20 ∷ None ∷ None ∷ []
  pub short : from_two 19 (some 1 ∷ some 1 ∷ some 1 ∷ some 0 ∷ some 1 ∷ []) ≡ some 0 ∷ some 10 ∷ None ∷ None ∷ None ∷ []
  pub null_barrier : from_two 20 (some 1 ∷ some 1 ∷ some 1 ∷ None ∷ some 1 ∷ []) ≡ some 0 ∷ some 10 ∷ some 20 ∷ None ∷ None ∷ []
  pub null_short : from_two 19 (some 1 ∷ some 1 ∷ some 1 ∷ None ∷ some 1 ∷ []) ≡ some 0 ∷ some 10 ∷ None ∷ None ∷ None ∷ []
  pub two_by_two : (spread_grid no_limit (by 2 2) (some 1 ∷ None ∷ None ∷ None ∷ []) (all (by 2 2) 1)).cells ≡ nums (0 ∷ 10 ∷ 10 ∷ 14 ∷ [])
  pub around : over (1 ∷ 1 ∷ 1 ∷ 1 ∷ 5 ∷ 1 ∷ 1 ∷ 1 ∷ 1 ∷ []) ≡ nums (0 ∷ 10 ∷ 20 ∷ 10 ∷ 40 ∷ 24 ∷ 20 ∷ 24 ∷ 34 ∷ [])
  pub through : over (1 ∷ 1 ∷ 1 ∷ 1 ∷ 1 ∷ 1 ∷ 1 ∷ 1 ∷ 1 ∷ []) ≡ nums (0 ∷ 10 ∷ 20 ∷ 10 ∷ 14 ∷ 24 ∷ 20 ∷ 24 ∷ 28 ∷ [])
  pub smallest : (spread_grid no_limit (by 1 1) (some 7 ∷ []) (some 1 ∷ [])).cells ≡ some 0 ∷ []
  -- two sources, and a friction that rises between them
  pub nearest : (spread_grid no_limit (by 1 5) (some 3 ∷ None ∷ None ∷ None ∷ some 2 ∷ []) (nums (1 ∷ 5 ∷ 1 ∷ 1 ∷ 1 ∷ []))).cells ≡ nums (0 ∷ 30 ∷ 20 ∷ 10 ∷ 0 ∷ [])
