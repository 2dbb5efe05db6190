-- Sizes of grids, and those that a map may have.
use Rattle.std.specs.Prelude.{ℕ, ◌*◌, ◌/◌, ◌%◌, ◌≤◌, ◌<◌, nat_lt, nat_le, Bool, ◌&&◌}

-- the rows and columns of a grid
pub record Size : Type 0 where
  pub rows : ℕ
  pub columns : ℕ

abbrev pub cells_in : Size → ℕ
cells_in s = s.rows * s.columns

-- the row and the column of place i, where places are counted from 0 row by row
abbrev pub row_of : Size → ℕ → ℕ
row_of s i = i / s.columns

abbrev pub column_of : Size → ℕ → ℕ
column_of s i = i % s.columns

-- the most rows, and the most columns, of a map
abbrev pub longest_side : ℕ
longest_side = 4096

-- the most cells of a map
abbrev pub largest_area : ℕ
largest_area = 1500000

-- the sizes that a map may have
pub record IsSize (s : Size) : Type 0 where
  pub some_row : 0 < s.rows
  pub most_rows : s.rows ≤ longest_side
  pub some_column : 0 < s.columns
  pub most_columns : s.columns ≤ longest_side
  pub most_cells : cells_in s ≤ largest_area

-- the same, as a test
abbrev pub is_size : Size → Bool
is_size s = nat_lt 0 s.rows && nat_le s.rows longest_side && nat_lt 0 s.columns && nat_le s.columns longest_side && nat_le (cells_in s) largest_area
