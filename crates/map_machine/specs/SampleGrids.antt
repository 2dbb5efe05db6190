-- The four made-up grids of the sample, of N rows and N columns.
use Rattle.std.specs.Prelude.{ℕ, suc, ◌+◌, ◌-◌, ◌*◌, ◌/◌, ◌%◌, ℤ, pos, false, ◌==◌, ◌&&◌, List, [], ◌∷◌, Option, Some, None, codes, if◌then◌else◌}
use Rattle.map_nums.specs.Grids.{Size, Grid, grid_by, row_of, column_of}
use Rattle.grid_text.specs.declared.Header.{Header}

-- the cells by row and column, which count from 1
abbrev pub by_place : ℕ → (ℕ → ℕ → Option ℤ) → Grid
by_place n cell = by_size (record { rows = n; columns = n })
  where
    by_size : Size → Grid
    by_size s = grid_by s (λ i. cell (suc (row_of s i)) (suc (column_of s i)))

abbrev pub height : ℕ → ℕ → Option ℤ
height r c = Some (pos ((7 * r * r + 11 * c * c + 3 * r * c) % 1000))

abbrev pub friction : ℕ → ℕ → Option ℤ
friction r c = Some (pos (1 + (5 * r + 3 * c) % 9))

abbrev pub start : ℕ → ℕ → Option ℤ
start r c = if ((r - 1) % 100 == 0) && ((c - 1) % 100 == 0) then Some (pos 1) else None

abbrev pub zone : ℕ → ℕ → Option ℤ
zone r c = Some (pos (1 + 16 * ((r - 1) / 128) + (c - 1) / 128))

pub record NamedGrid : Type 0 where
  pub name : List ℕ
  pub grid : Grid

-- in the order of their loads
abbrev pub sample_grids : ℕ → List NamedGrid
sample_grids n =
    record { name = codes "H"; grid = by_place n height }
    ∷ record { name = codes "F"; grid = by_place n friction }
    ∷ record { name = codes "S"; grid = by_place n start }
    ∷ record { name = codes "Z"; grid = by_place n zone } ∷ []

abbrev pub sample_header : Header
sample_header = record { x = record { center = false; text = codes "0" }; y = record { center = false; text = codes "0" }; size = codes "1" }
