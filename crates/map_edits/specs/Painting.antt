-- A painted rectangle.
use Rattle.std.specs.Prelude.{ℕ, ℤ, suc, nat_le, Bool, ◌&&◌, Option, if◌then◌else◌}
use Rattle.map_nums.specs.Grids.{Size, Grid, cell_at, grid_by, row_of, column_of}
use Rattle.map_edits.specs.EditForms.{Rectangle}

abbrev pub is_within : Size → Rectangle → Bool
is_within s r = nat_le r.top r.bottom && nat_le r.left r.right && nat_le r.bottom s.rows && nat_le r.right s.columns

-- place i lies in the rectangle
abbrev pub holds : Size → Rectangle → ℕ → Bool
holds s r i = nat_le r.top (suc (row_of s i)) && nat_le (suc (row_of s i)) r.bottom && nat_le r.left (suc (column_of s i)) && nat_le (suc (column_of s i)) r.right

abbrev pub painted : Size → Rectangle → Option ℤ → Grid → Grid
painted s r cell grid = grid_by s (λ i. if holds s r i then cell else cell_at grid.cells i)
