-- A line of cells before its end.
use Rattle.std.specs.Prelude.{ℕ, List, ◌++◌, codes}
use Rattle.std.specs.List.{flat_map}
use Rattle.map_nums.specs.Grids.{Cells}
use Rattle.grid_text.specs.Printed.{cell_text}

-- cells with a blank after each
abbrev pub blanked : Cells → List ℕ
blanked cells = flat_map (λ c. cell_text c ++ codes " ") cells
