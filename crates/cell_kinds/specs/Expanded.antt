-- Runs that are kept as cells with counts, and the cells that they stand for.
use Rattle.std.specs.Prelude.{◌≡◌, ◌<◌, List, replicate}
use Rattle.std.specs.List.{All, flat_map}
use Rattle.map_nums.specs.Grids.{Cells}
use Rattle.cell_kinds.specs.declared.kinds.Run.{Run}

-- the cells of runs, one run after another
abbrev pub expanded : List Run → Cells
expanded runs = flat_map (λ r. replicate r.count r.cell) runs

-- no run is empty
abbrev pub AreFilled : List Run → Type 0
AreFilled runs = All (λ r. 0 < r.count) runs

-- runs of these cells, none of them empty
pub record AreRuns (runs : List Run) (cells : Cells) : Type 0 where
  pub filled : AreFilled runs
  pub expands : expanded runs ≡ cells
