-- What is printed reads back.
use Rattle.std.specs.Prelude.{◌≡◌, ℕ, List, length, Ok}
use Rattle.map_nums.specs.Grids.{Size, IsSize, Cells, cells_in}
use Rattle.layer_tiles.specs.Cells.{AreCells}
use Rattle.grid_text.specs.Contents.{grid_in}
use Rattle.grid_text.specs.Headers.{IsHeader}
use Rattle.grid_text.specs.Printed.{grid_text}
use Rattle.grid_text.specs.declared.Header.{Header}

-- the bytes hold these
abbrev pub ReadsAs : List ℕ → Header → Size → Cells → Type 0
ReadsAs bytes h s cells = grid_in bytes ≡ Ok (record { header = h; grid = record { size = s; cells = cells } })

abbrev pub ReadsBack : Type 0
ReadsBack = (h : Header) (s : Size) (cells : Cells) → IsHeader h → IsSize s → length cells ≡ cells_in s → AreCells cells → ReadsAs (grid_text h s cells) h s cells
