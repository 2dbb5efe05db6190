-- A tile that is made row by row, as a tile of a grid.
use Rattle.std.proofs.Common.{◌≡◌, ℕ, ◌<◌, Option, None, ℤ, Result, sym, ◌∙◌, arith}
use Rattle.std.proofs.lemmas.List.FromFn.{get_or-map-range_with_len}
use Rattle.map_nums.specs.Grids.{Size, IsSize, cells_in, grid_by}
use Rattle.layer_tiles.specs.Tiles.{Block, tiles_in, tile_height, tile_width}
use Rattle.layer_tiles.specs.Answers.{IsTileAnswer}
use Rattle.layer_tiles.specs.PlaceByPlace.{cell_in, IsPlacesAnswer}
use Rattle.layer_tiles.specs.declared.kernels.KernelRefusal.{KernelRefusal}
use Rattle.layer_tiles.proofs.Rounds.{here}
use Rattle.layer_tiles.proofs.Making.{answer_from_places}
use Rattle.tile_frame.specs.Frames.{by_row}
use Rattle.tile_frame.proofs.Framing.{by_row-is}

-- a kernel whose value at each row and column is the grid's at that cell gives the grid's tile
pub grid_answer : (s : Size) (t : ℕ) (q : ℕ → ℕ → Option ℤ) (f : ℕ → Option ℤ) (result : Result Block KernelRefusal) → IsSize s → t < tiles_in s → ((r c : ℕ) → r < tile_height s t → c < tile_width s t → q r c ≡ f (cell_in s t r c)) → IsPlacesAnswer (by_row (tile_width s t) q) s t result → IsTileAnswer s (grid_by s f).cells t result
grid_answer s t q f result size within same a =
    answer_from_places (by_row (tile_width s t) q) s (grid_by s f).cells t size within
    (λ r c l m.
    by_row-is (tile_width s t) q r c m
    ∙ same r c l m
    ∙ sym (get_or-map-range_with_len f 0 (cells_in s) (cell_in s t r c) (cell_in s t r c) None (here s t r c size within l m).within (omega arith)))
    result a
