-- Tiles that are lent, and rectangles that are compared and copied row by row.
use Rattle.std.proofs.Common.{◌≡◌, ℕ, ◌+◌, ◌*◌, ◌<◌, ◌++◌, length, take, refl, sym, ◌∙◌, ap, arith}
use Rattle.std.proofs.Math.Seq.{take-add}
use Rattle.map_nums.specs.Grids.{Size, IsSize, Cells, cells_in}
use Rattle.layer_tiles.specs.Cells.{AreCells}
use Rattle.layer_tiles.specs.Tiles.{Block, IsBlock, block_row, strided, tiles_in, tile_start, tile_height, tile_width}
use Rattle.layer_tiles.specs.Views.{IsLent}
use Rattle.layer_tiles.specs.ChangeBodies.{IsRowOfOne}
use Rattle.layer_tiles.proofs.Places.{placed, tile_strided}
use Rattle.layer_tiles.proofs.Strides.{length-strided}
use Rattle.layer_tiles.proofs.Ranged.{AreCells-one}

-- a tile of a grid
pub lent_tile : (s : Size) (cells : Cells) (t : ℕ) → IsSize s → t < tiles_in s → length cells ≡ cells_in s → AreCells cells → IsLent cells (tile_start s t) s.columns (tile_height s t) (tile_width s t)
lent_tile s cells t h l n a = let p = placed s t h l in record { rows = rw (n) (tile_strided s t h l); most_rows = p.most_rows; most_columns = p.most_columns; are_cells = a }

-- one cell, again and again
pub lent_one : (s : Size) (row : Cells) (t : ℕ) → IsSize s → t < tiles_in s → IsRowOfOne row → IsLent row 0 0 (tile_height s t) (tile_width s t)
lent_one s row t h l o =
    let p = placed s t h l in
    record {
      rows = record { some_row = p.some_row; some_column = p.some_column; within = omega (arith, o.count, p.most_columns) };
      most_rows = p.most_rows;
      most_columns = p.most_columns;
      are_cells = AreCells-one row o;
    }

-- a rectangle that is lent
pub lent_block : (cells : Cells) (start stride height width : ℕ) → IsLent cells start stride height width → IsBlock (record { height = height; width = width; cells = strided cells start stride height width })
lent_block cells start stride height width i = record {
  some_row = i.rows.some_row;
  some_column = i.rows.some_column;
  most_rows = i.most_rows;
  most_columns = i.most_columns;
  count = length-strided cells start stride height width;
}

-- rectangles with the same parts
pub block_same : (b b' : Block) → b.height ≡ b'.height → b.width ≡ b'.width → b.cells ≡ b'.cells → b ≡ b'
block_same b b' h w c = same b b'.height b'.width b'.cells h w c
  where
    same : (b : Block) (height width : ℕ) (cells : Cells) → b.height ≡ height → b.width ≡ width → b.cells ≡ cells → b ≡ record { height = height; width = width; cells = cells }
    same b height width cells h w c = rw (← h, ← w, ← c) refl

-- one more row of a rectangle
pub rows_more : (b : Block) (r : ℕ) (old new : Cells) → old ≡ take (r * b.width) b.cells → new ≡ old ++ block_row b r → new ≡ take ((r + 1) * b.width) b.cells
rows_more b r old new o n =
    let e : (r + 1) * b.width ≡ r * b.width + b.width = omega arith in
    n ∙ ap (λ xs. xs ++ block_row b r) o ∙ sym (ap (λ k. take k b.cells) e ∙ take-add (r * b.width) b.width b.cells)
