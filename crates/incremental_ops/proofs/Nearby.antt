-- The neighbours of a cell of a grid, in the square of its tile.
use Rattle.std.proofs.Common.{◌≡◌, ℕ, ◌+◌, ◌<◌, get_or, None, refl, sym, ◌∙◌, ap, arith}
use Rattle.map_nums.specs.Grids.{Size, IsSize, Cells, near}
use Rattle.map_nums.specs.Compass.{north, north_east, east, south_east, south, south_west, west, north_west}
use Rattle.map_defs.specs.Incremental.{form_at, linkage_at, length_at, partition_at, frontage_at, gradient_at, aspect_at}
use Rattle.layer_tiles.specs.Tiles.{Block, block_row, tiles_in, tile_start, tile_top, tile_left, tile_height, tile_width}
use Rattle.layer_tiles.specs.PlaceByPlace.{cell_in}
use Rattle.layer_tiles.proofs.Places.{placed}
use Rattle.near_cells.specs.Near.{IsNear}
use Rattle.near_cells.proofs.Places.{near_row, near_step, near_on}
use Rattle.incremental_ops.specs.declared.rings.Ring.{Ring}
use Rattle.incremental_ops.specs.declared.values.Shape.{Shape}
use Rattle.incremental_ops.specs.declared.values.Shape.TheVariants.{Linkage, Length, Partition, Frontage, Gradient, Aspect}
use Rattle.incremental_ops.specs.Around.{ring_in}
use Rattle.incremental_ops.specs.Shapes.{form_of, shape_of, shape_cell, shape_round}

-- the neighbours of place i of a grid
ring_of : Size → Cells → ℕ → Ring
ring_of s cells i = record { n = near s cells i north; ne = near s cells i north_east; e = near s cells i east; se = near s cells i south_east; s = near s cells i south; sw = near s cells i south_west; w = near s cells i west; nw = near s cells i north_west }

form_is : (shape : Shape) (s : Size) (cells : Cells) (i : ℕ) → form_at (form_of shape) s cells i ≡ shape_cell shape (ring_of s cells i) (get_or cells i None)
unfolding ring_of shape_of linkage_at length_at partition_at frontage_at gradient_at aspect_at
form_is Linkage s cells i = refl
form_is Length s cells i = refl
form_is Partition s cells i = refl
form_is Frontage s cells i = refl
form_is Gradient s cells i = refl
form_is Aspect s cells i = refl

module _ (s : Size) (cells : Cells) (t : ℕ) (b : Block) (r c : ℕ) (g : IsNear s cells t 1 b) (size : IsSize s) (within : t < tiles_in s) (row : r < tile_height s t) (column : c < tile_width s t) where
  ring_is : ring_in (block_row b r) (block_row b (r + 1)) (block_row b (r + 2)) c ≡ ring_of s cells (cell_in s t r c)
  unfolding ring_in ring_of
  ring_is =
      let n : get_or (block_row b r) (c + 1) None ≡ near s cells (cell_in s t r c) north = ap (λ k. get_or (block_row b k) (c + 1) None) (omega arith) ∙ near_row s cells t 1 r c 0 1 b g size within row column (omega arith) (omega arith) in
      let ne : get_or (block_row b r) (c + 2) None ≡ near s cells (cell_in s t r c) north_east = ap (λ k. get_or (block_row b k) (c + 2) None) (omega arith) ∙ near_row s cells t 1 r c 0 2 b g size within row column (omega arith) (omega arith) in
      let e : get_or (block_row b (r + 1)) (c + 2) None ≡ near s cells (cell_in s t r c) east = near_row s cells t 1 r c 1 2 b g size within row column (omega arith) (omega arith) in
      let se : get_or (block_row b (r + 2)) (c + 2) None ≡ near s cells (cell_in s t r c) south_east = near_row s cells t 1 r c 2 2 b g size within row column (omega arith) (omega arith) in
      let so : get_or (block_row b (r + 2)) (c + 1) None ≡ near s cells (cell_in s t r c) south = near_row s cells t 1 r c 2 1 b g size within row column (omega arith) (omega arith) in
      let sw : get_or (block_row b (r + 2)) c None ≡ near s cells (cell_in s t r c) south_west = ap (λ k. get_or (block_row b (r + 2)) k None) (omega arith) ∙ near_row s cells t 1 r c 2 0 b g size within row column (omega arith) (omega arith) in
      let w : get_or (block_row b (r + 1)) c None ≡ near s cells (cell_in s t r c) west = ap (λ k. get_or (block_row b (r + 1)) k None) (omega arith) ∙ near_row s cells t 1 r c 1 0 b g size within row column (omega arith) (omega arith) in
      let nw : get_or (block_row b r) c None ≡ near s cells (cell_in s t r c) north_west = ap (λ k. get_or (block_row b k) c None) (omega arith) ∙ ap (λ k. get_or (block_row b (r + 0)) k None) (omega arith) ∙ near_row s cells t 1 r c 0 0 b g size within row column (omega arith) (omega arith) in
      rw (n, ne, e, se, so, sw, w, nw) refl

  own_is : get_or (block_row b (r + 1)) (c + 1) None ≡ get_or cells (cell_in s t r c) None
  unfolding tile_start
  own_is =
      let p = placed s t size within in
      near_row s cells t 1 r c 1 1 b g size within row column (omega arith) (omega arith)
      ∙ near_step s cells t 1 r c 1 1 size within row column
      ∙ near_on s cells t 1 (r + 1) (c + 1) (tile_top s t + r) (tile_left s t + c) (omega arith) (omega arith) (omega (arith, p.last_row)) (omega (arith, p.last_column))
      ∙ ap (λ n. get_or cells n None) (omega arith)

  pub shape_is : (shape : Shape) → shape_round shape b r c ≡ form_at (form_of shape) s cells (cell_in s t r c)
  unfolding shape_round
  shape_is shape =
      ap (λ o. shape_cell shape (ring_in (block_row b r) (block_row b (r + 1)) (block_row b (r + 2)) c) o) own_is
      ∙ ap (λ g. shape_cell shape g (get_or cells (cell_in s t r c) None)) ring_is
      ∙ sym (form_is shape s cells (cell_in s t r c))
