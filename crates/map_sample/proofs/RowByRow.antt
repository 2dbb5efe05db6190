-- A tile of a grid that is made row by row.
use Rattle.std.proofs.Common.{◌≡◌, ℕ, suc, ◌+◌, ◌*◌, ◌/◌, ◌%◌, ◌<◌, Option, None, ℤ, inl, sym, ◌∙◌, ap, subst, arith, below_more}
use Rattle.std.proofs.lemmas.List.FromFn.{get_or-map-range_with_len}
use Rattle.std.proofs.lemmas.Nat.{mul-add-lt, div-mul-add, mod-mul-add}
use Rattle.map_nums.specs.Grids.{Size, IsSize, Cells, cells_in, cell_at}
use Rattle.layer_tiles.specs.Tiles.{Block, IsBlockOf, IsRowSet, tile_block, tile_height, tile_left, tile_start, tile_top, tile_width, tiles_in}
use Rattle.layer_tiles.proofs.Patching.{block_is}
use Rattle.layer_tiles.proofs.Places.{placed}
use Rattle.layer_tiles.proofs.Rounds.{here}
use Rattle.layer_tiles.proofs.Strides.{tile_from}
use Rattle.map_sample.specs.Grids.{cell_in, cells_of}
use Rattle.map_sample.specs.declared.grids.SampleGrid.{SampleGrid}

-- a rectangle of the size of tile t, whose first n rows are the grid's
pub record HasRows (s : Size) (cells : Cells) (t n : ℕ) (b : Block) : Type 0 where
  pub size : IsBlockOf s t b
  pub rows : (r : ℕ) → r < n → (c : ℕ) → c < tile_width s t → cell_at b.cells (r * tile_width s t + c) ≡ cell_at cells (tile_start s t + r * s.columns + c)

pub one_more : (s : Size) (cells row : Cells) (t n : ℕ) (old new : Block) → HasRows s cells t n old → IsRowSet n row old new → ((c : ℕ) → c < tile_width s t → cell_at row c ≡ cell_at cells (tile_start s t + n * s.columns + c)) → HasRows s cells t (n + 1) new
one_more s cells row t n old new h set is =
    let w : old.width ≡ tile_width s t = h.size.width in
    record {
      size = record { height = set.height_stays ∙ h.size.height; width = set.width_stays ∙ w; count = set.count ∙ h.size.count };
      rows = below_more _ _
          (λ r l c m.
          let above : r * tile_width s t + c < n * tile_width s t = omega (arith, mul-add-lt r (tile_width s t) c n l m) in
          set.other (r * tile_width s t + c) (inl (subst (λ j. r * tile_width s t + c < n * j) (sym w) above)) ∙ h.rows r l c m)
          (λ c m. ap (λ j. cell_at new.cells (n * j + c)) (sym w) ∙ set.here c (subst (λ j. c < j) (sym w) m) ∙ is c m);
    }

pub all_rows : (s : Size) (cells : Cells) (t n : ℕ) (b : Block) → HasRows s cells t n b → n ≡ tile_height s t → b ≡ tile_block s cells t
all_rows s cells t n b h e = block_is s cells t b h.size (tile_from s cells b.cells t h.size.count (λ r c p q. sym (h.rows r (omega (arith, e, p)) c q)))

-- a cell of the sample's grid, by its row and column in a tile
pub cell_here : (s : Size) (grid : SampleGrid) (t r c : ℕ) → IsSize s → t < tiles_in s → r < tile_height s t → c < tile_width s t → cell_at (cells_of s grid) (tile_start s t + r * s.columns + c) ≡ cell_in grid (suc (tile_top s t + r)) (suc (tile_left s t + c))
unfolding tile_start
cell_here s grid t r c size within p q =
    let at = tile_start s t + r * s.columns + c in
    let top = tile_top s t + r in
    let left = tile_left s t + c in
    let column : left < s.columns = omega (arith, (placed s t size within).last_column) in
    let e : at ≡ top * s.columns + left = omega arith in
    let row_is : at / s.columns ≡ top = ap (λ n. n / s.columns) e ∙ div-mul-add top s.columns left column in
    let column_is : at % s.columns ≡ left = ap (λ n. n % s.columns) e ∙ mod-mul-add top s.columns left column in
    let cell : ℕ → Option ℤ = λ i. cell_in grid (suc (i / s.columns)) (suc (i % s.columns)) in
    get_or-map-range_with_len cell 0 (cells_in s) at at None (here s t r c size within p q).within (omega arith)
    ∙ ap (λ n. cell_in grid (suc n) (suc (at % s.columns))) row_is ∙ ap (λ n. cell_in grid (suc top) (suc n)) column_is
