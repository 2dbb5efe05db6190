-- Rows of tiles, and the grid that they make.
use Rattle.std.proofs.Common.{◌≡◌, ℕ, suc, ◌+◌, ◌*◌, ◌<◌, List, [], ◌∷◌, drop, length, get_or, Result, Ok, Err, IfOk, refl, sym, ◌∙◌, ap, subst, arith}
use Rattle.std.specs.Prelude.{Vec}
use Rattle.std.specs.List.{sum_by, range_with_len}
use Rattle.std.proofs.lemmas.List.{get_or-drop}
use Rattle.std.proofs.lemmas.List.Sums.{sum_by-cons}
use Rattle.std.proofs.lemmas.List.FromFn.{get_or-map-range_with_len, length-map-range_with_len}
use Rattle.std.proofs.lemmas.Nat.{mul-add-lt}
use Rattle.map_nums.specs.Grids.{Size, IsSize, Grid, cells_in, row_of, column_of}
use Rattle.layer_tiles.specs.Layers.{LayerState, layer_of}
use Rattle.layer_tiles.specs.Patches.{PatchState, patched}
use Rattle.layer_tiles.specs.Tallies.{TallyState, RisesBy}
use Rattle.layer_tiles.specs.Tiles.{Block, tile_block, tiles_across, tiles_down, tiles_in}
use Rattle.layer_tiles.specs.Wholes.{IsCut}
use Rattle.layer_tiles.proofs.AllTiles.{cut_layer}
use Rattle.layer_tiles.proofs.Rising.{rises_within}
use Rattle.map_machine.specs.SampleGrids.{by_place}
use Rattle.map_sample.specs.Grids.{cell_in, cells_of, tiles_of_row}
use Rattle.map_sample.specs.declared.grids.SampleGrid.{SampleGrid}

-- what is left of a list begins with the element at its place
first_left : {X : Type 0} (k : ℕ) (xs ys : List X) (x d : X) → drop k xs ≡ x ∷ ys → get_or xs k d ≡ x
first_left k xs ys x d e = let at : k ≡ k + 0 = omega arith in ap (λ j. get_or xs j d) at ∙ sym (get_or-drop k xs 0 d) ∙ ap (λ l. get_or l 0 d) e

-- a tile of a row of tiles is one of the grid's
pub tile_below : (s : Size) (down k : ℕ) → down < tiles_down s → k < tiles_across s → down * tiles_across s + k < tiles_in s
unfolding tiles_in
tile_below s down k p q = omega (arith, mul-add-lt down (tiles_across s) k (tiles_down s) p q)

-- the next tile of a row of tiles
pub next_tile : (s : Size) (grid : SampleGrid) (down k : ℕ) (tiles rest : List Block) (b : Block) → tiles ≡ tiles_of_row s grid down → k < tiles_across s → drop k tiles ≡ b ∷ rest → b ≡ tile_block s (cells_of s grid) (down * tiles_across s + k)
next_tile s grid down k tiles rest b is l e =
    let first = down * tiles_across s in
    sym (first_left k tiles rest b b e) ∙ ap (λ ts. get_or ts k b) is
    ∙ get_or-map-range_with_len (tile_block s (cells_of s grid)) first (tiles_across s) k (first + k) b l refl

-- the next row of tiles
pub next_row : {E F : Type 0} (s : Size) (grid : SampleGrid) (down : ℕ) (rows rest : List (Result (Vec Block F) E)) (row : Result (Vec Block F) E) → ((k : ℕ) (d : Result (Vec Block F) E) → k < tiles_down s → IfOk (get_or rows k d) (λ tiles. tiles.items ≡ tiles_of_row s grid k)) → down < tiles_down s → drop down rows ≡ row ∷ rest → IfOk row (λ tiles. tiles.items ≡ tiles_of_row s grid down)
next_row s grid down rows rest row each l e = subst (λ x. IfOk x (λ tiles. tiles.items ≡ tiles_of_row s grid down)) (first_left down rows rest row row e) (each down row l)

-- all rows of tiles were cut
pub rows_cut : (s : Size) (grid : SampleGrid) (down : ℕ) (p : PatchState) → down ≡ tiles_down s → IsCut s (cells_of s grid) (down * tiles_across s) p → IsCut s (cells_of s grid) (tiles_in s) p
unfolding tiles_in
rows_cut s grid down p e i = subst (λ n. IsCut s (cells_of s grid) (n * tiles_across s) p) e i

cells_count : (s : Size) (grid : SampleGrid) → length (cells_of s grid) ≡ cells_in s
cells_count s grid = length-map-range_with_len (λ i. cell_in grid (suc (row_of s i)) (suc (column_of s i))) 0 (cells_in s)

-- and make the layer
pub rows_layer : (s : Size) (grid : SampleGrid) (down : ℕ) (p : PatchState) (layer : LayerState) → IsSize s → down ≡ tiles_down s → IsCut s (cells_of s grid) (down * tiles_across s) p → layer ≡ layer_of p.size (patched p.size [] p.tiles) 0 → layer ≡ layer_of s (cells_of s grid) 0
rows_layer s grid down p layer size e i is = cut_layer s (cells_of s grid) 0 p layer size (cells_count s grid) (rows_cut s grid down p e i) is

-- which is the sample's grid
pub layer_made : {E : Type 0} (r : Result LayerState E) (s : Size) (side : ℕ) (grid : SampleGrid) → s ≡ record { rows = side; columns = side } → IfOk r (λ l. l ≡ layer_of s (cells_of s grid) 0) → IfOk r (λ l. record { size = l.size; cells = l.cells } ≡ by_place side (cell_in grid))
layer_made (Ok l) s side grid square is =
    let made : Size → Grid = λ z. record { size = z; cells = cells_of z grid } in
    let taken : LayerState → Grid = λ x. record { size = x.size; cells = x.cells } in
    ap taken is ∙ ap made square
layer_made (Err e) s side grid square is = tt

nothing_in : (xs : List ℕ) → sum_by (λ (k : ℕ). 0) xs ≡ 0
nothing_in [] = refl
nothing_in (x ∷ xs) = let rest = nothing_in xs in let all = sum_by-cons (λ (k : ℕ). 0) x xs in omega (arith, all, rest)

-- jobs that read nothing
pub nothing_read : (n : ℕ) (a b : TallyState) → RisesBy (sum_by (λ (k : ℕ). 0) (range_with_len 0 n)) (sum_by (λ (k : ℕ). 0) (range_with_len 0 n)) a b → RisesBy 0 0 a b
nothing_read n a b r =
    let none = nothing_in (range_with_len 0 n) in
    rises_within (sum_by (λ (k : ℕ). 0) (range_with_len 0 n)) (sum_by (λ (k : ℕ). 0) (range_with_len 0 n)) 0 0 a b (omega (arith, none)) (omega (arith, none)) r
