-- Rows of lent tiles, and the grids that they are tiles of.
use Rattle.std.proofs.Common.{◌≡◌, ℕ, zero, suc, ◌+◌, ◌*◌, ◌<◌, List, [], ◌∷◌, ◌++◌, length, map, get_or, take, drop, Option, None, ℤ, Result, refl, sym, ◌∙◌, ap, subst, arith, Bor}
use Rattle.std.specs.List.{All}
use Rattle.std.proofs.lemmas.List.{get_or-take, get_or-drop, map_more, map-append, get_or-map, length-map}
use Rattle.map_nums.specs.Grids.{Size, IsSize, Cells}
use Rattle.map_defs.specs.Local.{LocalOp, local_cell, local_at, local_grid, cells_at}
use Rattle.layer_tiles.specs.Tiles.{Block, block_row, tile_block, tile_start, tile_height, tile_width, tiles_in}
use Rattle.layer_tiles.specs.Changes.{ChangeState}
use Rattle.layer_tiles.specs.Operands.{cells_after}
use Rattle.layer_tiles.specs.Answers.{IsTileAnswer}
use Rattle.layer_tiles.specs.PlaceByPlace.{cell_in, IsPlacesAnswer}
use Rattle.layer_tiles.specs.declared.kernels.KernelRefusal.{KernelRefusal}
use Rattle.layer_tiles.proofs.Strides.{get_or-strided}
use Rattle.tile_frame.specs.Frames.{by_row}
use Rattle.tile_frame.proofs.Answering.{grid_answer}
use Rattle.local_ops.specs.Operands.{blocks_of, cell_by, row_cells, HaveSize}

-- one more cell of a list's column
pub column-more : {X : Type 0} (cell_of : X → Option ℤ) (xs : List X) (k : ℕ) (x : X) (cell : Option ℤ) → k < length xs → x ≡ get_or xs k x → cell_of x ≡ cell → map cell_of (take (k + 1) xs) ≡ map cell_of (take k xs) ++ cell ∷ []
column-more cell_of xs k x cell l i e = map_more cell_of xs k x l ∙ ap (λ y. map cell_of (take k xs) ++ y ∷ []) (ap cell_of (sym i) ∙ e)

pub column-get : {X : Type 0} (cell_of : X → Option ℤ) (xs : List X) (k : ℕ) (x : X) (cell : Option ℤ) → k < length xs → x ≡ get_or xs k x → cell_of x ≡ cell → get_or (map cell_of xs) k None ≡ cell
column-get cell_of xs k x cell l i e = get_or-map cell_of xs k x None l ∙ ap cell_of (sym i) ∙ e

-- the rows that were lent, and their cells
pub rows-more : {Y : Type 0} (f : Bor Cells → Y) (g : Block → Y) (views : List Block) (k : ℕ) (b : Block) (old new : List (Bor Cells)) (row : Bor Cells) → k < length views → b ≡ get_or views k b → map f old ≡ map g (take k views) → new ≡ old ++ row ∷ [] → f row ≡ g b → map f new ≡ map g (take (k + 1) views)
rows-more f g views k b old new row l i o n e =
    ap (map f) n ∙ map-append f old (row ∷ []) ∙ ap (λ ys. ys ++ f row ∷ []) o ∙ ap (λ y. map g (take k views) ++ y ∷ []) (e ∙ ap g i) ∙ sym (map_more g views k b l)

pub rows-column : (rows : List (Bor Cells)) (views : List Block) (r c : ℕ) → map (λ row. row.now) rows ≡ map (λ b. block_row b r) views → map (λ row. get_or row.now c None) rows ≡ row_cells views r c
rows-column [] [] r c e = refl
rows-column [] (b ∷ views) r c e = cc
rows-column (row ∷ rows) [] r c e = cc
rows-column (row ∷ rows) (b ∷ views) r c e =
    let head : row.now ≡ block_row b r = cc in
    let tail : map (λ row. row.now) rows ≡ map (λ b. block_row b r) views = cc in
    ap (λ (cells : Cells). get_or cells c None ∷ map (λ row. get_or row.now c None) rows) head ∙ ap (λ xs. get_or (block_row b r) c None ∷ xs) (rows-column rows views r c tail)

pub rows-count : (rows : List (Bor Cells)) (views : List Block) → map (λ row. length row.now) rows ≡ map (λ b. b.width) views → length rows ≡ length views
rows-count rows views e = sym (length-map rows (λ (row : Bor Cells). length row.now)) ∙ ap length e ∙ length-map views (λ (b : Block). b.width)

pub rows-wide : (rows : List (Bor Cells)) (views : List Block) (h w c : ℕ) → map (λ row. length row.now) rows ≡ map (λ b. b.width) views → HaveSize h w views → c < w → All (λ row. c < length row.now) rows
rows-wide [] views h w c e s l k d m = absurd (omega (arith, m))
rows-wide (row ∷ rows) [] h w c e s l k d m = let no : ⊥ = cc in absurd no
rows-wide (row ∷ rows) (b ∷ views) h w c e s l zero d m =
    let head : length row.now ≡ b.width = cc in
    let same : b.width ≡ w = (s 0 b (omega arith)).1 in
    rw (head, same) l
rows-wide (row ∷ rows) (b ∷ views) h w c e s l (suc k) d m =
    let tail : map (λ row. length row.now) rows ≡ map (λ b. b.width) views = cc in
    rows-wide rows views h w c tail (λ j x n. s (suc j) x (omega arith)) l k d (omega arith)

-- the cells of two operands
pub row_cells-two : (views : List Block) (r c : ℕ) (a b : Block) (left right : Cells) → length views ≡ 2 → a ≡ get_or views 0 a → left ≡ block_row a r → b ≡ get_or views 1 b → right ≡ block_row b r → row_cells views r c ≡ get_or left c None ∷ get_or right c None ∷ []
row_cells-two [] r c a b left right n i e j f = absurd (omega (arith, n))
row_cells-two (d ∷ []) r c a b left right n i e j f = absurd (omega (arith, n))
row_cells-two (d ∷ d' ∷ d'' ∷ views) r c a b left right n i e j f = absurd (omega (arith, n))
row_cells-two (d ∷ d' ∷ []) r c a b left right n i e j f =
    let first : get_or (block_row d r) c None ≡ get_or left c None = ap (λ (xs : Cells). get_or xs c None) (sym (e ∙ ap (λ (z : Block). block_row z r) i)) in
    let second : get_or (block_row d' r) c None ≡ get_or right c None = ap (λ (xs : Cells). get_or xs c None) (sym (f ∙ ap (λ (z : Block). block_row z r) j)) in
    ap (λ z. z ∷ get_or (block_row d' r) c None ∷ []) first ∙ ap (λ z. get_or left c None ∷ z ∷ []) second

-- the width of an operand's row
pub width_at : (views : List Block) (h w k : ℕ) (b : Block) → HaveSize h w views → k < length views → b ≡ get_or views k b → b.width ≡ w
width_at views h w k b s l i = subst (λ (z : Block). z.width ≡ w) (sym i) (s k b l).1

-- the cells in a row and a column of the operands' tiles are those of their grids at its cell
pub row_cells-blocks : (s : Size) (t r c : ℕ) (operands : List ChangeState) → r < tile_height s t → c < tile_width s t → row_cells (blocks_of s t operands) r c ≡ cells_at (cells_after operands) (cell_in s t r c)
row_cells-blocks s t r c [] p q = refl
row_cells-blocks s t r c (x ∷ operands) p q =
    let b = tile_block s x.cells t in
    let first : get_or (block_row b r) c None ≡ get_or x.cells (cell_in s t r c) None =
    get_or-take b.width (drop (r * b.width) b.cells) c None q
    ∙ get_or-drop (r * b.width) b.cells c None
    ∙ get_or-strided x.cells (tile_start s t) s.columns (tile_height s t) (tile_width s t) r c (r * tile_width s t + c) None p q refl in
    ap (λ y. y ∷ row_cells (blocks_of s t operands) r c) first ∙ ap (λ xs. get_or x.cells (cell_in s t r c) None ∷ xs) (row_cells-blocks s t r c operands p q)

-- the tile that is made of the operands' tiles is that of the operation's grid
pub local_answer : (op : LocalOp) (operands : List ChangeState) (s : Size) (t : ℕ) (result : Result Block KernelRefusal) → IsSize s → t < tiles_in s → IsPlacesAnswer (by_row (tile_width s t) (cell_by op (blocks_of s t operands))) s t result → IsTileAnswer s (local_grid s op (cells_after operands)).cells t result
unfolding local_grid cell_by
local_answer op operands s t result size within a =
    grid_answer s t (cell_by op (blocks_of s t operands)) (local_at op (cells_after operands)) result size within (λ r c p q. ap (local_cell op) (row_cells-blocks s t r c operands p q)) a
