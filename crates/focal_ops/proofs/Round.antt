-- The numbers round a cell of a grid, in the cells round its tile.
use Rattle.std.proofs.Common.{◌≡◌, ℕ, ◌+◌, ◌-◌, ◌*◌, ◌<◌, ◌≤◌, List, ◌∷◌, [], ◌++◌, length, map, get_or, set, take, drop, Option, Some, None, ℤ, pos, ◌-ℤ◌, refl, sym, ◌∙◌, ap, arith, slice_range}
use Rattle.std.specs.List.{range_with_len, flat_map}
use Rattle.std.proofs.lemmas.Int.{ints}
use Rattle.std.proofs.lemmas.List.{append-nil, append_assoc, take_more, take_more_set, same_lists, length-take, length-drop, get_or-take, get_or-drop, get_or_default}
use Rattle.std.proofs.lemmas.List.Concat.{flat_map-append}
use Rattle.std.proofs.lemmas.List.FromFn.{get_or-map-range_with_len, length-map-range_with_len}
use Rattle.std.proofs.lemmas.Nat.{mul-le}
use Rattle.map_nums.specs.Grids.{Size, IsSize, Cells, Offset, near, numbers_in}
use Rattle.map_defs.specs.Focal.{focal_numbers}
use Rattle.layer_tiles.specs.Tiles.{Block, tiles_in, tile_height, tile_width}
use Rattle.layer_tiles.specs.PlaceByPlace.{cell_in}
use Rattle.near_cells.specs.Near.{IsNear}
use Rattle.near_cells.proofs.Places.{near_cell}
use Rattle.focal_ops.specs.Masks.{step, row_offsets, offsets_by, IsMask, piece, piece_numbers, numbers_to}
use Rattle.focal_ops.proofs.Spans.{range_more, map-map, map-flat_map, flat_map_agree, numbers_in-append, numbers_in-flat_map}

-- a row ends before the cells do
pub row_end : (a b w n : ℕ) → a < b → b * w ≤ n → a * w + w ≤ n
row_end a b w n l h = omega (arith, h, mul-le (a + 1) w b w (omega (arith, l)) (omega arith))

step_is : (reach k : ℕ) → step reach k ≡ pos k -ℤ pos reach
step_is reach k = omega (arith, ints)

-- the cells at a row of offsets are a piece of a row of the square
row_piece : (s : Size) (cells : Cells) (t reach half : ℕ) (b : Block) (r c k : ℕ) → IsSize s → t < tiles_in s → IsNear s cells t reach b → length b.cells ≡ b.height * b.width → half ≤ reach → r < tile_height s t → c < tile_width s t → k < 2 * reach + 1 → map (near s cells (cell_in s t r c)) (row_offsets reach half k) ≡ piece reach half b.cells b.width r c k
row_piece s cells t reach half b r c k h l g count most p q a =
    let i = cell_in s t r c in
    let start = (r + k) * b.width + (c + reach - half) in
    let ends : (r + k) * b.width + b.width ≤ length b.cells = row_end (r + k) b.height b.width (length b.cells) (omega (arith, g.height)) (omega (arith, count)) in
    let wide : start + (2 * half + 1) ≤ length b.cells = omega (arith, ends, g.width) in
    let f = λ (j : ℕ). near s cells i (step reach k, step reach j) in
    map-map (near s cells i) (λ (j : ℕ). (step reach k, step reach j)) (range_with_len (reach - half) (2 * half + 1))
    ∙ same_lists (map f (range_with_len (reach - half) (2 * half + 1))) (take (start + (2 * half + 1) - start) (drop start b.cells))
    (length-map-range_with_len f (reach - half) (2 * half + 1) ∙ sym (simp (length-take, length-drop) (omega (arith, wide))))
    (λ j e m.
    let n : j < 2 * half + 1 = omega (arith, m, length-map-range_with_len f (reach - half) (2 * half + 1)) in
    let at : start + j ≡ (r + k) * b.width + (c + (reach - half + j)) = omega arith in
    get_or-map-range_with_len f (reach - half) (2 * half + 1) j (reach - half + j) e n refl
    ∙ ap (λ (z : ℤ). near s cells i (z, step reach (reach - half + j))) (step_is reach k)
    ∙ ap (λ (z : ℤ). near s cells i (pos k -ℤ pos reach, z)) (step_is reach (reach - half + j))
    ∙ sym (get_or-take (start + (2 * half + 1) - start) (drop start b.cells) j e (omega arith)
    ∙ get_or-drop start b.cells j e
    ∙ ap (λ n. get_or b.cells n e) at
    ∙ get_or_default b.cells ((r + k) * b.width + (c + (reach - half + j))) e None (omega (arith, wide))
    ∙ near_cell s cells t reach r c k (reach - half + j) b g h l p q (omega arith) (omega arith)))

pub focal_numbers_are : (offsets : List Offset) (s : Size) (cells : Cells) (t reach : ℕ) (halves : List ℕ) (b : Block) (r c : ℕ) → IsSize s → t < tiles_in s → IsNear s cells t reach b → length b.cells ≡ b.height * b.width → IsMask offsets reach halves → r < tile_height s t → c < tile_width s t → numbers_to reach halves b.cells b.width r c (2 * reach + 1) ≡ focal_numbers offsets s cells (cell_in s t r c)
unfolding focal_numbers numbers_to offsets_by
focal_numbers_are offsets s cells t reach halves b r c h l g count m p q =
    let i = cell_in s t r c in
    sym
    (ap (λ os. numbers_in (map (near s cells i) os)) m.are
    ∙ ap numbers_in (map-flat_map (near s cells i) (λ k. row_offsets reach (get_or halves k 0) k) (range_with_len 0 (2 * reach + 1)))
    ∙ numbers_in-flat_map (λ k. map (near s cells i) (row_offsets reach (get_or halves k 0) k)) (range_with_len 0 (2 * reach + 1))
    ∙ flat_map_agree (λ k. numbers_in (map (near s cells i) (row_offsets reach (get_or halves k 0) k))) (piece_numbers reach halves b.cells b.width r c) 0 (2 * reach + 1)
    (λ k a d. ap numbers_in (row_piece s cells t reach (get_or halves k 0) b r c k h l g count (m.has.most k (omega (arith, d, m.has.few))) p q (omega arith))))

-- one more row of offsets
pub numbers_more : (reach : ℕ) (halves : List ℕ) (square : Cells) (w r c n : ℕ) → numbers_to reach halves square w r c (n + 1) ≡ numbers_to reach halves square w r c n ++ piece_numbers reach halves square w r c n
unfolding numbers_to
numbers_more reach halves square w r c n =
    ap (flat_map (piece_numbers reach halves square w r c)) (range_more n)
    ∙ flat_map-append (piece_numbers reach halves square w r c) (range_with_len 0 n) (n ∷ [])
    ∙ ap (λ xs. flat_map (piece_numbers reach halves square w r c) (range_with_len 0 n) ++ xs) (nothing (piece_numbers reach halves square w r c n))
  where
    nothing : (xs : List ℤ) → xs ++ [] ≡ xs
    nothing xs = append-nil xs

-- ---- a piece's numbers, put behind others

pub put_some : (cells : Cells) (i : ℕ) (cell : Option ℤ) (v : ℤ) (front numbers : List ℤ) (end : ℕ) → i < length cells → cell ≡ get_or cells i cell → Some v ≡ cell → end < length numbers → take end numbers ≡ front ++ numbers_in (take i cells) → take (end + 1) (set numbers end v) ≡ front ++ numbers_in (take (i + 1) cells)
put_some cells i cell v front numbers end l is e room h =
    take_more_set numbers end v room
    ∙ ap (λ xs. xs ++ v ∷ []) h
    ∙ append_assoc front (numbers_in (take i cells)) (v ∷ [])
    ∙ ap (λ xs. front ++ xs) (sym (ap numbers_in (take_more cells i cell l ∙ ap (λ (x : Option ℤ). take i cells ++ x ∷ []) (sym is ∙ sym e)) ∙ numbers_in-append (take i cells) (Some v ∷ [])))

pub put_none : (cells : Cells) (i : ℕ) (cell : Option ℤ) → i < length cells → cell ≡ get_or cells i cell → None ≡ cell → numbers_in (take (i + 1) cells) ≡ numbers_in (take i cells)
put_none cells i cell l is e =
    ap numbers_in (take_more cells i cell l ∙ ap (λ (x : Option ℤ). take i cells ++ x ∷ []) (sym is ∙ sym e)) ∙ numbers_in-append (take i cells) (None ∷ []) ∙ append-nil (numbers_in (take i cells))

pub piece_short : (square : Cells) (start n : ℕ) → length (slice_range square start (start + n)) ≤ n
piece_short square start n = rw (length-take (start + n - start) (drop start square)) (omega arith)
