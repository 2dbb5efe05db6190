-- All tiles of a grid in order.
use Rattle.std.proofs.Common.{◌≡◌, ℕ, zero, suc, ◌+◌, ◌-◌, ◌*◌, ◌<◌, Bool, true, false, List, [], ◌∷◌, ◌++◌, length, get_or, map, replicate, Option, Some, None, ℤ, refl, sym, ◌∙◌, ap, subst, arith, eqb, cond, IsSome}
use Rattle.std.specs.List.{range_with_len}
use Rattle.std.proofs.lemmas.Bool.{eqb-true}
use Rattle.std.proofs.lemmas.List.{length-map, length-replicate, get_or-replicate}
use Rattle.std.proofs.lemmas.List.FromFn.{get_or-range_with_len, length-map-range_with_len, map-range_with_len_more}
use Rattle.std.proofs.lemmas.Nat.{mul-add-lt}
use Rattle.map_nums.specs.Grids.{Size, IsSize, Cells, cells_in, constant}
use Rattle.layer_tiles.specs.Tiles.{Block, IsBlockOf, tile_block, tile_height, tile_width, tile_size, tile_start, tiles_in}
use Rattle.layer_tiles.specs.Patches.{PatchState, HoldsAll, IsAboveLast, patch_get, numbers_of, patched}
use Rattle.layer_tiles.specs.Layers.{LayerState, IsLayer, layer_of}
use Rattle.layer_tiles.specs.Wholes.{IsWhole, IsTiled, IsCut, tiles_below}
use Rattle.layer_tiles.proofs.Found.{Contains-from_get, HoldsAll-from_numbers}
use Rattle.layer_tiles.proofs.Patching.{block_is, length-patched, tile_replaced, get_or-constant}
use Rattle.layer_tiles.proofs.Strides.{tile_from}
use Rattle.layer_tiles.proofs.Rounds.{here}
use Rattle.layer_tiles.proofs.Ranged.{AreCells-none, AreCells-patched}
use Rattle.layer_tiles.proofs.Numbers.{rising}
use Rattle.layer_tiles.proofs.Completing.{far_enough}
use Rattle.layer_tiles.proofs.Whole.{tile_block_is, patched_to}

-- entry t has number t
pub whole_number : (s : Size) (tiles : List (ℕ × Block)) (t : ℕ) → IsWhole s tiles → t < tiles_in s → (t < length tiles) × (get_or (numbers_of tiles) t 0 ≡ t)
whole_number s tiles t w l =
    let up = w.patch.ascends in
    let far = far_enough (numbers_of tiles) up t (λ u m. Contains-from_get tiles u (w.all u (omega (arith, m, l)))) in
    let low = rising (numbers_of tiles) up far.0 far.2 in
    let e : far.0 ≡ t = omega (arith, far.1, far.3, low) in
    (omega (arith, far.2, e, length-map tiles (λ (x : ℕ × Block). x.0)), ap (λ j. get_or (numbers_of tiles) j 0) (sym e) ∙ far.3)

-- it is the grid's tile
pub whole_tile : (s : Size) (tiles : List (ℕ × Block)) (t : ℕ) (b : Block) → IsWhole s tiles → t < tiles_in s → patch_get tiles t ≡ Some b → b ≡ tile_block s (patched s [] tiles) t
whole_tile s tiles t b w l e =
    let z = w.patch.sizes t b e in
    block_is s (patched s [] tiles) t b z (tile_replaced s [] tiles t w.patch.size l b z e)

-- they make a layer
pub whole_layer : (s : Size) (tiles : List (ℕ × Block)) (stamps : List ℕ) → IsTiled s tiles stamps → IsLayer (record { size = s; cells = patched s [] tiles; stamps = stamps })
whole_layer s tiles stamps h = record {
  size = h.whole.patch.size;
  cells = length-patched s [] tiles;
  are_cells = AreCells-patched s [] tiles AreCells-none h.whole.patch.are_cells;
  stamps = h.stamps;
}

-- with the same cells and stamps they make the same layer
pub same_layer : (s : Size) (cells these : Cells) (stamps marks : List ℕ) (l : LayerState) → cells ≡ these → stamps ≡ marks → record { size = s; cells = these; stamps = marks } ≡ l → record { size = s; cells = cells; stamps = stamps } ≡ l
same_layer s cells these stamps marks l c m e = rw (c, m) e

-- ---- tiles that are made one by one

-- the numbers of tiles that are numbered in order
numbers_below : (f : ℕ → Block) (a n : ℕ) → numbers_of (map (λ t. (t, f t)) (range_with_len a n)) ≡ range_with_len a n
numbers_below f a zero = refl
numbers_below f a (suc n) = ap (λ xs. a ∷ xs) (numbers_below f (a + 1) n)

-- what is found is that of its number
found_below : (f : ℕ → Block) (xs : List ℕ) (t : ℕ) (b : Block) → patch_get (map (λ u. (u, f u)) xs) t ≡ Some b → b ≡ f t
found_below f [] t b e = cc
found_below f (x ∷ xs) t b e = at_first (eqb x t) refl (found_below f xs t b) e
  where
    at_first : (v : Bool) → v ≡ eqb x t → (patch_get (map (λ u. (u, f u)) xs) t ≡ Some b → b ≡ f t) → cond v (Some (f x)) (patch_get (map (λ u. (u, f u)) xs) t) ≡ Some b → b ≡ f t
    at_first true v later e = let same : b ≡ f x = cc in same ∙ ap f (eqb-true x t (sym v))
    at_first false v later e = later e

pub cut_none : (s : Size) (cells : Cells) (p : PatchState) → p ≡ record { size = s; tiles = [] } → IsCut s cells 0 p
cut_none s cells p e = rw (e) record { size = refl; tiles = refl }

-- one more tile
pub cut_more : (s : Size) (cells : Cells) (n : ℕ) (p new : PatchState) (b : Block) → IsCut s cells n p → b ≡ tile_block s cells n → new ≡ record p { tiles = p.tiles ++ (n, b) ∷ [] } → IsCut s cells (n + 1) new
cut_more s cells n p new b i is e =
    rw (e)
    record {
      size = i.size;
      tiles = rw (i.tiles, is) (sym (map-range_with_len_more (λ t. (t, tile_block s cells t)) 0 n n (omega arith)));
    }

-- the next tile is above the last
pub cut_above : (s : Size) (cells : Cells) (n : ℕ) (p : PatchState) → IsCut s cells n p → IsAboveLast p.tiles n
cut_above s cells n p i = subst (λ (tiles : List (ℕ × Block)). IsAboveLast tiles n) (sym i.tiles) (below n (tiles_below s cells n) (length-map-range_with_len (λ t. (t, tile_block s cells t)) 0 n) (numbers_below (tile_block s cells) 0 n))
  where
    below : (n : ℕ) (tiles : List (ℕ × Block)) → length tiles ≡ n → numbers_of tiles ≡ range_with_len 0 n → IsAboveLast tiles n
    below n tiles l e some =
        let k : length tiles - 1 < n = omega arith in
        rw (e, get_or-range_with_len 0 n (length tiles - 1) 0 k) (omega arith)

-- and of its tile's size
pub cut_size : (s : Size) (cells : Cells) (n : ℕ) (p : PatchState) (b : Block) → IsCut s cells n p → b ≡ tile_block s cells n → IsBlockOf p.size n b
cut_size s cells n p b i e = rw (i.size, e) (tile_block_is s cells n)

-- every tile is there
pub cut_all : (s : Size) (cells : Cells) (p : PatchState) → IsCut s cells (tiles_in s) p → HoldsAll p
cut_all s cells p i = HoldsAll-from_numbers p (rw (i.size, i.tiles) (numbers_below (tile_block s cells) 0 (tiles_in s)))

-- all tiles are the grid
pub cut_whole : (s : Size) (cells : Cells) (p : PatchState) → IsSize s → length cells ≡ cells_in s → IsCut s cells (tiles_in s) p → patched s [] p.tiles ≡ cells
cut_whole s cells p h n i =
    let all = cut_all s cells p i in
    patched_to s [] cells p.tiles h n
    (λ t b f. found_below (tile_block s cells) (range_with_len 0 (tiles_in s)) t b (rw (i.tiles) at f))
    (λ t l f. absurd (held t (all t (rw (i.size) l)) f))
  where
    held : (t : ℕ) → IsSome (patch_get p.tiles t) → patch_get p.tiles t ≡ None → ⊥
    held t some none = cc

pub cut_layer : (s : Size) (cells : Cells) (stamp : ℕ) (p : PatchState) (layer : LayerState) → IsSize s → length cells ≡ cells_in s → IsCut s cells (tiles_in s) p → layer ≡ layer_of p.size (patched p.size [] p.tiles) stamp → layer ≡ layer_of s cells stamp
cut_layer s cells stamp p layer h n i e = rw (e, i.size, cut_whole s cells p h n i) refl

-- a tile of one cell everywhere
pub constant_block : (s : Size) (t : ℕ) (c : Option ℤ) → IsSize s → t < tiles_in s → record { height = tile_height s t; width = tile_width s t; cells = replicate (tile_size s t) c } ≡ tile_block s (constant s c).cells t
constant_block s t c h l =
    let n = length-replicate (tile_size s t) c in
    ap (λ (xs : Cells). record { height = tile_height s t; width = tile_width s t; cells = xs })
    (sym (tile_from s (constant s c).cells (replicate (tile_size s t) c) t n
    (λ r k p q.
    get_or-constant s c None (tile_start s t + r * s.columns + k) (here s t r k h l p q).within
    ∙ sym (get_or-replicate (tile_size s t) (r * tile_width s t + k) c None (omega (arith, mul-add-lt r (tile_width s t) k (tile_height s t) p q))))))
