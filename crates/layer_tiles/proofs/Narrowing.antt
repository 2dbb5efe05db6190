-- Tiles of a patch that are left out.
use Rattle.std.proofs.Common.{◌≡◌, ℕ, suc, ◌+◌, ◌*◌, ◌<◌, Bool, true, false, List, [], ◌∷◌, length, get_or, drop, Option, Some, None, ℤ, Decides, refl, sym, ◌∙◌, ap, subst, arith, eqb, cond}
use Rattle.std.specs.List.{All, AllPairs, filter}
use Rattle.std.specs.List.Sorted.{IsStrictlyIncreasing}
use Rattle.std.specs.Option.{option_eq}
use Rattle.std.specs.Ordering.{int_eq}
use Rattle.std.specs.Cmp.Lexicographic.{pointwise_decides}
use Rattle.std.proofs.lemmas.Bool.{eqb-true}
use Rattle.std.proofs.lemmas.Bool.Decides.{Decides-int_eq}
use Rattle.std.proofs.lemmas.List.{get_or_default, get_or-map, get_or-drop, length-map}
use Rattle.std.proofs.lemmas.List.Elements.{All-filter}
use Rattle.std.proofs.lemmas.List.Kept.{AllPairs-filter, AllPairs-from_increasing}
use Rattle.map_nums.specs.Grids.{Size, Cells}
use Rattle.layer_tiles.specs.Cells.{AreCells}
use Rattle.layer_tiles.specs.Tiles.{Block, IsBlockOf, tile_cells, tiles_in}
use Rattle.layer_tiles.specs.Patches.{IsPatch, patch_get, numbers_of}
use Rattle.layer_tiles.specs.Tallies.{TallyState, looked}
use Rattle.layer_tiles.specs.Narrowed.{is_same_tile}
use Rattle.layer_tiles.proofs.Entries.{IsEntry, entry}

-- ---- the test of a tile

decides_cell : (x y : Option ℤ) → Decides (option_eq int_eq x y) (x ≡ y)
decides_cell None None = (λ e. refl, λ e. refl)
decides_cell None (Some y) = (λ e. cc, λ e. cc)
decides_cell (Some x) None = (λ e. cc, λ e. cc)
decides_cell (Some x) (Some y) = (λ e. ap Some ((Decides-int_eq x y).0 e), λ e. (Decides-int_eq x y).1 (cc))

pub decides_tile : (s : Size) (cells : Cells) (e : ℕ × Block) → Decides (is_same_tile s cells e) (tile_cells s cells e.0 ≡ e.1.cells)
unfolding is_same_tile
decides_tile s cells e =
    let d = pointwise_decides decides_cell e.1.cells (tile_cells s cells e.0) in
    (λ t. sym (d.0 t), λ t. d.1 (sym t))

-- ---- what is left is a patch

pairs_rise : (tiles : List (ℕ × Block)) → IsStrictlyIncreasing (numbers_of tiles) → AllPairs (λ (x y : ℕ × Block). x.0 < y.0) tiles
pairs_rise tiles up i j d m l =
    let n = length-map tiles (λ (x : ℕ × Block). x.0) in
    let rise = AllPairs-from_increasing (numbers_of tiles) up i j 0 m (omega (arith, l, n)) in
    let a = get_or-map (λ (x : ℕ × Block). x.0) tiles i d 0 (omega (arith, m, l)) in
    let b = get_or-map (λ (x : ℕ × Block). x.0) tiles j d 0 l in
    omega (arith, rise, a, b)

numbers_increase : (tiles : List (ℕ × Block)) (d : ℕ × Block) → AllPairs (λ (x y : ℕ × Block). x.0 < y.0) tiles → IsStrictlyIncreasing (numbers_of tiles)
numbers_increase tiles d pairs k l =
    let n = length-map tiles (λ (x : ℕ × Block). x.0) in
    let m : k + 1 < length tiles = omega (arith, l, n) in
    let rise = pairs k (k + 1) d (omega arith) m in
    let a = get_or-map (λ (x : ℕ × Block). x.0) tiles k d 0 (omega (arith, m)) in
    let b = get_or-map (λ (x : ℕ × Block). x.0) tiles (k + 1) d 0 m in
    omega (arith, rise, a, b)

-- what holds of each entry holds of a tile that is found
found_all : (P : ℕ → Block → Type 0) (tiles : List (ℕ × Block)) (t : ℕ) (b : Block) → All (λ (e : ℕ × Block). P e.0 e.1) tiles → patch_get tiles t ≡ Some b → P t b
found_all P [] t b a e = cc
found_all P (x ∷ tiles) t b a e = which (eqb x.0 t) refl (found_all P tiles t b (λ k d l. a (suc k) d (omega (arith, l)))) e
  where
    which : (v : Bool) → v ≡ eqb x.0 t → (patch_get tiles t ≡ Some b → P t b) → cond v (Some x.1) (patch_get tiles t) ≡ Some b → P t b
    which true v rest e =
        let h : P x.0 x.1 = a 0 x (omega arith) in
        let same : x.1 ≡ b = cc in
        subst (λ (c : Block). P t c) same (subst (λ (u : ℕ). P u x.1) (eqb-true x.0 t (sym v)) h)
    which false v rest e = rest e

entries_all : (P : ℕ → Block → Type 0) (s : Size) (tiles : List (ℕ × Block)) → IsPatch (record { size = s; tiles = tiles }) → ((t : ℕ) (b : Block) → patch_get tiles t ≡ Some b → P t b) → All (λ (e : ℕ × Block). P e.0 e.1) tiles
entries_all P s tiles p h k d l =
    let e = get_or tiles k d in
    h e.0 e.1 (entry s tiles k e p l (get_or_default tiles k d e l)).found

pub IsPatch-filter : (q : ℕ × Block → Bool) (s : Size) (tiles : List (ℕ × Block)) → IsPatch (record { size = s; tiles = tiles }) → IsPatch (record { size = s; tiles = filter q tiles })
IsPatch-filter q s tiles p = record {
  size = p.size;
  sizes = λ t b. found_all (λ t b. IsBlockOf s t b) (filter q tiles) t b (All-filter q (λ e. IsBlockOf s e.0 e.1) tiles (entries_all (λ t b. IsBlockOf s t b) s tiles p p.sizes));
  are_cells = λ t b. found_all (λ t b. AreCells b.cells) (filter q tiles) t b (All-filter q (λ e. AreCells e.1.cells) tiles (entries_all (λ t b. AreCells b.cells) s tiles p p.are_cells));
  below = λ t b. found_all (λ t b. t < tiles_in s) (filter q tiles) t b (All-filter q (λ e. e.0 < tiles_in s) tiles (entries_all (λ t b. t < tiles_in s) s tiles p p.below));
  ascends = numbers_increase (filter q tiles) (0, record { height = 0; width = 0; cells = [] }) (AllPairs-filter (λ (x y : ℕ × Block). x.0 < y.0) q tiles (pairs_rise tiles p.ascends));
}

-- ---- while they are left out

-- the entry that has its turn
pub left_entry : (s : Size) (tiles now : List (ℕ × Block)) (i : ℕ) (e : ℕ × Block) → IsPatch (record { size = s; tiles = tiles }) → drop i now ≡ drop i tiles → i < length tiles → e ≡ get_or now i e → IsEntry s tiles i e
left_entry s tiles now i e p rest l is =
    let z : i ≡ i + 0 = omega arith in
    let same : get_or now i e ≡ get_or tiles i e =
    ap (λ k. get_or now k e) z
    ∙ sym (get_or-drop i now 0 e)
    ∙ ap (λ (xs : List (ℕ × Block)). get_or xs 0 e) rest
    ∙ get_or-drop i tiles 0 e
    ∙ ap (λ k. get_or tiles k e) (sym z) in
    entry s tiles i e p l (is ∙ same)

pub looked_twice : (i : ℕ) (t : TallyState) → looked 2 (looked (2 * i) t) ≡ looked (2 * (i + 1)) t
looked_twice i t = ap (λ n. record t { looks = n }) (omega arith)
