-- Lists of cells that are null or in range.
use Rattle.std.proofs.Common.{◌≡◌, ℕ, zero, suc, ◌+◌, ◌*◌, ◌/◌, ◌%◌, ◌<◌, List, [], ◌∷◌, length, get_or, set, replicate, Option, Some, None, ℤ, refl, sym, ◌∙◌, ap, subst, arith, ⊎_elim, slice_index_or}
use Rattle.std.proofs.lemmas.Bool.{cases_eq}
use Rattle.std.proofs.lemmas.List.{get_or-replicate, length-replicate, get_or-set_same, get_or-set_other, length-set}
use Rattle.std.proofs.lemmas.List.FromFn.{get_or-map-range_with_len, length-map-range_with_len}
use Rattle.map_nums.specs.Grids.{Size, Cells, cells_in, constant}
use Rattle.layer_tiles.specs.Cells.{IsCell, AreCells}
use Rattle.layer_tiles.specs.Tiles.{Block, tile_of, place_in, strided}
use Rattle.layer_tiles.specs.Patches.{patch_get, patched, cell_or}
use Rattle.layer_tiles.specs.ChangeBodies.{IsRowOfOne}
use Rattle.layer_tiles.proofs.Strides.{length-strided}
use Rattle.layer_tiles.proofs.Patching.{length-patched, patched_get, get_or-constant}

each_from : (cells : Cells) → ((i : ℕ) → i < length cells → IsCell (get_or cells i None)) → (i : ℕ) → IsCell (get_or cells i None)
each_from [] h zero = tt
each_from [] h (suc i) = tt
each_from (c ∷ cells) h zero = h 0 (omega arith)
each_from (c ∷ cells) h (suc i) = each_from cells (λ j l. h (suc j) (omega arith)) i

-- those within the list are enough
pub AreCells-from : (cells : Cells) → ((i : ℕ) → i < length cells → IsCell (get_or cells i None)) → AreCells cells
AreCells-from cells h = record { each = each_from cells h }

pub AreCells-none : AreCells []
AreCells-none = AreCells-from [] (λ i l. absurd (omega (arith, l)))

pub AreCells-replicate : (n : ℕ) (c : Option ℤ) → IsCell c → AreCells (replicate n c)
AreCells-replicate n c h = AreCells-from (replicate n c) (λ i l. let m : i < n = omega (arith, length-replicate n c) in subst (λ x. IsCell x) (sym (get_or-replicate n i c None m)) h)

-- one cell was set
pub AreCells-set : (cells : Cells) (k : ℕ) (c : Option ℤ) → AreCells cells → IsCell c → AreCells (set cells k c)
AreCells-set cells k c a h =
    AreCells-from (set cells k c)
    (λ i l. ⊎_elim
    (λ (e : i ≡ k).
    let m : k < length cells = omega (arith, length-set cells k c) in
    subst (λ x. IsCell x) (sym (ap (λ j. get_or (set cells k c) j None) e ∙ get_or-set_same cells k c None m)) h)
    (λ (n : i ≡ k → ⊥). subst (λ x. IsCell x) (sym (get_or-set_other cells k i c None n)) (a.each i))
    (cases_eq i k))

-- rows of a list
pub AreCells-strided : (cells : Cells) (start stride height width : ℕ) → AreCells cells → AreCells (strided cells start stride height width)
unfolding strided
AreCells-strided cells start stride height width a =
    AreCells-from (strided cells start stride height width)
    (λ i l.
    let m : i < height * width = omega (arith, length-strided cells start stride height width) in
    subst (λ x. IsCell x) (sym (get_or-map-range_with_len (λ n. slice_index_or cells (start + n / width * stride + n % width) None) 0 (height * width) i i None m (omega arith))) (a.each (start + i / width * stride + i % width)))

-- one cell everywhere
pub AreCells-constant : (s : Size) (c : Option ℤ) → IsCell c → AreCells (constant s c).cells
AreCells-constant s c h =
    AreCells-from (constant s c).cells
    (λ i l. let m : i < cells_in s = omega (arith, length-map-range_with_len (λ k. c) 0 (cells_in s)) in subst (λ x. IsCell x) (sym (get_or-constant s c None i m)) h)

pub AreCells-one : (row : Cells) → IsRowOfOne row → AreCells row
AreCells-one row o = AreCells-from row (λ i l. subst (λ x. IsCell x) (sym (o.one i (omega (arith, o.count)))) o.cell)

-- tiles were replaced
pub AreCells-patched : (s : Size) (cells : Cells) (tiles : List (ℕ × Block)) → AreCells cells → ((t : ℕ) (b : Block) → patch_get tiles t ≡ Some b → AreCells b.cells) → AreCells (patched s cells tiles)
AreCells-patched s cells tiles a held =
    AreCells-from (patched s cells tiles)
    (λ i l.
    let m : i < cells_in s = omega (arith, length-patched s cells tiles) in
    subst (λ x. IsCell x) (sym (patched_get s cells tiles i m)) (cell_after (tile_of s i) (place_in s i) (get_or cells i None) (a.each i) (patch_get tiles (tile_of s i)) refl))
  where
    cell_after : (t k : ℕ) (c : Option ℤ) → IsCell c → (o : Option Block) → o ≡ patch_get tiles t → IsCell (cell_or o k c)
    cell_after t k c h None e = h
    cell_after t k c h (Some b) e = (held t b (sym e)).each k
