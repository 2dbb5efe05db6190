-- What holds of every change, and what follows for its places.
use Rattle.std.proofs.Common.{◌≡◌, ◌⊎◌, inl, inr, ℕ, zero, suc, ◌<◌, List, [], ◌∷◌, length, get_or, ◌+◌, ◌*◌, ◌/◌, ◌%◌, Option, Some, None, IsSome, refl, sym, ◌∙◌, ap, subst, arith}
use Rattle.std.specs.List.{Contains}
use Rattle.std.proofs.lemmas.Bool.{cases_eq}
use Rattle.std.proofs.lemmas.List.FromFn.{length-map-range_with_len}
use Rattle.std.specs.Prelude.{is_some}
use Rattle.map_nums.specs.Grids.{Size, IsSize, Cells, cells_in, cell_at}
use Rattle.layer_tiles.specs.Tiles.{Block, tiles_in, tile_of, tile_cells, tile_start, tile_height, tile_width}
use Rattle.layer_tiles.specs.Patches.{PatchState, IsPatch, HoldsAll, patch_get, numbers_of}
use Rattle.layer_tiles.specs.Layers.{LayerState, IsLayer}
use Rattle.layer_tiles.specs.Changes.{ChangeState, cells_before, same_change, patched_change, fresh_change, constant_change}
use Rattle.layer_tiles.specs.ChangeFacts.{IsChange}
use Rattle.layer_tiles.specs.ChangeBodies.{change_of, IsChangeBody, IsRowOfOne}
use Rattle.layer_tiles.specs.declared.changes.Body.{Body}
use Rattle.layer_tiles.specs.declared.changes.Body.TheVariants.{Same, Patched, Fresh, Constant}
use Rattle.layer_tiles.proofs.Found.{Contains-from_get, get-from_Contains}
use Rattle.layer_tiles.proofs.Patching.{length-patched, tile_kept}
use Rattle.layer_tiles.proofs.Ranged.{AreCells-none, AreCells-patched, AreCells-constant}
use Rattle.layer_tiles.proofs.Rounds.{back}
use Rattle.layer_tiles.proofs.Strides.{get_or-strided}

no_numbers : (t : ℕ) → Contains [] t → ⊥
no_numbers t c = absurd (omega (arith, c.1))

-- the numbers of a patch are tiles of its grid
pub numbers_within : (p : PatchState) → IsPatch p → (t : ℕ) → Contains (numbers_of p.tiles) t → t < tiles_in p.size
numbers_within p h t c = within (patch_get p.tiles t) refl (get-from_Contains p.tiles t c)
  where
    within : (o : Option Block) → o ≡ patch_get p.tiles t → IsSome o → t < tiles_in p.size
    within None e s = cc
    within (Some b) e s = h.below t b (sym e)

-- no tile where its number is missing
not_held : (tiles : List (ℕ × Block)) (t : ℕ) → (Contains (numbers_of tiles) t → ⊥) → (o : Option Block) → patch_get tiles t ≡ o → patch_get tiles t ≡ None
not_held tiles t n None e = e
not_held tiles t n (Some b) e = absurd (n (Contains-from_get tiles t (ap is_some e)))

is_change_same : (l : LayerState) → IsLayer l → IsChange (same_change l)
is_change_same l h = record {
  size = h.size;
  cells = h.cells;
  are_cells = h.are_cells;
  before = λ there. h.cells;
  are_cells_before = h.are_cells;
  ascends = λ k m. absurd (omega (arith, m));
  within = λ t c. absurd (no_numbers t c);
  all_new = λ none t m. cc;
  kept = λ t m n. refl;
}

is_change_patched : (l : LayerState) (p : PatchState) → IsLayer l → IsPatch p → p.size ≡ l.size → IsChange (patched_change l p)
is_change_patched l p h q e = record {
  size = h.size;
  cells = length-patched l.size l.cells p.tiles;
  are_cells = AreCells-patched l.size l.cells p.tiles h.are_cells q.are_cells;
  before = λ there. h.cells;
  are_cells_before = h.are_cells;
  ascends = q.ascends;
  within = λ t c. subst (λ (s : Size). t < tiles_in s) e (numbers_within p q t c);
  all_new = λ none t m. cc;
  kept = λ t m n. sym (tile_kept l.size l.cells p.tiles t h.size m (not_held p.tiles t n (patch_get p.tiles t) refl));
}

is_change_fresh : (p : PatchState) → IsPatch p → HoldsAll p → IsChange (fresh_change p)
is_change_fresh p q all = record {
  size = q.size;
  cells = length-patched p.size [] p.tiles;
  are_cells = AreCells-patched p.size [] p.tiles AreCells-none q.are_cells;
  before = λ there. cc;
  are_cells_before = AreCells-none;
  ascends = q.ascends;
  within = numbers_within p q;
  all_new = λ none t m. Contains-from_get p.tiles t (all t m);
  kept = λ t m n. absurd (n (Contains-from_get p.tiles t (all t m)));
}

is_change_constant : (s : Size) (row : Cells) → IsSize s → IsRowOfOne row → IsChange (constant_change s (cell_at row 0))
is_change_constant s row h o = record {
  size = h;
  cells = length-map-range_with_len (λ i. cell_at row 0) 0 (cells_in s);
  are_cells = AreCells-constant s (cell_at row 0) o.cell;
  before = λ there. length-map-range_with_len (λ i. cell_at row 0) 0 (cells_in s);
  are_cells_before = AreCells-constant s (cell_at row 0) o.cell;
  ascends = λ k m. absurd (omega (arith, m));
  within = λ t c. absurd (no_numbers t c);
  all_new = λ none t m. cc;
  kept = λ t m n. refl;
}

pub is_change : (b : Body) → IsChangeBody b → IsChange (change_of b)
is_change (Same l) h = is_change_same l.now h
is_change (Patched l p) h = is_change_patched l.now p.now h.0 h.1 h.2
is_change (Fresh p) h = is_change_fresh p.now h.0 h.1
is_change (Constant e row) h = is_change_constant e row h.0 h.1

-- ---- what follows

-- a place in a tile that is not touched stays
pub untouched_place : (c : ChangeState) → IsChange c → (i : ℕ) → i < cells_in c.size → (Contains c.touched (tile_of c.size i) → ⊥) → cell_at (cells_before c) i ≡ cell_at c.cells i
untouched_place c h i l n =
    let b = back c.size i h.size l in
    let t = tile_of c.size i in
    let r = i / c.size.columns % 32 in
    let k = i % c.size.columns % 32 in
    let at = r * tile_width c.size t + k in
    sym (read (cells_before c) t r k at b.row b.column refl b.place) ∙ ap (λ (xs : Cells). get_or xs at None) (h.kept t b.tile n) ∙ read c.cells t r k at b.row b.column refl b.place
  where
    read : (cells : Cells) (t r k at : ℕ) → r < tile_height c.size t → k < tile_width c.size t → r * tile_width c.size t + k ≡ at → tile_start c.size t + r * c.size.columns + k ≡ i → get_or (tile_cells c.size cells t) at None ≡ cell_at cells i
    read cells t r k at p q e f = get_or-strided cells (tile_start c.size t) c.size.columns (tile_height c.size t) (tile_width c.size t) r k at None p q e ∙ ap (λ j. get_or cells j None) f

later : (x : ℕ) (xs : List ℕ) (t : ℕ) → (x ≡ t → ⊥) → (Contains xs t → ⊥) → (k : ℕ) → k < length (x ∷ xs) → get_or (x ∷ xs) k t ≡ t → ⊥
later x xs t n m zero l e = n e
later x xs t n m (suc k) l e = m (k, omega (arith, l), e)

-- a list has a number, or it has not
pub Contains-or : (xs : List ℕ) (t : ℕ) → Contains xs t ⊎ (Contains xs t → ⊥)
Contains-or [] t = inr (no_numbers t)
Contains-or (x ∷ xs) t = join (cases_eq x t) (Contains-or xs t)
  where
    join : (x ≡ t) ⊎ (x ≡ t → ⊥) → Contains xs t ⊎ (Contains xs t → ⊥) → Contains (x ∷ xs) t ⊎ (Contains (x ∷ xs) t → ⊥)
    join (inl e) d = inl (0, omega arith, e)
    join (inr n) (inl c) = inl (suc c.0, omega (arith, c.1), c.2)
    join (inr n) (inr m) = inr (λ c. later x xs t n m c.0 c.1 c.2)
