-- A tile that is painted place by place, a patch of the painted tiles, and one of which only those that differ from a layer are left.
use Rattle.std.proofs.Common.{◌≡◌, ◌≢◌, ℕ, suc, ◌+◌, ◌*◌, ◌<◌, ◌&&◌, nat_le, cond, length, get_or, set, drop, Option, None, ℤ, refl, sym, ◌∙◌, ap, subst, arith, below_more, inl, inr, ◌-◌, ◌≤◌, [], ◌∷◌, ◌++◌, is_some, ⊎_elim, not, true, List, Some, IsSome}
use Rattle.std.proofs.lemmas.List.{get_or-set_same, get_or-set_other, length-set, get_or-take, get_or-drop, get_or_default, length-map, map-append}
use Rattle.std.specs.List.{Contains, All}
use Rattle.std.proofs.lemmas.List.Elements.{Contains-append_left, Contains-push, Contains-push_cases, All-filter, filter_passes}
use Rattle.std.proofs.lemmas.List.FromFn.{get_or-map-range_with_len, length-map-range_with_len}
use Rattle.std.proofs.lemmas.Nat.{div-mul-add, mod-mul-add, mul-add-lt}
use Rattle.map_nums.specs.Grids.{Size, IsSize, Cells, Grid, cells_in}
use Rattle.map_edits.specs.EditForms.{Rectangle}
use Rattle.map_edits.specs.Painting.{holds, painted}
use Rattle.layer_tiles.specs.Tiles.{Block, block_row, tile_block, tile_cells, tiles_in, tile_top, tile_left, tile_height, tile_width, tile_start, IsBlockOf}
use Rattle.layer_tiles.specs.Places.{IsPlaceOf}
use Rattle.layer_tiles.specs.declared.extents.Place.{Place}
use Rattle.layer_tiles.proofs.Rounds.{here}
use Rattle.layer_tiles.proofs.Strides.{tile_from, get_or-strided, same_tile}
use Rattle.live_engine.specs.Painting.{painted_in, IsPainted, MeetsRectangle, ArePainted}
use Rattle.live_engine.proofs.MetTiles.{line_of}
use Rattle.std.proofs.lemmas.Bool.{cases_lt, cond_both, false≢true, true≢false, not-false}
use Rattle.std.proofs.lemmas.Option.{none-some, same_Some}
use Rattle.layer_tiles.specs.Patches.{PatchState, patch_get, patched, numbers_of, IsAboveLast, IsPatch}
use Rattle.layer_tiles.proofs.Found.{Contains-from_get, get-from_Contains}
use Rattle.layer_tiles.proofs.Patching.{block_is, patch_get-push, length-patched, tile_kept, tile_replaced}
use Rattle.layer_tiles.proofs.Whole.{patched_to}
use Rattle.std.specs.Prelude.{◌↔◌}
use Rattle.map_defs.specs.Differences.{changed_tiles}
use Rattle.layer_tiles.specs.Layers.{LayerState, IsLayer}
use Rattle.layer_tiles.specs.Changes.{patched_change}
use Rattle.layer_tiles.specs.Narrowed.{is_same_tile, is_other_tile, narrowed}
use Rattle.layer_tiles.proofs.Entries.{entry}
use Rattle.layer_tiles.proofs.Narrowing.{decides_tile, IsPatch-filter}
use Rattle.map_waves.specs.Operands.{IsOperand}
use Rattle.map_waves.proofs.Unchanged.{unchanged}
use Rattle.map_waves.proofs.Narrowing.{found_all, lost}
use Rattle.op_jobs.proofs.WholeTiles.{numbers_changed}

-- one more place
pub painted_more : (s : Size) (t row column : ℕ) (r : Rectangle) (cell : Option ℤ) (b made new : Block) (p : Place) (these : Cells) (old now : Option ℤ) → IsSize s → t < tiles_in s → IsBlockOf s t b → IsPlaceOf s t p → row < tile_height s t → column < tile_width s t → IsPainted s t r cell b (row * tile_width s t + column) made → these ≡ block_row b row → old ≡ get_or these column old → length these ≡ b.width → now ≡ cond (nat_le r.top (p.top + row + 1) && nat_le (p.top + row + 1) r.bottom && nat_le r.left (p.left + column + 1) && nat_le (p.left + column + 1) r.right) cell old → new ≡ record made { cells = set made.cells (row * made.width + column) now } → IsPainted s t r cell b (row * tile_width s t + (column + 1)) new
painted_more s t row column r cell b made new p these old now h l i place rl cl m e f n g w =
    let k = row * tile_width s t + column in
    let k_lt : k < tile_height s t * tile_width s t = omega (arith, mul-add-lt row (tile_width s t) column (tile_height s t) rl cl) in
    let same : old ≡ get_or b.cells k None =
    f ∙ get_or_default these column old None (omega (arith, n, i.width)) ∙ ap (λ (xs : Cells). get_or xs column None) e
    ∙ get_or-take b.width (drop (row * b.width) b.cells) column None (omega (arith, i.width))
    ∙ get_or-drop (row * b.width) b.cells column None
    ∙ ap (λ x. get_or b.cells (row * x + column) None) i.width in
    let line = line_of s t row column h l cl in
    let below : p.top + row + 1 ≡ suc (tile_top s t + row) = omega (arith, place.top) in
    let right : p.left + column + 1 ≡ suc (tile_left s t + column) = omega (arith, place.left) in
    let there : now ≡ painted_in s t r cell b k = rw (div-mul-add row (tile_width s t) column cl, mod-mul-add row (tile_width s t) column cl, line.0, line.1, ← below, ← right, ← same) g in
    let next : k + 1 ≡ row * tile_width s t + (column + 1) = omega arith in
    subst (λ (j : ℕ). IsPainted s t r cell b j new) next
    (rw (w, m.width)
    record {
      height = m.height;
      width = refl;
      count = length-set made.cells k now ∙ m.count;
      done = below_more _ _
          (λ j q. let ne : j ≢ k = omega arith in get_or-set_other made.cells k j now None ne ∙ m.done j q)
          (get_or-set_same made.cells k now None (omega (arith, m.count)) ∙ there);
    })

-- a cell of the painted grid
pub painted_cell : (g : Grid) (r : Rectangle) (cell : Option ℤ) (i : ℕ) → i < cells_in g.size → get_or (painted g.size r cell g).cells i None ≡ cond (holds g.size r i) cell (get_or g.cells i None)
painted_cell g r cell i l = get_or-map-range_with_len (λ k. cond (holds g.size r k) cell (get_or g.cells k None)) 0 (cells_in g.size) i i None l (omega arith)

-- all places
pub painted_whole : (g : Grid) (t : ℕ) (r : Rectangle) (cell : Option ℤ) (b made : Block) (k : ℕ) → IsSize g.size → t < tiles_in g.size → b ≡ tile_block g.size g.cells t → k ≡ tile_height g.size t * tile_width g.size t → IsPainted g.size t r cell b k made → made ≡ tile_block g.size (painted g.size r cell g).cells t
painted_whole g t r cell b made k h l e n m =
    block_is g.size (painted g.size r cell g).cells t made (record { height = m.height; width = m.width; count = m.count })
    (tile_from g.size (painted g.size r cell g).cells made.cells t m.count
    (λ row column p q.
    let s = g.size in
    let j = row * tile_width s t + column in
    let at = here s t row column h l p q in
    let line = line_of s t row column h l q in
    let within : j < k = omega (arith, mul-add-lt row (tile_width s t) column (tile_height s t) p q) in
    let old : get_or b.cells j None ≡ get_or g.cells (tile_start s t + row * s.columns + column) None =
    ap (λ (x : Block). get_or x.cells j None) e ∙ get_or-strided g.cells (tile_start s t) s.columns (tile_height s t) (tile_width s t) row column j None p q refl in
    painted_cell g r cell (tile_start s t + row * s.columns + column) at.within
    ∙ sym (m.done j within ∙ rw (div-mul-add row (tile_width s t) column q, mod-mul-add row (tile_width s t) column q, old) refl)))

-- ---- a patch of the painted tiles

module _ (g : Grid) (r : Rectangle) (cell : Option ℤ) where
  -- tiles that the rectangle does not meet
  pub are_painted_skip : (n k : ℕ) (p : PatchState) → n ≤ k → ArePainted g r cell n p → ((t : ℕ) → n ≤ t → t < k → MeetsRectangle g.size r t → ⊥) → ArePainted g r cell k p
  are_painted_skip n k p h a apart = record {
    size = a.size;
    held = a.held;
    there = λ t m l. ⊎_elim (λ (q : t < n). a.there t m q) (λ (q : n ≤ t). absurd (apart t q l m)) (cases_lt t n);
    only = λ t i. let o = a.only t i in (o.0, omega (arith, o.1));
  }

  -- none yet
  pub are_painted_none : (p : PatchState) → p.size ≡ g.size → p.tiles ≡ [] → ArePainted g r cell 0 p
  are_painted_none p size none = record {
    size = size;
    held = λ t b i. absurd (none-some b (sym (ap (λ ts. patch_get ts t) none) ∙ i));
    there = λ t m l. absurd (omega (arith, l));
    only = λ t i. absurd (false≢true (ap (λ ts. is_some (patch_get ts t)) (sym none) ∙ i));
  }

  -- a tile that it meets
  pub are_painted_push : (n : ℕ) (p new : PatchState) (b : Block) → ArePainted g r cell n p → MeetsRectangle g.size r n → b ≡ tile_block g.size (painted g.size r cell g).cells n → new ≡ record p { tiles = p.tiles ++ (n, b) ∷ [] } → ArePainted g r cell (n + 1) new
  are_painted_push n p new b a met e f =
      rw (f)
      record {
        size = a.size;
        held = λ t c i. elim (patch_get-push p.tiles n t b c i) [ inl h ↦ a.held t c h | inr h ↦ sym h.1 ∙ e ∙ ap (tile_block g.size (painted g.size r cell g).cells) h.0 ];
        there = λ t m l. get-from_Contains (p.tiles ++ (n, b) ∷ []) t (subst (λ ns. Contains ns t) (sym numbers) (⊎_elim
            (λ (q : t < n). Contains-append_left (numbers_of p.tiles) (n ∷ []) t (Contains-from_get p.tiles t (a.there t m q)))
            (λ (q : n ≤ t). let k : n ≡ t = omega arith in subst (Contains (numbers_of p.tiles ++ n ∷ [])) k (Contains-push (numbers_of p.tiles) n))
            (cases_lt t n)));
        only = λ t i. elim (Contains-push_cases (numbers_of p.tiles) n t (subst (λ ns. Contains ns t) numbers (Contains-from_get (p.tiles ++ (n, b) ∷ []) t i))) [
          | inl h ↦ let o = a.only t (get-from_Contains p.tiles t h) in (o.0, omega (arith, o.1))
          | inr h ↦ (subst (MeetsRectangle g.size r) h met, omega (arith, h))
        ];
      }
    where
      numbers : numbers_of (p.tiles ++ (n, b) ∷ []) ≡ numbers_of p.tiles ++ n ∷ []
      numbers = map-append (λ (x : ℕ × Block). x.0) p.tiles ((n, b) ∷ [])

  -- the next tile is above the last
  pub are_painted_above : (n : ℕ) (p : PatchState) → ArePainted g r cell n p → IsAboveLast p.tiles n
  are_painted_above n p a some =
      let k = length p.tiles - 1 in
      let l : k < length (numbers_of p.tiles) = omega (arith, length-map p.tiles (λ (e : ℕ × Block). e.0)) in
      let u = get_or (numbers_of p.tiles) k 0 in
      (a.only u (get-from_Contains p.tiles u (k, l, get_or_default (numbers_of p.tiles) k u 0 l))).1

  -- the painted grid
  pub are_painted_all : (p : PatchState) → IsSize g.size → ArePainted g r cell (tiles_in g.size) p → patched g.size g.cells p.tiles ≡ (painted g.size r cell g).cells
  are_painted_all p h a =
      patched_to g.size g.cells (painted g.size r cell g).cells p.tiles h (length-map-range_with_len (λ i. cond (holds g.size r i) cell (get_or g.cells i None)) 0 (cells_in g.size)) a.held
      (λ t l none. same_tile g.size g.cells (painted g.size r cell g).cells t
      (λ row column q c.
      let at = here g.size t row column h l q c in
      let i = tile_start g.size t + row * g.size.columns + column in
      sym (painted_cell g r cell i at.within ∙ cond_both (holds g.size r i) cell (get_or g.cells i None) (λ x. x ≡ get_or g.cells i None)
      (λ held. absurd (false≢true (sym (ap is_some none) ∙ a.there t (record { at = i; within = at.within; tile = at.tile; held = held }) l)))
      (λ out. refl))))

-- ---- tiles that differ from a layer

module _ (s : Size) (was : Cells) (held : List (ℕ × Block)) (is : IsPatch (record { size = s; tiles = held })) where
  abbrev after : Cells
  after = patched s was held

  abbrev left : List (ℕ × Block)
  left = narrowed s was held

  entry_is : (t : ℕ) (b : Block) → patch_get held t ≡ Some b → tile_cells s after t ≡ b.cells
  entry_is t b e = tile_replaced s was held t is.size (is.below t b e) b (is.sizes t b e) e

  entries_found : All (λ (e : ℕ × Block). patch_get held e.0 ≡ Some e.1) held
  entries_found k d l =
      let e = get_or held k d in
      (entry s held k e is l (get_or_default held k d e l)).found

  still_found : (t : ℕ) (b : Block) → patch_get left t ≡ Some b → patch_get held t ≡ Some b
  still_found t b e =
      found_all (λ t b. patch_get held t ≡ Some b) left t b (All-filter (is_other_tile s was) (λ (e : ℕ × Block). patch_get held e.0 ≡ Some e.1) held entries_found) e

  -- where nothing is left of a tile it has the old cells
  none_left : (t : ℕ) → t < tiles_in s → patch_get left t ≡ None → (o : Option Block) → patch_get held t ≡ o → tile_cells s after t ≡ tile_cells s was t
  none_left t within none None here = tile_kept s was held t is.size within here
  none_left t within none (Some b) here = entry_is t b here ∙ sym ((decides_tile s was (t, b)).0 (not-false (is_same_tile s was (t, b)) (lost (is_other_tile s was) held t b here none)))

  -- the cells are those of all the patch's tiles
  left_cells : patched s was left ≡ after
  left_cells =
      patched_to s was after left is.size (length-patched s was held)
      (λ t b e. let found = still_found t b e in block_is s after t b (is.sizes t b found) (entry_is t b found))
      (λ t within none. sym (none_left t within none _ refl))

  left_exact : (t : ℕ) → t < tiles_in s → (o : Option Block) → patch_get left t ≡ o → IsSome o ↔ (tile_cells s after t ≢ tile_cells s was t)
  left_exact t within None here = (λ some. absurd (false≢true some), λ other. absurd (other (none_left t within here _ refl)))
  left_exact t within (Some b) here =
      let passes = found_all (λ u c. is_other_tile s was (u, c) ≡ true) left t b (filter_passes (is_other_tile s was) held) here in
      (λ some same. true≢false (sym passes ∙ ap not ((decides_tile s was (t, b)).1 (sym same ∙ entry_is t b (still_found t b here)))), λ other. refl)

-- what is left makes the same cells, and an operand with exactly the changed tiles
pub left_operand : (layer : LayerState) (patch : PatchState) → IsLayer layer → IsPatch patch → patch.size ≡ layer.size
    → (patched layer.size layer.cells (narrowed layer.size layer.cells patch.tiles) ≡ patched layer.size layer.cells patch.tiles)
    × IsOperand layer.size (patched_change layer (record patch { tiles = narrowed layer.size layer.cells patch.tiles }))
left_operand layer patch whole is size =
    let s = layer.size in
    let was = layer.cells in
    let here : IsPatch (record { size = s; tiles = patch.tiles }) = subst (λ (z : Size). IsPatch (record { size = z; tiles = patch.tiles })) size is in
    let left = narrowed s was patch.tiles in
    let cells = left_cells s was patch.tiles here in
    let part : IsPatch (record { size = s; tiles = left }) = IsPatch-filter (is_other_tile s was) s patch.tiles here in
    let exact : numbers_of left ≡ changed_tiles s (Some was) (patched s was left) =
    numbers_changed s (patched s was left) left part was (λ t l. subst (λ (xs : Cells). IsSome (patch_get left t) ↔ (tile_cells s xs t ≢ tile_cells s was t)) (sym cells) (left_exact s was patch.tiles here t l _ refl)) in (
      cells,
      record {
        size = refl;
        exact = λ w e. exact ∙ ap (λ x. changed_tiles s (Some x) (patched s was left)) (same_Some was w e);
        same = λ w e none. sym (unchanged s was (patched s was left) whole.size (sym exact ∙ none) whole.cells (length-patched s was left)) ∙ same_Some was w e;
      },
    )
