-- Tiles of a patch that are swapped with those of a grid, one after another.
use Rattle.std.proofs.Common.{◌≡◌, ◌≢◌, ◌⊎◌, inl, inr, ℕ, zero, suc, ◌+◌, ◌<◌, ◌≤◌, Bool, true, false, List, [], ◌∷◌, ◌++◌, length, get_or, set, map, take, drop, Option, Some, None, ℤ, refl, sym, ◌∙◌, ap, subst, arith, eqb, cond, IsSome}
use Rattle.std.specs.List.Sorted.{IsStrictlyIncreasing}
use Rattle.std.proofs.lemmas.Bool.{eqb-true, eq-eqb}
use Rattle.std.proofs.lemmas.List.{ext_get_or, append-nil, map-set, set-get_or, length-map, length-take-le, take_all, drop_all, drop_at}
use Rattle.std.proofs.lemmas.List.Edits.{map_over_more}
use Rattle.std.proofs.lemmas.List.FromFn.{fill_by_all}
use Rattle.map_nums.specs.Grids.{Size, Cells, cells_in}
use Rattle.layer_tiles.specs.Cells.{AreCells}
use Rattle.layer_tiles.specs.Tiles.{Block, IsBlockOf, tile_block, tile_cells, tile_height, tile_width, tile_of, place_in, tiles_in}
use Rattle.layer_tiles.specs.Patches.{IsPatch, patch_get, numbers_of, patched, cell_after, cell_or}
use Rattle.layer_tiles.specs.Wholes.{IsWhole}
use Rattle.layer_tiles.specs.Exchanges.{tiles_at}
use Rattle.layer_tiles.proofs.Entries.{IsEntry, entry}
use Rattle.layer_tiles.proofs.Patching.{length-patched, patched_get, tile_kept}
use Rattle.layer_tiles.proofs.AllTiles.{whole_number, whole_tile}
use Rattle.layer_tiles.proofs.Narrowing.{left_entry}
use Rattle.layer_tiles.proofs.Whole.{tile_block_is}

-- what a list has once an entry was replaced by one of its number
patch_get-set : (tiles : List (ℕ × Block)) (k t u : ℕ) (b : Block) → k < length tiles → get_or (numbers_of tiles) k 0 ≡ t → ((j : ℕ) → j < k → get_or (numbers_of tiles) j 0 ≢ t) → patch_get (set tiles k (t, b)) u ≡ cond (eqb t u) (Some b) (patch_get tiles u)
patch_get-set [] k t u b l here other = absurd (omega (arith, l))
patch_get-set (x ∷ tiles) zero t u b l here other = first (eqb t u) refl
  where
    first : (v : Bool) → v ≡ eqb t u → cond v (Some b) (patch_get tiles u) ≡ cond v (Some b) (cond (eqb x.0 u) (Some x.1) (patch_get tiles u))
    first true v = refl
    first false v = let e : eqb x.0 u ≡ false = ap (λ z. eqb z u) here ∙ sym v in rw (e) refl
patch_get-set (x ∷ tiles) (suc k) t u b l here other = later (eqb x.0 u) refl (eqb t u) refl (patch_get-set tiles k t u b (omega (arith, l)) here (λ j m. other (suc j) (omega (arith, m))))
  where
    later : (v : Bool) → v ≡ eqb x.0 u → (w : Bool) → w ≡ eqb t u → patch_get (set tiles k (t, b)) u ≡ cond w (Some b) (patch_get tiles u) → cond v (Some x.1) (patch_get (set tiles k (t, b)) u) ≡ cond w (Some b) (cond v (Some x.1) (patch_get tiles u))
    later true v true w e = absurd (other 0 (omega arith) (eqb-true x.0 u (sym v) ∙ sym (eqb-true t u (sym w))))
    later true v false w e = refl
    later false v true w e = e
    later false v false w e = e

-- what a list has with one more entry of a new number
patch_get-fresh : (tiles : List (ℕ × Block)) (t u : ℕ) (b : Block) → patch_get tiles t ≡ None → patch_get (tiles ++ (t, b) ∷ []) u ≡ cond (eqb t u) (Some b) (patch_get tiles u)
patch_get-fresh [] t u b none = refl
patch_get-fresh (x ∷ tiles) t u b none = each (eqb x.0 t) refl (eqb x.0 u) refl (eqb t u) refl none (patch_get-fresh tiles t u b)
  where
    each : (v : Bool) → v ≡ eqb x.0 t → (w : Bool) → w ≡ eqb x.0 u → (y : Bool) → y ≡ eqb t u → cond v (Some x.1) (patch_get tiles t) ≡ None → (patch_get tiles t ≡ None → patch_get (tiles ++ (t, b) ∷ []) u ≡ cond y (Some b) (patch_get tiles u)) → cond w (Some x.1) (patch_get (tiles ++ (t, b) ∷ []) u) ≡ cond y (Some b) (cond w (Some x.1) (patch_get tiles u))
    each true p w q y r none rest = cc
    each false p true q true r none rest = let e = eq-eqb x.0 t (eqb-true x.0 u (sym q) ∙ sym (eqb-true t u (sym r))) in cc
    each false p true q false r none rest = refl
    each false p false q y r none rest = rest none

replaced : (t u : ℕ) (b c : Block) (o : Option Block) → cond (eqb t u) (Some b) o ≡ Some c → ((t ≡ u) × (b ≡ c)) ⊎ (o ≡ Some c)
replaced t u b c o e = which (eqb t u) refl e
  where
    which : (v : Bool) → v ≡ eqb t u → cond v (Some b) o ≡ Some c → ((t ≡ u) × (b ≡ c)) ⊎ (o ≡ Some c)
    which true v e = inl (eqb-true t u (sym v), cc)
    which false v e = inr e

still : (v : Bool) (b : Block) (o : Option Block) → IsSome o → IsSome (cond v (Some b) o)
still true b o i = refl
still false b o i = i

-- a tile of the grid is put in
module _ (s : Size) (tiles : List (ℕ × Block)) (t : ℕ) (b : Block) (w : IsWhole s tiles) (l : t < tiles_in s) where
  set_get : (u : ℕ) → patch_get (set tiles t (t, b)) u ≡ cond (eqb t u) (Some b) (patch_get tiles u)
  set_get u =
      let n = whole_number s tiles t w l in
      patch_get-set tiles t t u b n.0 n.1 (λ j m e. let k = whole_number s tiles j w (omega (arith, m, l)) in omega (arith, m, e, k.1))

  set_numbers : numbers_of (set tiles t (t, b)) ≡ numbers_of tiles
  set_numbers =
      let n = whole_number s tiles t w l in
      map-set (λ (x : ℕ × Block). x.0) tiles t (t, b) ∙ ap (λ x. set (numbers_of tiles) t x) (sym n.1) ∙ set-get_or (numbers_of tiles) t 0

  whole_set : IsBlockOf s t b → AreCells b.cells → IsWhole s (set tiles t (t, b))
  whole_set z q = record {
    patch = record {
      size = w.patch.size;
      sizes = λ u c f. elim (replaced t u b c (patch_get tiles u) (sym (set_get u) ∙ f)) [ inl g ↦ rw (← g.0, ← g.1) z | inr g ↦ w.patch.sizes u c g ];
      are_cells = λ u c f. elim (replaced t u b c (patch_get tiles u) (sym (set_get u) ∙ f)) [ inl g ↦ subst (λ (d : Block). AreCells d.cells) g.1 q | inr g ↦ w.patch.are_cells u c g ];
      below = λ u c f. elim (replaced t u b c (patch_get tiles u) (sym (set_get u) ∙ f)) [ inl g ↦ rw (← g.0) l | inr g ↦ w.patch.below u c g ];
      ascends = subst (λ (xs : List ℕ). IsStrictlyIncreasing xs) (sym set_numbers) w.patch.ascends;
    };
    all = λ u m. subst (λ (o : Option Block). IsSome o) (sym (set_get u)) (still (eqb t u) b (patch_get tiles u) (w.all u m));
  }

  cells_set : (cells these : Cells) (done : List (ℕ × Block)) → patch_get done t ≡ None → patched s cells tiles ≡ patched s these done → patched s cells (set tiles t (t, b)) ≡ patched s these (done ++ (t, b) ∷ [])
  cells_set cells these done fresh e =
      ext_get_or None (patched s cells (set tiles t (t, b))) (patched s these (done ++ (t, b) ∷ []))
      (length-patched s cells (set tiles t (t, b)) ∙ sym (length-patched s these (done ++ (t, b) ∷ [])))
      (λ k m.
      let i : k < cells_in s = omega (arith, m, length-patched s cells (set tiles t (t, b))) in
      let same = sym (patched_get s cells tiles k i) ∙ ap (λ (xs : Cells). get_or xs k None) e ∙ patched_get s these done k i in
      patched_get s cells (set tiles t (t, b)) k i
      ∙ ap (λ (o : Option Block). cell_or o (place_in s k) (get_or cells k None)) (set_get (tile_of s k))
      ∙ joined (eqb t (tile_of s k)) (patch_get tiles (tile_of s k)) (patch_get done (tile_of s k)) (place_in s k) (get_or cells k None) (get_or these k None) same
      ∙ sym (ap (λ (o : Option Block). cell_or o (place_in s k) (get_or these k None)) (patch_get-fresh done t (tile_of s k) b fresh))
      ∙ sym (patched_get s these (done ++ (t, b) ∷ []) k i))
    where
      joined : (v : Bool) (o p : Option Block) (k : ℕ) (x y : Option ℤ) → cell_or o k x ≡ cell_or p k y → cell_or (cond v (Some b) o) k x ≡ cell_or (cond v (Some b) p) k y
      joined true o p k x y e = refl
      joined false o p k x y e = e

patched-none : (s : Size) (cells : Cells) → length cells ≡ cells_in s → cells ≡ patched s cells []
unfolding patched
patched-none s cells n = fill_by_all (cell_after s cells []) cells (cells_in s) None n (λ k l. refl)

-- the first i entries are swapped, and the grid has theirs
pub record Swapping (s : Size) (entries tiles swapped new : List (ℕ × Block)) (i : ℕ) : Type 0 where
  pub entries_swapped : swapped ≡ tiles_at s (patched s [] tiles) (take i entries) ++ drop i entries
  pub whole : IsWhole s new
  pub cells : patched s [] new ≡ patched s (patched s [] tiles) (take i entries)

pub swapping_none : (s : Size) (entries tiles : List (ℕ × Block)) → IsWhole s tiles → Swapping s entries tiles entries tiles 0
swapping_none s entries tiles w = record { entries_swapped = refl; whole = w; cells = patched-none s (patched s [] tiles) (length-patched s [] tiles) }

module _ (s : Size) (entries tiles swapped new : List (ℕ × Block)) (i : ℕ) (e : ℕ × Block) (patch : IsPatch (record { size = s; tiles = entries })) (m : Swapping s entries tiles swapped new i) (l : i < length entries) (is : e ≡ get_or swapped i e) where
  -- the entry that has its turn is one of the patch
  pub swapped_entry : IsEntry s entries i e
  swapped_entry =
      let give : ℕ × Block → ℕ × Block = λ x. (x.0, tile_block s (patched s [] tiles) x.0) in
      let n : length (map give (take i entries)) ≡ i = length-map (take i entries) give ∙ length-take-le i entries (omega (arith, l)) in
      left_entry s entries swapped i e patch (ap (λ (xs : List (ℕ × Block)). drop i xs) m.entries_swapped ∙ drop_at (map give (take i entries)) (drop i entries) i n) l is

  -- its number is that of a tile of the grid
  pub swapped_number : (e.0 < length new) × (get_or (numbers_of new) e.0 0 ≡ e.0)
  swapped_number = whole_number s new e.0 m.whole swapped_entry.within

  -- the tile there is the one that was there at first
  own_tile : (x : ℕ × Block) → x ≡ get_or new e.0 x → x ≡ (e.0, tile_block s (patched s [] tiles) e.0)
  own_tile x there =
      let h = swapped_entry in
      let n = swapped_number in
      let o = entry s new e.0 x m.whole.patch n.0 there in
      let number : x.0 ≡ e.0 = sym o.number ∙ n.1 in
      let now : x.1 ≡ tile_block s (patched s [] new) x.0 = whole_tile s new x.0 x.1 m.whole o.within o.found in
      let kept : tile_cells s (patched s [] new) e.0 ≡ tile_cells s (patched s [] tiles) e.0 = rw (m.cells) (tile_kept s (patched s [] tiles) (take i entries) e.0 patch.size h.within h.fresh) in
      let block : tile_block s (patched s [] new) e.0 ≡ tile_block s (patched s [] tiles) e.0 = ap (λ (cells : Cells). record { height = tile_height s e.0; width = tile_width s e.0; cells = cells }) kept in
      let first : x.1 ≡ tile_block s (patched s [] tiles) e.0 = now ∙ ap (λ (t : ℕ). tile_block s (patched s [] new) t) number ∙ block in
      let pair : ℕ → Block → ℕ × Block = λ t b. (t, b) in
      ap (λ (b : Block). pair x.0 b) first ∙ ap (λ (t : ℕ). pair t (tile_block s (patched s [] tiles) e.0)) number

  -- it is swapped
  pub swapping_more : (x : ℕ × Block) → x ≡ get_or new e.0 x → Swapping s entries tiles (set swapped i x) (set new e.0 e) (i + 1)
  swapping_more x there =
      let h = swapped_entry in
      record {
        entries_swapped = rw (own_tile x there) (map_over_more (λ (y : ℕ × Block). (y.0, tile_block s (patched s [] tiles) y.0)) entries swapped i e l m.entries_swapped is);
        whole = whole_set s new e.0 e.1 m.whole h.within h.size (patch.are_cells e.0 e.1 h.found);
        cells = rw (h.more) (cells_set s new e.0 e.1 m.whole h.within [] (patched s [] tiles) (take i entries) h.fresh m.cells);
      }

-- all are swapped
pub swapping_all : (s : Size) (entries tiles swapped new : List (ℕ × Block)) (i : ℕ) → Swapping s entries tiles swapped new i → length entries ≤ i → (swapped ≡ tiles_at s (patched s [] tiles) entries) × (patched s [] new ≡ patched s (patched s [] tiles) entries)
swapping_all s entries tiles swapped new i m l =
    let all = take_all i entries l in (
      m.entries_swapped ∙ rw (all, drop_all i entries l) (append-nil (tiles_at s (patched s [] tiles) entries)),
      m.cells ∙ ap (λ (xs : List (ℕ × Block)). patched s (patched s [] tiles) xs) all,
    )

-- ---- what is taken is a patch

numbers-tiles_at : (s : Size) (cells : Cells) (entries : List (ℕ × Block)) → numbers_of (tiles_at s cells entries) ≡ numbers_of entries
numbers-tiles_at s cells [] = refl
numbers-tiles_at s cells (x ∷ entries) = ap (λ (xs : List ℕ). x.0 ∷ xs) (numbers-tiles_at s cells entries)

found_at : (s : Size) (cells : Cells) (entries : List (ℕ × Block)) (t : ℕ) (b : Block) → patch_get (tiles_at s cells entries) t ≡ Some b → (b ≡ tile_block s cells t) × IsSome (patch_get entries t)
found_at s cells [] t b e = cc
found_at s cells (x ∷ entries) t b e = at_first (eqb x.0 t) refl (found_at s cells entries t b) e
  where
    at_first : (v : Bool) → v ≡ eqb x.0 t → (patch_get (tiles_at s cells entries) t ≡ Some b → (b ≡ tile_block s cells t) × IsSome (patch_get entries t)) → cond v (Some (tile_block s cells x.0)) (patch_get (tiles_at s cells entries) t) ≡ Some b → (b ≡ tile_block s cells t) × IsSome (cond v (Some x.1) (patch_get entries t))
    at_first true v later e = let same : b ≡ tile_block s cells x.0 = cc in (same ∙ ap (λ (u : ℕ). tile_block s cells u) (eqb-true x.0 t (sym v)), refl)
    at_first false v later e = later e

pub IsPatch-tiles_at : (s : Size) (entries tiles : List (ℕ × Block)) → IsPatch (record { size = s; tiles = entries }) → IsWhole s tiles → IsPatch (record { size = s; tiles = tiles_at s (patched s [] tiles) entries })
IsPatch-tiles_at s entries tiles p w = record {
  size = p.size;
  sizes = λ t b e. rw ((found t b e).0) (tile_block_is s (patched s [] tiles) t);
  are_cells = λ t b e. let f = found t b e in own t b f.0 (within t (patch_get entries t) refl f.1) (patch_get tiles t) refl (w.all t (within t (patch_get entries t) refl f.1));
  below = λ t b e. within t (patch_get entries t) refl (found t b e).1;
  ascends = subst (λ (xs : List ℕ). IsStrictlyIncreasing xs) (sym (numbers-tiles_at s (patched s [] tiles) entries)) p.ascends;
}
  where
    found : (t : ℕ) (b : Block) → patch_get (tiles_at s (patched s [] tiles) entries) t ≡ Some b → (b ≡ tile_block s (patched s [] tiles) t) × IsSome (patch_get entries t)
    found t b e = found_at s (patched s [] tiles) entries t b e

    within : (t : ℕ) (o : Option Block) → o ≡ patch_get entries t → IsSome o → t < tiles_in s
    within t None e i = cc
    within t (Some b) e i = p.below t b (sym e)

    own : (t : ℕ) (b : Block) → b ≡ tile_block s (patched s [] tiles) t → t < tiles_in s → (o : Option Block) → o ≡ patch_get tiles t → IsSome o → AreCells b.cells
    own t b is l None e i = cc
    own t b is l (Some c) e i = subst (λ (d : Block). AreCells d.cells) (whole_tile s tiles t c w l (sym e) ∙ sym is) (w.patch.are_cells t c (sym e))
