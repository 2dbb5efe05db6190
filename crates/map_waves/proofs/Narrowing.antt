-- A patch of every tile, of which those that differ from a layer are left.
use Rattle.std.proofs.Common.{◌≡◌, ℕ, ◌<◌, ◌==◌, Bool, true, false, not, cond, List, [], ◌∷◌, filter, get_or, Option, Some, None, is_some, refl, sym, ap, subst, ◌∙◌, arith}
use Rattle.std.specs.List.{All}
use Rattle.std.proofs.lemmas.Bool.{true≢false, false≢true, eqb-true}
use Rattle.std.proofs.lemmas.List.{ext_get_or, get_or_default}
use Rattle.std.proofs.lemmas.List.Elements.{All-head, All-tail, All-filter}
use Rattle.std.proofs.lemmas.Option.{none-some}
use Rattle.map_nums.specs.Grids.{Size, Cells, cells_in}
use Rattle.map_nums.specs.Tiles.{tiles, tiles_in, tile_of}
use Rattle.map_defs.specs.Differences.{differs, tile_has, changed_tiles}
use Rattle.layer_tiles.specs.Tiles.{Block, tile_cells}
use Rattle.layer_tiles.specs.Patches.{IsPatch, HoldsAll, patch_get, patched, numbers_of}
use Rattle.layer_tiles.specs.Narrowed.{is_same_tile, is_other_tile, narrowed}
use Rattle.layer_tiles.proofs.Entries.{entry}
use Rattle.layer_tiles.proofs.Narrowing.{decides_tile}
use Rattle.layer_tiles.proofs.Patching.{length-patched, tile_kept, tile_replaced}
use Rattle.layer_tiles.proofs.Rounds.{back}
use Rattle.map_waves.proofs.Unchanged.{same_of_quiet, quiet_of_same, cell_of_tile}

-- the numbers of the entries that pass are those that pass
filter_numbers : (q : ℕ × Block → Bool) (h : ℕ → Bool) (tiles : List (ℕ × Block)) → All (λ (e : ℕ × Block). q e ≡ h e.0) tiles → numbers_of (filter q tiles) ≡ filter h (numbers_of tiles)
filter_numbers q h [] all = refl
filter_numbers q h (e ∷ tiles) all = go (q e) (h e.0) (All-head (λ (e : ℕ × Block). q e ≡ h e.0) e tiles all) (filter_numbers q h tiles (All-tail (λ (e : ℕ × Block). q e ≡ h e.0) e tiles all))
  where
    go : (a b : Bool) → a ≡ b → numbers_of (filter q tiles) ≡ filter h (numbers_of tiles) → numbers_of (cond a (e ∷ filter q tiles) (filter q tiles)) ≡ cond b (e.0 ∷ filter h (numbers_of tiles)) (filter h (numbers_of tiles))
    go true true same rest = ap (λ ns. e.0 ∷ ns) rest
    go false false same rest = rest
    go true false same rest = absurd (true≢false same)
    go false true same rest = absurd (false≢true same)

-- a tile that is found is one of the entries
pub found_all : (P : ℕ → Block → Type 0) (tiles : List (ℕ × Block)) (t : ℕ) (b : Block) → All (λ (e : ℕ × Block). P e.0 e.1) tiles → patch_get tiles t ≡ Some b → P t b
found_all P [] t b all e = absurd (none-some b e)
found_all P (x ∷ tiles) t b all e = go (x.0 == t) refl e (found_all P tiles t b (All-tail (λ (e : ℕ × Block). P e.0 e.1) x tiles all))
  where
    go : (v : Bool) → (x.0 == t) ≡ v → cond v (Some x.1) (patch_get tiles t) ≡ Some b → (patch_get tiles t ≡ Some b → P t b) → P t b
    go true v e rest =
        let same : x.1 ≡ b = cc in
        subst (λ (c : Block). P t c) same (subst (λ (u : ℕ). P u x.1) (eqb-true x.0 t v) (All-head (λ (e : ℕ × Block). P e.0 e.1) x tiles all))
    go false v e rest = rest e

-- a tile that was found and isn't any more doesn't pass
pub lost : (q : ℕ × Block → Bool) (tiles : List (ℕ × Block)) (t : ℕ) (b : Block) → patch_get tiles t ≡ Some b → patch_get (filter q tiles) t ≡ None → q (t, b) ≡ false
lost q [] t b is none = absurd (none-some b is)
lost q (x ∷ tiles) t b is none = go (q x) refl (x.0 == t) refl is none (lost q tiles t b)
  where
    go : (p : Bool) → q x ≡ p → (v : Bool) → (x.0 == t) ≡ v → cond v (Some x.1) (patch_get tiles t) ≡ Some b → patch_get (cond p (x ∷ filter q tiles) (filter q tiles)) t ≡ None
        → (patch_get tiles t ≡ Some b → patch_get (filter q tiles) t ≡ None → q (t, b) ≡ false) → q (t, b) ≡ false
    go true p true v is none rest = absurd (none-some x.1 (sym none ∙ ap (λ w. cond w (Some x.1) (patch_get (filter q tiles) t)) v))
    go true p false v is none rest = rest is (sym (ap (λ w. cond w (Some x.1) (patch_get (filter q tiles) t)) v) ∙ none)
    go false p true v is none rest =
        let same : x.1 ≡ b = cc in
        ap (λ u. q (u, b)) (sym (eqb-true x.0 t v)) ∙ ap (λ c. q (x.0, c)) (sym same) ∙ p
    go false p false v is none rest = rest is none

module _ (s : Size) (was : Cells) (tiles_held : List (ℕ × Block)) (is : IsPatch (record { size = s; tiles = tiles_held })) (numbers : numbers_of tiles_held ≡ tiles s) (all : HoldsAll (record { size = s; tiles = tiles_held })) where
  abbrev now : Cells
  now = patched s [] tiles_held

  abbrev left : List (ℕ × Block)
  left = narrowed s was tiles_held

  entry_is : (t : ℕ) (b : Block) → patch_get tiles_held t ≡ Some b → tile_cells s now t ≡ b.cells
  entry_is t b e = tile_replaced s [] tiles_held t is.size (is.below t b e) b (is.sizes t b e) e

  same_is_quiet : (t : ℕ) (b : Block) → patch_get tiles_held t ≡ Some b → is_other_tile s was (t, b) ≡ tile_has s (differs was now) t
  same_is_quiet t b e = go (is_same_tile s was (t, b)) refl (tile_has s (differs was now) t) refl
    where
      go : (v : Bool) → is_same_tile s was (t, b) ≡ v → (w : Bool) → tile_has s (differs was now) t ≡ w → not v ≡ w
      go true v false w = refl
      go false v true w = refl
      go true v true w = absurd (true≢false (sym w ∙ quiet_of_same s was now is.size t ((decides_tile s was (t, b)).0 v ∙ sym (entry_is t b e))))
      go false v false w = absurd (false≢true (sym v ∙ (decides_tile s was (t, b)).1 (same_of_quiet s was now is.size t (is.below t b e) w ∙ entry_is t b e)))

  entries_found : All (λ (e : ℕ × Block). patch_get tiles_held e.0 ≡ Some e.1) tiles_held
  entries_found k d l =
      let e = get_or tiles_held k d in
      (entry s tiles_held k e is l (get_or_default tiles_held k d e l)).found

  -- the numbers are those of the tiles that changed
  pub narrowed_exact : numbers_of left ≡ changed_tiles s (Some was) now
  unfolding changed_tiles
  narrowed_exact =
      filter_numbers (is_other_tile s was) (tile_has s (differs was now)) tiles_held
      (λ k d l. let e = get_or tiles_held k d in same_is_quiet e.0 e.1 (entries_found k d l))
      ∙ ap (filter (tile_has s (differs was now))) numbers

  still_found : (t : ℕ) (b : Block) → patch_get left t ≡ Some b → patch_get tiles_held t ≡ Some b
  still_found t b e =
      found_all (λ t b. patch_get tiles_held t ≡ Some b) left t b (All-filter (is_other_tile s was) (λ (e : ℕ × Block). patch_get tiles_held e.0 ≡ Some e.1) tiles_held entries_found) e

  tile_after : (t : ℕ) → t < tiles_in s → tile_cells s (patched s was left) t ≡ tile_cells s now t
  tile_after t within = go (patch_get left t) refl (patch_get tiles_held t) refl (all t within)
    where
      go : (o : Option Block) → patch_get left t ≡ o → (p : Option Block) → patch_get tiles_held t ≡ p → is_some (patch_get tiles_held t) ≡ true → tile_cells s (patched s was left) t ≡ tile_cells s now t
      go (Some b) o p q there =
          let found = still_found t b o in
          tile_replaced s was left t is.size within b (is.sizes t b found) o ∙ sym (entry_is t b found)
      go None o None q there = absurd (false≢true (sym (ap is_some q) ∙ there))
      go None o (Some b) q there =
          let none : is_other_tile s was (t, b) ≡ false = lost (is_other_tile s was) tiles_held t b q o in
          let quiet : tile_has s (differs was now) t ≡ false = sym (same_is_quiet t b q) ∙ none in
          tile_kept s was left t is.size within o ∙ same_of_quiet s was now is.size t within quiet

  -- and the cells are those of all tiles
  pub narrowed_cells : patched s was left ≡ now
  narrowed_cells =
      let n = length-patched s was left in
      let m = length-patched s [] tiles_held in
      ext_get_or None (patched s was left) now (n ∙ sym m)
      (λ i h.
      let within : i < cells_in s = omega (arith, h, n) in
      cell_of_tile s (patched s was left) now is.size i within (tile_after (tile_of s i) (back s i is.size within).tile))
