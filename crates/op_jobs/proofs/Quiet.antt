-- Tiles whose cells stay, and a patch of exactly those that changed.
use Rattle.std.proofs.Common.{◌≡◌, ℕ, ◌+◌, ◌*◌, ◌/◌, ◌%◌, ◌<◌, Bool, true, false, List, get_or, Option, None, refl, sym, ◌∙◌, ap, ℤ, cond, [], ◌∷◌, length, map, Some, arith, eqb}
use Rattle.std.specs.Prelude.{◌==◌, unwrap_or, is_some}
use Rattle.std.specs.List.{filter, Contains}
use Rattle.std.proofs.lemmas.Bool.{eqb-true, eq-eqb, false_from_ne_true, both_ways}
use Rattle.map_nums.specs.Grids.{Size, IsSize, Cells, cells_in, cell_at}
use Rattle.map_nums.specs.Tiles.{tiles_in, tile_of, tile_start, tile_height, tile_width, tiles}
use Rattle.map_defs.specs.Differences.{differs, tile_has, changed_tiles}
use Rattle.layer_tiles.specs.Tiles.{tile_cells, tile_block, Block}
use Rattle.layer_tiles.specs.Patches.{patch_get, numbers_of, patched}
use Rattle.layer_tiles.proofs.Rounds.{here, back}
use Rattle.layer_tiles.proofs.Strides.{same_tile, get_or-strided}
use Rattle.layer_tiles.proofs.Whole.{patched_to}
use Rattle.layer_tiles.proofs.Found.{get-from_Contains}
use Rattle.damage_sets.proofs.Whole.{any_so, any_one}
use Rattle.changed_cells.proofs.Joining.{differs_is, differs_not}
use Rattle.op_jobs.specs.Changed.{is_changed}
use Rattle.op_jobs.proofs.Listing.{filter_all, range_all, filter_has}

-- a place of the tile that passes
pub has_one : (s : Size) (test : ℕ → Bool) (t : ℕ) → tile_has s test t ≡ true → (i : ℕ) × (i < cells_in s) × (test i ≡ true) × (tile_of s i ≡ t)
has_one s test t e = let a = any_one (λ i. tile_of s i == t) test (cells_in s) e in (a.0, a.1, a.2, eqb-true (tile_of s a.0) t a.3)

module _ (s : Size) (was now : Cells) (size : IsSize s) where
  -- a cell of a tile that has no other cell
  pub cell_quiet : (i : ℕ) → i < cells_in s → tile_has s (differs was now) (tile_of s i) ≡ false → cell_at was i ≡ cell_at now i
  cell_quiet i l quiet = differs_not was now i (false_from_ne_true (differs was now i) (λ e.
      both_ways (tile_has s (differs was now) (tile_of s i)) quiet (any_so (λ j. tile_of s j == tile_of s i) (differs was now) (cells_in s) i l e (eq-eqb (tile_of s i) (tile_of s i) refl))))

  pub same_of_quiet : (t : ℕ) → t < tiles_in s → tile_has s (differs was now) t ≡ false → tile_cells s was t ≡ tile_cells s now t
  same_of_quiet t l quiet = same_tile s was now t (λ r c p q.
      let h = here s t r c size l p q in
      cell_quiet (tile_start s t + r * s.columns + c) h.within (ap (tile_has s (differs was now)) h.tile ∙ quiet))

  cell_of_tile : (i : ℕ) → i < cells_in s → tile_cells s was (tile_of s i) ≡ tile_cells s now (tile_of s i) → cell_at was i ≡ cell_at now i
  cell_of_tile i l same =
      let b = back s i size l in
      let t = tile_of s i in
      let r = i / s.columns % 32 in
      let c = i % s.columns % 32 in
      ap (λ j. get_or was j None) (sym b.place)
      ∙ sym (get_or-strided was (tile_start s t) s.columns (tile_height s t) (tile_width s t) r c (r * tile_width s t + c) None b.row b.column refl)
      ∙ ap (λ (cells : Cells). get_or cells (r * tile_width s t + c) None) same
      ∙ get_or-strided now (tile_start s t) s.columns (tile_height s t) (tile_width s t) r c (r * tile_width s t + c) None b.row b.column refl
      ∙ ap (λ j. get_or now j None) b.place

  pub quiet_of_same : (t : ℕ) → tile_cells s was t ≡ tile_cells s now t → tile_has s (differs was now) t ≡ false
  quiet_of_same t same = false_from_ne_true (tile_has s (differs was now) t) (λ e.
      let a = has_one s (differs was now) t e in
      differs_is was now a.0 a.2 (cell_of_tile a.0 a.1 (ap (tile_cells s was) a.3 ∙ same ∙ ap (tile_cells s now) (sym a.3))))

  -- the same for tiles with their sizes
  pub quiet_of_block : (t : ℕ) → tile_block s was t ≡ tile_block s now t → tile_has s (differs was now) t ≡ false
  quiet_of_block t e = quiet_of_same t (ap (λ (b : Block). b.cells) e)

  pub block_of_quiet : (t : ℕ) → t < tiles_in s → tile_has s (differs was now) t ≡ false → tile_block s was t ≡ tile_block s now t
  block_of_quiet t l quiet = ap (λ (cells : List (Option ℤ)). record { height = tile_height s t; width = tile_width s t; cells = cells }) (same_of_quiet t l quiet)

-- ---- numbered tiles

-- each tile of a list of them, with its number
abbrev pub numbered : (ℕ → Block) → List ℕ → List (ℕ × Block)
numbered f ts = map (λ t. (t, f t)) ts

pub numbers_are : (f : ℕ → Block) (ts : List ℕ) → numbers_of (numbered f ts) ≡ ts
numbers_are f [] = refl
numbers_are f (t ∷ ts) = ap (λ us. t ∷ us) (numbers_are f ts)

found : (f : ℕ → Block) (ts : List ℕ) (t : ℕ) (b : Block) → patch_get (numbered f ts) t ≡ Some b → b ≡ f t
found f [] t b e = absurd cc
found f (x ∷ ts) t b e = at_first (eqb x t) refl (found f ts t b) e
  where
    at_first : (v : Bool) → v ≡ eqb x t → (patch_get (numbered f ts) t ≡ Some b → b ≡ f t) → cond v (Some (f x)) (patch_get (numbered f ts) t) ≡ Some b → b ≡ f t
    at_first true v later e = let same : b ≡ f x = cc in same ∙ ap f (eqb-true x t (sym v))
    at_first false v later e = later e

missing : (f : ℕ → Block) (ts : List ℕ) (t : ℕ) → Contains ts t → patch_get (numbered f ts) t ≡ None → ⊥
missing f ts t c e = both_ways (is_some (patch_get (numbered f ts) t)) (ap is_some e) (get-from_Contains (numbered f ts) t (rw (numbers_are f ts) c))

-- ---- those that changed

pub changed_are : (s : Size) (was : Option Cells) (now : Cells) → changed_tiles s was now ≡ filter (is_changed s was now) (tiles s)
unfolding changed_tiles
changed_are s None now = sym (filter_all (λ t. true) (tiles s) (range_all (λ t. true ≡ true) (tiles_in s) (λ t l. refl)))
changed_are s (Some was) now = refl

module _ (s : Size) (was : Option Cells) (now : Cells) (size : IsSize s) (count : length now ≡ cells_in s) where
  kept : (t : ℕ) → t < tiles_in s → (o : Option Cells) → is_changed s o now t ≡ false → tile_cells s (unwrap_or o []) t ≡ tile_cells s now t
  kept t l None e = absurd cc
  kept t l (Some w) e = same_of_quiet s w now size t l e

  -- it makes the cells
  pub changed_makes : patched s (unwrap_or was []) (numbered (tile_block s now) (filter (is_changed s was now) (tiles s))) ≡ now
  changed_makes =
      let put = filter (is_changed s was now) (tiles s) in
      patched_to s (unwrap_or was []) now (numbered (tile_block s now) put) size count (found (tile_block s now) put) (λ t l e.
      kept t l was (false_from_ne_true (is_changed s was now t) (λ f. missing (tile_block s now) put t (filter_has (is_changed s was now) (tiles_in s) 0 t (omega arith) (omega (arith, l)) f) e)))
