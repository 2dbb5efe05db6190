-- The tiles of a list of cells, cut row by row.
use Rattle.std.proofs.Common.{◌≡◌, ◌⊎◌, inl, inr, ℕ, ◌+◌, ◌-◌, ◌*◌, ◌<◌, ◌≤◌, List, [], ◌∷◌, ◌++◌, false, length, take, drop, Some, None, refl, sym, ◌∙◌, subst, arith}
use Rattle.std.proofs.lemmas.Bool.{cases_lt, both_ways}
use Rattle.std.proofs.lemmas.List.{get_or-take, get_or-drop, length-take, length-drop}
use Rattle.std.proofs.lemmas.Nat.{mul-add-lt}
use Rattle.map_nums.specs.Grids.{Size, IsSize, Cells, cell_at, cells_in}
use Rattle.changed_cells.proofs.Ordering.{start_is}
use Rattle.layer_tiles.specs.Places.{IsPlaceOf}
use Rattle.layer_tiles.specs.Tiles.{Block, IsBlockOf, IsPlaced, IsRowSet, tile_block, tile_height, tile_width, tiles_in}
use Rattle.layer_tiles.specs.declared.extents.Place.{Place}
use Rattle.layer_tiles.specs.PlaceByPlace.{cell_in}
use Rattle.layer_tiles.proofs.Patching.{block_is}
use Rattle.layer_tiles.proofs.Rounds.{here}
use Rattle.layer_tiles.proofs.Strides.{tile_from}
use Rattle.tile_work.specs.Working.{IsPushed}

pub pushed_tile : (s : Size) (t : ℕ) (b : Block) (old new : List (ℕ × Block)) → new ≡ old ++ (t, b) ∷ [] → IsPushed s None t (Some b) old new
pushed_tile s t b old new e = inl (record { tiles = e; changed = λ h. absurd (both_ways false refl h) })

-- the first n rows of tile t stand in a rectangle of its size
pub record AreRowsCut (s : Size) (cells : Cells) (t n : ℕ) (b : Block) : Type 0 where
  pub block : IsBlockOf s t b
  pub rows : (q c : ℕ) → q < n → c < tile_width s t → cell_at cells (cell_in s t q c) ≡ cell_at b.cells (q * tile_width s t + c)

-- one more row
pub row_cut : (s : Size) (cells row : Cells) (t r : ℕ) (old new : Block) → IsRowSet r row old new → ((c : ℕ) → c < tile_width s t → cell_at row c ≡ cell_at cells (cell_in s t r c)) → AreRowsCut s cells t r old → AreRowsCut s cells t (r + 1) new
row_cut s cells row t r old new set same h =
    let w = tile_width s t in
    let set_here : (c : ℕ) → c < w → cell_at new.cells (r * w + c) ≡ cell_at row c = subst (λ (n : ℕ). (c : ℕ) → c < n → cell_at new.cells (r * n + c) ≡ cell_at row c) h.block.width set.here in
    let set_other : (k : ℕ) → (k < r * w) ⊎ ((r + 1) * w ≤ k) → cell_at new.cells k ≡ cell_at old.cells k = subst (λ (n : ℕ). (k : ℕ) → (k < r * n) ⊎ ((r + 1) * n ≤ k) → cell_at new.cells k ≡ cell_at old.cells k) h.block.width set.other in
    record {
      block = record { height = set.height_stays ∙ h.block.height; width = set.width_stays ∙ h.block.width; count = set.count ∙ h.block.count };
      rows = λ q c l m. elim (cases_lt q r) as (λ _. cell_at cells (cell_in s t q c) ≡ cell_at new.cells (q * w + c)) [
        | inl k ↦ h.rows q c k m ∙ sym (set_other (q * w + c) (inl (omega (arith, mul-add-lt q w c r k m))))
        | inr k ↦ (let e : r ≡ q = omega (arith, l, k) in
            let P : ℕ → Type 0 = λ i. cell_at cells (cell_in s t i c) ≡ cell_at new.cells (i * w + c) in
            subst P e (sym (same c m) ∙ sym (set_here c m)))
      ];
    }

pub all_cut : (s : Size) (cells : Cells) (t n : ℕ) (b : Block) → tile_height s t ≤ n → AreRowsCut s cells t n b → b ≡ tile_block s cells t
all_cut s cells t n b l h = block_is s cells t b h.block (tile_from s cells b.cells t h.block.count (λ q c k m. h.rows q c (omega (arith, k, l)) m))

-- a row of a tile lies in the grid
pub row_within : (s : Size) (t r : ℕ) (p : Place) (columns : ℕ) → IsSize s → t < tiles_in s → IsPlaceOf s t p → IsPlaced s t → columns ≡ s.columns → r < p.height → (p.top + r) * columns + p.left + p.width ≤ cells_in s
row_within s t r p columns size within place placed e l =
    let f = here s t r (tile_width s t - 1) size within (omega (arith, l, place.height)) (omega (arith, placed.some_column)) in
    omega (arith, f.within, placed.some_column, place.width, start_is s t r 0 p columns place e)

-- a run of w cells, as a slice gives it
pub run_length : (cells : Cells) (start w : ℕ) → start + w ≤ length cells → length (take (start + w - start) (drop start cells)) ≡ w
run_length cells start w l = omega (arith, length-take (start + w - start) (drop start cells), length-drop start cells, l)

pub run_at : (cells : Cells) (start w c : ℕ) → c < w → cell_at (take (start + w - start) (drop start cells)) c ≡ cell_at cells (start + c)
run_at cells start w c l = get_or-take (start + w - start) (drop start cells) c None (omega (arith, l)) ∙ get_or-drop start cells c None
