-- What a working layer shows.
use Rattle.std.specs.Prelude.{◌≡◌, ◌≢◌, ◌⊎◌, ◌↔◌, IsSome, ◌∷◌, ◌++◌, ℕ, ◌<◌, ◌≤◌, List, [], length, map, slice_index, slice_index_or, slice_set, ℤ, Bool, true, false, Option, Some, None, is_some, unwrap_or, if◌then◌else◌}
use Rattle.std.specs.List.{sum_by, Contains, insert}
use Rattle.std.specs.List.Sorted.{IsStrictlyIncreasing}
use Rattle.map_nums.specs.Grids.{Size, IsSize, Cells, cell_at, places}
use Rattle.layer_tiles.specs.Tiles.{Block, IsBlockOf, tiles_in, tile_of, place_in, tile_block, tile_cells}
use Rattle.layer_tiles.specs.Patches.{cell_or, patch_get, patched, HoldsAll}
use Rattle.layer_tiles.specs.Layers.{LayerState, IsLayer}
use Rattle.tile_work.specs.Seats.{AreSeats, seated}

-- the cells before, where there were any; the cells now; and which tiles were copied
pub record WorkState : Type 0 where
  pub size : Size
  pub before : Option (List (Option ℤ))
  pub cells : List (Option ℤ)
  pub copied : List Bool

-- the cells that it begins with: null where there is no old layer
abbrev pub base_of : Option (List (Option ℤ)) → Cells
base_of before = unwrap_or before []

abbrev pub before_of : Option LayerState → Option (List (Option ℤ))
before_of None = None
before_of (Some l) = Some l.cells

-- the copy of each tile, where it has one
abbrev pub seated_tiles : List (Option Block) → List ℕ → List (Option Block)
seated_tiles tiles seats = seated None tiles seats

abbrev pub AreTileSeats : List (Option Block) → List ℕ → Type 0
AreTileSeats tiles seats = AreSeats None tiles seats

abbrev pub slot_at : List (Option Block) → ℕ → Option Block
slot_at slots t = slice_index_or slots t None

-- a cell, from its tile where that is copied
abbrev pub work_cell : Size → Cells → List (Option Block) → ℕ → Option ℤ
work_cell s base slots at = cell_or (slot_at slots (tile_of s at)) (place_in s at) (cell_at base at)

unfoldable pub work_cells : Size → Cells → List (Option Block) → Cells
work_cells s base slots = map (work_cell s base slots) (places s)

abbrev pub IsOld : Size → Option LayerState → Type 0
IsOld s None = Unit {0}
IsOld s (Some l) = IsLayer l × (l.size ≡ s)

-- a slot for each tile, and each copied tile has its tile's size
pub record IsWork (s : Size) (old : Option LayerState) (slots : List (Option Block)) : Type 0 where
  pub size : IsSize s
  pub is_old : IsOld s old
  pub count : length slots ≡ tiles_in s
  pub sizes : (t : ℕ) (b : Block) → slot_at slots t ≡ Some b → IsBlockOf s t b

-- a working layer with one cell written
abbrev pub written : WorkState → ℕ → Option ℤ → WorkState
written w at cell = record w { cells = slice_set w.cells at cell; copied = slice_set w.copied (tile_of w.size at) true }

-- the cells that it begins with, as many as the grid has
unfoldable pub begun_cells : Size → Option (List (Option ℤ)) → Cells
begun_cells s before = map (cell_at (base_of before)) (places s)

-- how many tiles were copied
abbrev pub copies : List Bool → ℕ
copies copied = sum_by (λ b. if b then 1 else 0) copied

-- the numbers of the copied tiles
pub record AreCopied (slots : List (Option Block)) (numbers : List ℕ) : Type 0 where
  pub rises : IsStrictlyIncreasing numbers
  pub each : (k : ℕ) → k < length numbers → is_some (slot_at slots (slice_index numbers k)) ≡ true
  pub all : (t : ℕ) → is_some (slot_at slots t) ≡ true → Contains numbers t
  pub count : length numbers ≡ copies (map is_some slots)

-- a number was put before the first that is not below it
pub record IsInserted (old : List ℕ) (n : ℕ) (new : List ℕ) : Type 0 where
  pub place : ℕ
  pub within : place ≤ length old
  pub is : new ≡ insert old place n
  pub below : (k : ℕ) → k < place → slice_index old k < n
  pub above : (k : ℕ) → place ≤ k → k < length old → n ≤ slice_index old k

-- tile t, from its slot
abbrev pub tile_now : Size → Option (List (Option ℤ)) → ℕ → Option Block → Block
tile_now s before t slot = unwrap_or slot (tile_block s (base_of before) t)

-- the tile was added: it changed, or there was no layer
pub record IsAdded (s : Size) (before : Option (List (Option ℤ))) (t : ℕ) (slot : Option Block) (old new : List (ℕ × Block)) : Type 0 where
  pub tiles : new ≡ old ++ (t, tile_now s before t slot) ∷ []
  pub changed : IsSome before → tile_now s before t slot ≢ tile_block s (base_of before) t

-- or it is as it was
pub record IsPassed (s : Size) (before : Option (List (Option ℤ))) (t : ℕ) (slot : Option Block) (old new : List (ℕ × Block)) : Type 0 where
  pub tiles : new ≡ old
  pub there : IsSome before
  pub same : tile_now s before t slot ≡ tile_block s (base_of before) t

abbrev pub IsPushed : Size → Option (List (Option ℤ)) → ℕ → Option Block → List (ℕ × Block) → List (ℕ × Block) → Type 0
IsPushed s before t slot old new = IsAdded s before t slot old new ⊎ IsPassed s before t slot old new

-- of the first n tiles, those whose cells changed, and all where there was no layer
pub record IsPatchOf (s : Size) (before : Option (List (Option ℤ))) (cells : Cells) (n : ℕ) (tiles : List (ℕ × Block)) : Type 0 where
  pub held : (t : ℕ) (b : Block) → patch_get tiles t ≡ Some b → (t < n) × (b ≡ tile_block s cells t)
  pub changed : (t : ℕ) (b : Block) → patch_get tiles t ≡ Some b → IsSome before → tile_cells s cells t ≢ tile_cells s (base_of before) t
  pub kept : (t : ℕ) → t < n → patch_get tiles t ≡ None → IsSome before × (tile_cells s cells t ≡ tile_cells s (base_of before) t)

-- the tiles that make `cells` of those before: exactly those whose cells changed, and all where there was no layer
pub record IsPatchTo (s : Size) (before : Option (List (Option ℤ))) (cells : Cells) (tiles : List (ℕ × Block)) : Type 0 where
  pub makes : patched s (base_of before) tiles ≡ cells
  pub exact : (t : ℕ) → t < tiles_in s → IsSome before → IsSome (patch_get tiles t) ↔ (tile_cells s cells t ≢ tile_cells s (base_of before) t)
  pub all : before ≡ None → HoldsAll (record { size = s; tiles = tiles })

-- the same grid over the same old one
pub record IsSameWork (old new : WorkState) : Type 0 where
  pub size : new.size ≡ old.size
  pub before : new.before ≡ old.before
  pub count : length new.cells ≡ length old.cells

abbrev pub is_copied : WorkState → ℕ → Bool
is_copied w t = slice_index_or w.copied t false

-- a tile was copied before, or holds a place whose cell was another one
abbrev pub IsCopiedFor : WorkState → ℕ → Option ℤ → WorkState → Type 0
IsCopiedFor old at cell new = (t : ℕ) → is_copied new t ≡ true → (is_copied old t ≡ true) ⊎ ((t ≡ tile_of old.size at) × (cell_at old.cells at ≢ cell))

-- one for a tile that is copied
abbrev pub one_slot : Option Block → ℕ
one_slot o = if is_some o then 1 else 0
