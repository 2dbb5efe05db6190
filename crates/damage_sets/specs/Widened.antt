-- Marks of tiles whose grown squares have certain places.
use Rattle.std.specs.Prelude.{◌≡◌, ◌⊎◌, ℕ, ◌<◌, Bool, true, false, List, length, slice_index_or}
use Rattle.map_nums.specs.Grids.{Size, cells_in}
use Rattle.map_nums.specs.Tiles.{tiles_in}
use Rattle.map_defs.specs.Tiles.{is_in_square}

-- the square of tile t, grown by r, has one of the places
abbrev pub HasOne : Size → ℕ → (ℕ → Type 0) → ℕ → Type 0
HasOne s r Seen t = (i : ℕ) × (i < cells_in s) × Seen i × (is_in_square r s t i ≡ true)

-- just the tiles whose squares have one were added
pub record IsWidened (s : Size) (r : ℕ) (Seen : ℕ → Type 0) (old new : List Bool) : Type 0 where
  pub count : length new ≡ length old
  pub kept : (t : ℕ) → t < tiles_in s → slice_index_or old t false ≡ true → slice_index_or new t false ≡ true
  pub added : (t : ℕ) → t < tiles_in s → HasOne s r Seen t → slice_index_or new t false ≡ true
  pub only : (t : ℕ) → t < tiles_in s → slice_index_or new t false ≡ true → (slice_index_or old t false ≡ true) ⊎ HasOne s r Seen t
