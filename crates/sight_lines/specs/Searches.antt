-- Where viewers are looked for, row of tiles by row of tiles.
use Rattle.std.specs.Prelude.{◌≡◌, ℕ, ◌+◌, ◌*◌, ◌<◌, min, nat_lt, Bool, false, List, length, count_by, ℤ, Option, Some, None, slice_index_or, if◌then◌else◌, Contains}
use Rattle.map_nums.specs.Grids.{Size}
use Rattle.layer_tiles.specs.Tiles.{tiles_across}
use Rattle.layer_tiles.specs.Windows.{WindowState, window_of}
use Rattle.layer_tiles.specs.Changes.{ChangeState, cells_before}
use Rattle.sight_lines.specs.Viewed.{viewers_of}

-- the viewers from before the edit are known, unless all tiles are looked at
abbrev pub IsKnown : Bool → ChangeState → List (ℕ × ℤ) → Type 0
IsKnown all c kept = all ≡ false → kept ≡ viewers_of c.size (cells_before c)

-- tile t is lent, or its viewers are those from before
abbrev pub IsSlot : List (ℕ × ℤ) → ChangeState → ℕ → Option WindowState → Type 0
IsSlot kept c t None = (kept ≡ viewers_of c.size (cells_before c)) × (¬ Contains c.touched t)
IsSlot kept c t (Some w) = w ≡ window_of c.size c.cells t 0

-- the tiles of a row of them
pub record AreSlots (kept : List (ℕ × ℤ)) (c : ChangeState) (band : ℕ) (slots : List (Option WindowState)) : Type 0 where
  pub count : length slots ≡ tiles_across c.size
  pub each : (k : ℕ) → k < tiles_across c.size → IsSlot kept c (band * tiles_across c.size + k) (slice_index_or slots k None)

-- how many of the first n tiles are looked at: all, or those that are touched
abbrev pub looks_below : Bool → List ℕ → ℕ → ℕ
looks_below all touched n = if all then n else count_by (λ u. nat_lt u n) touched

-- the first place of a row of tiles, and the one past the last
abbrev pub band_start : Size → ℕ → ℕ
band_start s band = min s.rows (band * 32) * s.columns
