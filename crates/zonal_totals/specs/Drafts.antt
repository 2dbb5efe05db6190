-- The changes of an edit, place by place.
use Rattle.std.specs.Prelude.{◌≡◌, ℕ, ◌<◌, ◌≤◌, true, false, nat_lt, ℤ, Option, Some, None, if◌then◌else◌}
use Rattle.map_nums.specs.Grids.{cell_at}
use Rattle.layer_tiles.specs.Tiles.{tiles_in}
use Rattle.layer_tiles.specs.Changes.{ChangeState, cells_before}
use Rattle.zonal_totals.specs.declared.pairs.Pair.{Pair}
use Rattle.zonal_totals.specs.Sums.{shift}
use Rattle.zonal_totals.specs.Books.{tile_number}
use Rattle.zonal_totals.specs.Looks.{is_held}

-- by how much place i changes the count of a zone and a value
abbrev pub value_shift : ChangeState → ChangeState → Pair → ℕ → ℤ
value_shift values zones p i = shift p (cell_at (cells_before zones) i) (cell_at (cells_before values) i) (cell_at zones.cells i) (cell_at values.cells i)

-- and of a zone and a tile
abbrev pub tile_shift : ChangeState → Pair → ℕ → ℤ
tile_shift zones p i = shift p (cell_at (cells_before zones) i) (tile_number zones.size i) (cell_at zones.cells i) (tile_number zones.size i)

-- no patch holds a tile from number n up to m
abbrev pub AreFree : ChangeState → ChangeState → ℕ → ℕ → Type 0
AreFree values zones n m = (t : ℕ) → n ≤ t → t < m → is_held values zones t ≡ false

-- the first tile from number n on that either patch holds
abbrev pub IsNextHeld : ChangeState → ChangeState → ℕ → Option ℕ → Type 0
IsNextHeld values zones n None = AreFree values zones n (tiles_in zones.size)
IsNextHeld values zones n (Some t) = (n ≤ t) × (t < tiles_in zones.size) × (is_held values zones t ≡ true) × AreFree values zones n t

-- the lesser of two numbers that are there
abbrev pub least_of : Option ℕ → Option ℕ → Option ℕ
least_of None n = n
least_of (Some m) None = Some m
least_of (Some m) (Some n) = if nat_lt n m then Some n else Some m
