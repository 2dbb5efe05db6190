-- The steepest way down, found neighbour by neighbour.
use Rattle.std.specs.Prelude.{◌≡◌, ◌⊎◌, ℕ, ◌<◌, ℤ, pos, negsuc, ◌+ℤ◌, ◌<ℤ◌, ◌≤ℤ◌, nat_lt, if◌then◌else◌, slice_index_or, Option, Some, None}
use Rattle.map_nums.specs.Grids.{Size, Cells, Offset, cell_at, near, compass}
use Rattle.map_defs.specs.Drainage.{drop_to}

abbrev pub offset_at : ℕ → Offset
offset_at k = slice_index_or compass k (pos 0, pos 0)

-- a line of a map, where it is on it
abbrev pub line_at : ℤ → ℕ → Option ℕ
line_at (pos r) end = if nat_lt r end then Some r else None
line_at (negsuc r) end = None

-- at most one away
pub record IsStep (z : ℤ) : Type 0 where
  pub high : z ≤ℤ pos 1
  pub low : pos 0 ≤ℤ (z +ℤ pos 1)

-- the eight cells round place i, in order; null off the map
pub record AreAround (s : Size) (surface : Cells) (i : ℕ) (around : Cells) : Type 0 where
  pub each : (k : ℕ) → k < 8 → cell_at around k ≡ near s surface i (offset_at k)

-- how far a number falls to each of eight cells
abbrev pub fall_to : ℤ → Cells → ℕ → ℤ
fall_to here around k = drop_to here (offset_at k) (cell_at around k)

-- of the first k falls none is greater than `best`, and `to` is the first that is as great; none, where `best` is 0
pub record IsFirstSteepest (falls : ℕ → ℤ) (k : ℕ) (best : ℤ) (to : Option ℕ) : Type 0 where
  pub above : pos 0 ≤ℤ best
  pub most : (u : ℕ) → u < k → falls u ≤ℤ best
  pub found : ((to ≡ None) × (best ≡ pos 0))
      ⊎ ((j : ℕ) × (j < k) × (pos 0 <ℤ best) × (falls j ≡ best) × (to ≡ Some j) × ((u : ℕ) → u < j → falls u <ℤ best))
