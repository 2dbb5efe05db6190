-- Marks that were set in a row of tiles and in rows of them.
use Rattle.std.specs.Prelude.{◌≡◌, ℕ, ◌/◌, ◌%◌, ◌<◌, ◌≤◌, Bool, true, false, List, length, slice_index_or}
use Rattle.map_nums.specs.Grids.{Size, row_of, column_of}

-- place i is that of a row and a column
abbrev pub IsAt : Size → ℕ → ℕ → ℕ → Type 0
IsAt s row column i = (row_of s i ≡ row) × (column_of s i ≡ column)

-- those from `first` up to `end`
pub record IsRunAdded (first end : ℕ) (old new : List Bool) : Type 0 where
  pub count : length new ≡ length old
  pub inside : (t : ℕ) → first ≤ t → t < end → slice_index_or new t false ≡ true
  pub outside : (t : ℕ) → (first ≤ t → t < end → ⊥) → slice_index_or new t false ≡ slice_index_or old t false

-- the tile lies in rows `low` up to `high` of tiles and in columns `left` up to `right` of them
abbrev pub IsWithin : ℕ → ℕ → ℕ → ℕ → ℕ → ℕ → Type 0
IsWithin across low high left right t = (low ≤ t / across) × (t / across < high) × (left ≤ t % across) × (t % across < right)

-- those
pub record AreRowsAdded (across low high left right : ℕ) (old new : List Bool) : Type 0 where
  pub count : length new ≡ length old
  pub inside : (t : ℕ) → t < length old → IsWithin across low high left right t → slice_index_or new t false ≡ true
  pub outside : (t : ℕ) → (IsWithin across low high left right t → ⊥) → slice_index_or new t false ≡ slice_index_or old t false
