-- Regions that are reached by runs: places that follow one another along a row.
use Rattle.std.specs.Prelude.{◌≡◌, ℕ, ◌+◌, ◌<◌, ◌≤◌, ℤ, Bool, true, false, List, length, Option, Some, is_some, slice_index_or}
use Rattle.map_nums.specs.Grids.{Size, Cells, cell_at, cells_in, row_of, column_of, gap}
use Rattle.region_labels.specs.Flood.{is_marked, Holds, FloodState, IsFlooding}

-- the places from place `at` to before `stop` are marked, and the row ends there at `end`, or the place there is marked or has another cell
pub record IsRunTo (cells : Cells) (value : Option ℤ) (at end stop : ℕ) (marks : List Bool) : Type 0 where
  pub least : at ≤ stop
  pub most : stop ≤ end
  pub marked : (j : ℕ) → at ≤ j → j < stop → is_marked marks j ≡ true
  pub stopped : stop < end → cell_at cells stop ≡ value → is_marked marks stop ≡ true

-- the places from `at` to before `stop` have labels, and place `stop` has none where it lies before `end`
pub record IsBareFrom (labels : Cells) (at end stop : ℕ) : Type 0 where
  pub least : at ≤ stop
  pub most : stop ≤ end
  pub labelled : (j : ℕ) → at ≤ j → j < stop → is_some (cell_at labels j) ≡ true
  pub bare : stop < end → is_some (cell_at labels stop) ≡ false

-- so many places of a list, from its place `head` on, follow one another
pub record IsRunIn (found : List ℕ) (head count : ℕ) : Type 0 where
  pub some : 0 < count
  pub within : head + count ≤ length found
  pub each : (k : ℕ) → k < count → slice_index_or found (head + k) 0 ≡ slice_index_or found head 0 + k

-- place i lies next to place `from`, or is it
abbrev pub IsClose : Size → ℕ → ℕ → Type 0
IsClose s from i = (gap (row_of s from) (row_of s i) ≤ 1) × (gap (column_of s from) (column_of s i) ≤ 1)

-- more of the region with the cell `value` was reached, from `count` places from `at` on
pub record IsRunGrown (s : Size) (cells : Cells) (value : Option ℤ) (at count : ℕ) (old new : FloodState) : Type 0 where
  pub floods : (z : ℤ) (root : ℕ) (before : List Bool) → value ≡ Some z → IsFlooding s cells z root before old → ((k : ℕ) → k < count → Holds old.found (at + k)) → IsFlooding s cells z root before new
  pub marked : (i : ℕ) → is_marked old.marks i ≡ true → is_marked new.marks i ≡ true
  pub extent : new.size ≡ old.size
  pub size : length new.marks ≡ length old.marks
  pub grows : length old.found ≤ length new.found
  pub stays : (k : ℕ) → k < length old.found → slice_index_or new.found k 0 ≡ slice_index_or old.found k 0

-- the places of a row next to one of `count` places from `at` on that have the cell are marked
abbrev pub IsRunRow : Size → Cells → Option ℤ → ℕ → ℕ → ℕ → List Bool → Type 0
IsRunRow s cells value at count row marks = (j : ℕ) → j < cells_in s → row_of s j ≡ row → column_of s at ≤ column_of s j + 1 → column_of s j ≤ column_of s at + count → cell_at cells j ≡ value → is_marked marks j ≡ true

-- those of them before place n
abbrev pub IsRunRowTo : Size → Cells → Option ℤ → ℕ → ℕ → ℕ → ℕ → List Bool → Type 0
IsRunRowTo s cells value at count row n marks = (j : ℕ) → j < cells_in s → row_of s j ≡ row → column_of s at ≤ column_of s j + 1 → column_of s j ≤ column_of s at + count → cell_at cells j ≡ value → j < n → is_marked marks j ≡ true

-- and in all rows
abbrev pub IsRunRound : Size → Cells → Option ℤ → ℕ → ℕ → List Bool → Type 0
IsRunRound s cells value at count marks = (j : ℕ) → j < cells_in s → gap (row_of s at) (row_of s j) ≤ 1 → column_of s at ≤ column_of s j + 1 → column_of s j ≤ column_of s at + count → cell_at cells j ≡ value → is_marked marks j ≡ true

-- those of them in the rows before r
abbrev pub IsRunRoundTo : Size → Cells → Option ℤ → ℕ → ℕ → ℕ → List Bool → Type 0
IsRunRoundTo s cells value at count r marks = (j : ℕ) → j < cells_in s → gap (row_of s at) (row_of s j) ≤ 1 → column_of s at ≤ column_of s j + 1 → column_of s j ≤ column_of s at + count → cell_at cells j ≡ value → row_of s j < r → is_marked marks j ≡ true
