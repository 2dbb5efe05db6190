-- A region that is reached place by place.
use Rattle.std.specs.Prelude.{◌≡◌, ℕ, ◌+◌, ◌-◌, ◌<◌, ◌≤◌, ℤ, Bool, true, false, List, [], ◌∷◌, ◌++◌, length, Option, Some, slice_index_or, slice_set, if◌then◌else◌}
use Rattle.std.specs.List.{sum_by}
use Rattle.map_nums.specs.Grids.{Size, Cells, cell_at, cells_in, is_neighbour, row_of, column_of, gap}
use Rattle.map_defs.specs.Cells.{same_cell}
use Rattle.map_defs.specs.Regions.{Has, WalkTo}

-- a walk of any length
abbrev pub IsJoined : Size → Cells → ℤ → ℕ → ℕ → Type 0
IsJoined s cells z first i = (js : List ℕ) × WalkTo s cells z first i js

abbrev pub is_marked : List Bool → ℕ → Bool
is_marked marks i = slice_index_or marks i false

abbrev pub one_if : Bool → ℕ
one_if b = if b then 1 else 0

-- how many places are marked
abbrev pub marks_in : List Bool → ℕ
marks_in marks = sum_by one_if marks

-- the list has the place
abbrev pub Holds : List ℕ → ℕ → Type 0
Holds found i = (k : ℕ) × (k < length found) × (slice_index_or found k 0 ≡ i)

-- the places that were ever reached, and those of the region in hand, in the order in which they were reached
pub record FloodState : Type 0 where
  pub size : Size
  pub marks : List Bool
  pub found : List ℕ

-- place i is reached, where it was not and has the cell
abbrev pub reached : Cells → Option ℤ → ℕ → FloodState → FloodState
reached cells value i f = if is_marked f.marks i then f else (if same_cell (cell_at cells i) value then record f { marks = slice_set f.marks i true; found = f.found ++ i ∷ [] } else f)

-- a place of the region in hand
pub record IsFound (s : Size) (cells : Cells) (z : ℤ) (root : ℕ) (before marks : List Bool) (i : ℕ) : Type 0 where
  pub has : Has s cells z i
  pub joined : IsJoined s cells z root i
  pub marked : is_marked marks i ≡ true
  pub fresh : is_marked before i ≡ false

-- the region of place root is being reached, where some places were before
pub record IsFlooding (s : Size) (cells : Cells) (z : ℤ) (root : ℕ) (before : List Bool) (f : FloodState) : Type 0 where
  pub size : length f.marks ≡ cells_in s
  pub kept : (i : ℕ) → is_marked before i ≡ true → is_marked f.marks i ≡ true
  pub each : (k : ℕ) → k < length f.found → IsFound s cells z root before f.marks (slice_index_or f.found k 0)
  pub only : (i : ℕ) → is_marked f.marks i ≡ true → is_marked before i ≡ false → Holds f.found i
  pub root_found : Holds f.found root
  pub counted : marks_in f.marks ≡ marks_in before + length f.found

-- all neighbours of place i with the number are marked
abbrev pub IsRound : Size → Cells → ℤ → List Bool → ℕ → Type 0
IsRound s cells z marks i = (j : ℕ) → is_neighbour s i j ≡ true → Has s cells z j → is_marked marks j ≡ true

-- with each marked place its whole region is marked
abbrev pub AreWhole : Size → Cells → List Bool → Type 0
AreWhole s cells marks = (z : ℤ) (i : ℕ) → is_marked marks i ≡ true → Has s cells z i → IsRound s cells z marks i

-- more of the region with the cell `value` was reached, from place `from`
pub record IsGrown (s : Size) (cells : Cells) (value : Option ℤ) (from : ℕ) (old new : FloodState) : Type 0 where
  pub floods : (z : ℤ) (root : ℕ) (before : List Bool) → value ≡ Some z → IsFlooding s cells z root before old → Holds old.found from → IsFlooding s cells z root before new
  pub marked : (i : ℕ) → is_marked old.marks i ≡ true → is_marked new.marks i ≡ true
  pub extent : new.size ≡ old.size
  pub size : length new.marks ≡ length old.marks
  pub grows : length old.found ≤ length new.found
  pub stays : (k : ℕ) → k < length old.found → slice_index_or new.found k 0 ≡ slice_index_or old.found k 0

-- its places have no further neighbour with the number
pub record IsFlooded (s : Size) (cells : Cells) (z : ℤ) (root : ℕ) (before : List Bool) (f : FloodState) : Type 0 where
  pub flooding : IsFlooding s cells z root before f
  pub round : (k : ℕ) → k < length f.found → IsRound s cells z f.marks (slice_index_or f.found k 0)

-- the places of a row next to place `from`, from column `low` on, that have the cell are marked
abbrev pub IsRowMarked : Size → Cells → Option ℤ → ℕ → ℕ → ℕ → List Bool → Type 0
IsRowMarked s cells value from row low marks = (j : ℕ) → j < cells_in s → row_of s j ≡ row → gap (column_of s from) (column_of s j) ≤ 1 → low ≤ column_of s j → cell_at cells j ≡ value → is_marked marks j ≡ true

-- a column that is not next to the place on the left of column `here`, where that place was worked on
abbrev pub IsFurther : Bool → ℕ → ℕ → Type 0
IsFurther after here column = after ≡ true → 0 < here → here < column

-- and in all rows
abbrev pub IsAllMarked : Size → Cells → Option ℤ → ℕ → Bool → List Bool → Type 0
IsAllMarked s cells value from after marks = (j : ℕ) → j < cells_in s → gap (row_of s from) (row_of s j) ≤ 1 → gap (column_of s from) (column_of s j) ≤ 1 → IsFurther after (column_of s from) (column_of s j) → cell_at cells j ≡ value → is_marked marks j ≡ true

-- those of them in the columns before c
abbrev pub IsRowPart : Size → Cells → Option ℤ → ℕ → ℕ → ℕ → ℕ → List Bool → Type 0
IsRowPart s cells value from row low c marks = (j : ℕ) → j < cells_in s → row_of s j ≡ row → gap (column_of s from) (column_of s j) ≤ 1 → low ≤ column_of s j → cell_at cells j ≡ value → column_of s j < c → is_marked marks j ≡ true

-- those in the rows before r
abbrev pub IsAllPart : Size → Cells → Option ℤ → ℕ → Bool → ℕ → List Bool → Type 0
IsAllPart s cells value from after r marks = (j : ℕ) → j < cells_in s → gap (row_of s from) (row_of s j) ≤ 1 → gap (column_of s from) (column_of s j) ≤ 1 → IsFurther after (column_of s from) (column_of s j) → cell_at cells j ≡ value → row_of s j < r → is_marked marks j ≡ true

-- a place of the list is the one on the right of the place before it, or begins the next row
pub record IsAfter (found : List ℕ) (head : ℕ) : Type 0 where
  pub some : 0 < head
  pub place : slice_index_or found head 0 ≡ slice_index_or found (head - 1) 0 + 1

-- the first places of the region in hand have no further neighbour
abbrev pub IsRoundTo : Size → Cells → ℤ → ℕ → FloodState → Type 0
IsRoundTo s cells z head f = (k : ℕ) → k < head → IsRound s cells z f.marks (slice_index_or f.found k 0)
