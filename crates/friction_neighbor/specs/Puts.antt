-- Places that come into the queue, each once: a set has marks for them.
use Rattle.std.specs.Prelude.{◌≡◌, ◌⊎◌, ℕ, ◌+◌, ◌<◌, ◌≤◌, Bool, true, false, List, length, slice_index_or}
use Rattle.std.specs.List.{Contains}
use Rattle.map_nums.specs.Grids.{cells_in, row_of, column_of, gap}
use Rattle.tile_work.specs.PlaceSets.{PlaceSetState}
use Rattle.tile_work.specs.Working.{copies}
use Rattle.least_costs.specs.Queue.{IsKept}
use Rattle.friction_neighbor.specs.Fields.{FieldState, cost_at}
use Rattle.friction_neighbor.specs.Mending.{Waits}

abbrev pub is_marked : PlaceSetState → ℕ → Bool
is_marked seen i = slice_index_or seen.marks i false

-- each entry is a place of the map under its cost
abbrev pub AreWaiting : FieldState → List (ℕ × ℕ) → Type 0
AreWaiting f entries = (x : ℕ × ℕ) → Contains entries x → (x.1 < cells_in f.ground.size) × (x.0 ≡ cost_at f x.1)

-- some places came into the queue, and were marked
pub record ArePut (f : FieldState) (old : List (ℕ × ℕ)) (seen : PlaceSetState) (new : List (ℕ × ℕ)) (seen' : PlaceSetState) : Type 0 where
  pub size : seen'.size ≡ seen.size
  pub full : length seen'.marks ≡ length seen.marks
  pub kept : IsKept old new
  pub marked : (i : ℕ) → is_marked seen i ≡ true → is_marked seen' i ≡ true
  pub entered : (i : ℕ) → is_marked seen' i ≡ true → (is_marked seen i ≡ true) ⊎ Waits (cost_at f) new i
  pub each : AreWaiting f old → AreWaiting f new
  pub more : copies seen.marks ≤ copies seen'.marks
  pub count : length new + copies seen.marks ≡ length old + copies seen'.marks

-- place j is marked, if it costs `floor` or more
abbrev pub IsMarkedFrom : FieldState → ℕ → PlaceSetState → ℕ → Type 0
IsMarkedFrom f floor seen j = floor ≤ cost_at f j → is_marked seen j ≡ true

-- so are the places of a row that are at most one column from c's
abbrev pub RowMarked : FieldState → ℕ → PlaceSetState → ℕ → ℕ → Type 0
RowMarked f floor seen c row = (j : ℕ) → j < cells_in f.ground.size → row_of f.ground.size j ≡ row → gap (column_of f.ground.size c) (column_of f.ground.size j) ≤ 1 → IsMarkedFrom f floor seen j

-- those in the columns before k
abbrev pub RowMarkedTo : FieldState → ℕ → PlaceSetState → ℕ → ℕ → ℕ → Type 0
RowMarkedTo f floor seen c row k = (j : ℕ) → j < cells_in f.ground.size → row_of f.ground.size j ≡ row → gap (column_of f.ground.size c) (column_of f.ground.size j) ≤ 1 → column_of f.ground.size j < k → IsMarkedFrom f floor seen j

-- those in the rows before r
abbrev pub RoundMarkedTo : FieldState → ℕ → PlaceSetState → ℕ → ℕ → Type 0
RoundMarkedTo f floor seen c r = (j : ℕ) → j < cells_in f.ground.size → gap (row_of f.ground.size c) (row_of f.ground.size j) ≤ 1 → gap (column_of f.ground.size c) (column_of f.ground.size j) ≤ 1 → row_of f.ground.size j < r → IsMarkedFrom f floor seen j

-- and all near c
abbrev pub RoundMarked : FieldState → ℕ → PlaceSetState → ℕ → Type 0
RoundMarked f floor seen c = (j : ℕ) → j < cells_in f.ground.size → gap (row_of f.ground.size c) (row_of f.ground.size j) ≤ 1 → gap (column_of f.ground.size c) (column_of f.ground.size j) ≤ 1 → IsMarkedFrom f floor seen j
