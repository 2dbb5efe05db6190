-- Labels that are numbers of places at which to look further.
use Rattle.std.specs.Prelude.{ℕ, zero, suc, ◌<◌, ◌≤◌, ℤ, pos, negsuc, length, Option, Some, None}
use Rattle.map_nums.specs.Grids.{Size, Cells, cell_at, grid_by}

-- the place that a label of place i tells, i itself where there is none
abbrev pub told_by : ℕ → Option ℤ → ℕ
told_by i None = i
told_by i (Some (pos zero)) = i
told_by i (Some (pos (suc place))) = place
told_by i (Some (negsuc n)) = i

abbrev pub told_in : Cells → ℕ → ℕ
told_in labels i = told_by i (cell_at labels i)

-- from place i, n places on
abbrev pub followed : (ℕ → ℕ) → ℕ → ℕ → ℕ
followed told zero i = i
followed told (suc n) i = followed told n (told i)

-- the last one, where each place tells itself or one before it
abbrev pub root_of : (ℕ → ℕ) → ℕ → ℕ
root_of told i = followed told i i

abbrev pub root_in : Cells → ℕ → ℕ
root_in labels i = root_of (told_in labels) i

-- a label of place i tells the place itself or one before it
abbrev pub IsBack : ℕ → Option ℤ → Type 0
IsBack i None = Unit {0}
IsBack i (Some (pos zero)) = ⊥
IsBack i (Some (pos (suc place))) = place ≤ i
IsBack i (Some (negsuc n)) = ⊥

abbrev pub AreBack : Cells → Type 0
AreBack labels = (i : ℕ) → i < length labels → IsBack i (cell_at labels i)

-- the number, from 1, of the place to which labels lead; null where there is no label
abbrev pub numbered : ℕ → Option ℤ → Option ℤ
numbered root None = None
numbered root (Some label) = Some (pos (suc root))

abbrev pub resolved : Cells → ℕ → Option ℤ
resolved labels i = numbered (root_in labels i) (cell_at labels i)

abbrev pub resolved_cells : Size → Cells → Cells
resolved_cells s labels = (grid_by s (resolved labels)).cells
