-- Labels of a map that had none, all in one list.
use Rattle.std.specs.Prelude.{◌≡◌, ◌⊎◌, ℕ, ◌<◌, ℤ, Bool, List, map, Option, None, is_some}
use Rattle.map_nums.specs.Grids.{Size, Cells, cell_at}
use Rattle.region_labels.specs.Flood.{FloodState}
use Rattle.region_labels.specs.Repairs.{IsHandled}

-- the labels, null where there is none yet, and the places of the region in hand in the order in which they were reached
pub record ListState : Type 0 where
  pub size : Size
  pub labels : Cells
  pub found : List ℕ

-- which places have a label
abbrev pub labelled : Cells → List Bool
labelled labels = map is_some labels

-- the places that have a label are those that were reached
abbrev pub flood_of : ListState → FloodState
flood_of l = record { size = l.size; marks = labelled l.labels; found = l.found }

-- a place that had no label may have this one now, and all else stayed
abbrev pub MayGet : Option ℤ → Cells → Cells → Type 0
MayGet label old new = (i : ℕ) → (cell_at new i ≡ cell_at old i) ⊎ ((cell_at old i ≡ None) × (cell_at new i ≡ label))

-- each place before n has a label unless it is null
abbrev pub AreHandledTo : Cells → Cells → ℕ → Type 0
AreHandledTo now labels n = (i : ℕ) → i < n → IsHandled now (labelled labels) i
