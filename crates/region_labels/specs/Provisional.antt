-- Labels that tell a place of the region each, and lead to its first place in the end.
use Rattle.std.specs.Prelude.{◌≡◌, ℕ, suc, ◌+◌, ◌-◌, ◌*◌, ◌<◌, ◌≤◌, true, List, [], ◌∷◌, length, ℤ, pos, Option, Some, None}
use Rattle.map_nums.specs.Grids.{Size, Cells, cell_at, cells_in, row_of, is_neighbour}
use Rattle.map_defs.specs.Regions.{Has, AreRegions}
use Rattle.map_defs.specs.Work.{first_work}
use Rattle.region_labels.specs.Flood.{marks_in, IsJoined}
use Rattle.region_labels.specs.Lists.{labelled}
use Rattle.region_labels.specs.Roots.{root_in, resolved_cells, AreBack}
use Rattle.region_labels.specs.declared.bands.LabelBand.{LabelBand}
use Rattle.region_labels.specs.declared.shows.ProvisionalLabels.{ProvisionalLabels}

-- the label of place i tells a place of its region, itself or one before it; null where the cell is
abbrev pub IsProvisional : Size → Cells → ℕ → Option ℤ → Option ℤ → Type 0
IsProvisional s cells i None label = label ≡ None
IsProvisional s cells i (Some z) label = (place : ℕ) × (label ≡ Some (pos (suc place))) × (place ≤ i) × IsJoined s cells z place i

-- so are those of the first places of a map
abbrev pub AreProvisional : Size → Cells → Cells → Type 0
AreProvisional s cells labels = (i : ℕ) → i < length labels → IsProvisional s cells i (cell_at cells i) (cell_at labels i)

-- place k of the rows from row `first` on
abbrev pub place_from : Size → ℕ → ℕ → ℕ
place_from s first k = first * s.columns + k

-- the labels of the rows `first` to before `end`: neighbours of one number have one label
pub record IsLabelBand (s : Size) (cells : Cells) (first end : ℕ) (band : LabelBand) : Type 0 where
  pub some : first < end
  pub within : end ≤ s.rows
  pub row : band.first ≡ first
  pub count : length band.labels.items ≡ (end - first) * s.columns
  pub each : (k : ℕ) → k < length band.labels.items → IsProvisional s cells (place_from s first k) (cell_at cells (place_from s first k)) (cell_at band.labels.items k)
  pub alike : (z : ℤ) (k l : ℕ) → k < length band.labels.items → l < length band.labels.items → Has s cells z (place_from s first k) → Has s cells z (place_from s first l) → is_neighbour s (place_from s first k) (place_from s first l) ≡ true → cell_at band.labels.items k ≡ cell_at band.labels.items l
  pub counted : band.count ≡ marks_in (labelled band.labels.items)

-- bands one below the other, from a row to the last one
abbrev pub AreLabelBands : Size → Cells → ℕ → List LabelBand → Type 0
AreLabelBands s cells row [] = row ≡ s.rows
AreLabelBands s cells row (band ∷ bands) = (end : ℕ) × IsLabelBand s cells row end band × AreLabelBands s cells end bands

-- neighbours of one number among the first places lead to one place
abbrev pub AreTied : Size → Cells → Cells → Type 0
AreTied s cells labels = (z : ℤ) (i j : ℕ) → i < length labels → j < length labels → Has s cells z i → Has s cells z j → is_neighbour s i j ≡ true → root_in labels i ≡ root_in labels j

-- what led to one place still does
pub record IsJoinStep (s : Size) (cells old new : Cells) : Type 0 where
  pub provisional : AreProvisional s cells new
  pub marks : labelled new ≡ labelled old
  pub tied : (i j : ℕ) → root_in old i ≡ root_in old j → root_in new i ≡ root_in new j

-- place i leads to where place `at` does, if it has its number and is a neighbour of it
abbrev pub IsTiedTo : Size → Cells → ℕ → Cells → ℕ → Type 0
IsTiedTo s cells at labels i = (z : ℤ) → Has s cells z i → Has s cells z at → is_neighbour s i at ≡ true → root_in labels i ≡ root_in labels at

-- so do those of the row above
abbrev pub IsTiedAbove : Size → Cells → ℕ → Cells → Type 0
IsTiedAbove s cells at labels = (i : ℕ) → row_of s i + 1 ≡ row_of s at → IsTiedTo s cells at labels i

-- labels that lead to those of a map's regions, and the work that these are where there were none
pub record IsLabelList (s : Size) (cells : Cells) (list : ProvisionalLabels) : Type 0 where
  pub back : AreBack list.labels.items
  pub count : length list.labels.items ≡ cells_in s
  pub regions : AreRegions s cells (resolved_cells s list.labels.items)
  pub worked : list.worked ≡ first_work s (resolved_cells s list.labels.items)
