-- Copied tiles hold places whose labels change.
use Rattle.std.specs.Prelude.{◌≡◌, ◌≢◌, ◌⊎◌, ℕ, ◌<◌, ℤ, Bool, true, List, Option, None}
use Rattle.map_nums.specs.Grids.{Size, Cells, cell_at, cells_in}
use Rattle.map_defs.specs.Regions.{IsRegionLabel}
use Rattle.layer_tiles.specs.Tiles.{tile_of}
use Rattle.region_labels.specs.Flood.{is_marked, Holds}
use Rattle.region_labels.specs.Repairs.{IsLabelling}

-- a place of tile t whose right label is not what it began with
pub record IsWitness (s : Size) (now begun : Cells) (t : ℕ) : Type 0 where
  pub place : ℕ
  pub within : place < cells_in s
  pub tile : tile_of s place ≡ t
  pub label : Option ℤ
  pub right : IsRegionLabel s now place label
  pub differs : cell_at begun place ≢ label

-- a tile that is copied now was so before, or is as said
abbrev pub IsCopiedFrom : (ℕ → Type 0) → List Bool → List Bool → Type 0
IsCopiedFrom P old new = (t : ℕ) → is_marked new t ≡ true → (is_marked old t ≡ true) ⊎ P t

-- it holds such a place
abbrev pub IsCopiedWith : Size → Cells → Cells → List Bool → List Bool → Type 0
IsCopiedWith s now begun = IsCopiedFrom (IsWitness s now begun)

-- it has a place of a list whose cell is not the label
abbrev pub IsCopiedAmong : Size → List ℕ → Option ℤ → Cells → List Bool → List Bool → Type 0
IsCopiedAmong s found label cells = IsCopiedFrom (λ t. (i : ℕ) × Holds found i × (tile_of s i ≡ t) × (cell_at cells i ≢ label))

-- it has place `at`, which is null now and had a label
abbrev pub IsCopiedAt : Size → Cells → ℕ → Cells → List Bool → List Bool → Type 0
IsCopiedAt s now at cells = IsCopiedFrom (λ t. (t ≡ tile_of s at) × (cell_at now at ≡ None) × (cell_at cells at ≢ None))

-- whatever was labelled, each tile that is copied now was so before or holds such a place
abbrev pub CopiesWith : Size → Cells → Cells → List Bool → List Bool → List Bool → Type 0
CopiesWith s now labels marks old new = (begun : Cells) → IsLabelling s now begun labels marks → IsCopiedWith s now begun old new
