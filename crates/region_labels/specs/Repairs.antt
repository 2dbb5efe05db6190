-- Labels that are put right where the numbers changed.
use Rattle.std.specs.Prelude.{◌≡◌, ◌≢◌, ◌⊎◌, ◌↔◌, ℕ, ◌+◌, ◌<◌, ◌≤◌, ℤ, Bool, true, false, List, length, Option, Some, None, IsSome}
use Rattle.map_nums.specs.Grids.{Size, Cells, cell_at, cells_in, is_neighbour, row_of, column_of, gap}
use Rattle.layer_tiles.specs.Tiles.{Block, tiles_in, tile_cells}
use Rattle.layer_tiles.specs.Patches.{patch_get, patched, HoldsAll}
use Rattle.layer_tiles.specs.Tallies.{TallyState}
use Rattle.layer_tiles.specs.Layers.{LayerState}
use Rattle.layer_tiles.specs.Changes.{ChangeState, cells_before}
use Rattle.map_defs.specs.Regions.{IsRegionLabel, AreRegions}
use Rattle.region_labels.specs.Flood.{is_marked, marks_in, AreWhole, Holds}

-- the labels of the marked places are right, and each other place has what it began with
pub record IsLabelling (s : Size) (now begun labels : Cells) (marks : List Bool) : Type 0 where
  pub size : length marks ≡ cells_in s
  pub whole : AreWhole s now marks
  pub right : (i : ℕ) → is_marked marks i ≡ true → IsRegionLabel s now i (cell_at labels i)
  pub other : (i : ℕ) → is_marked marks i ≡ false → cell_at labels i ≡ cell_at begun i

-- place i is marked unless it is null
abbrev pub IsHandled : Cells → List Bool → ℕ → Type 0
IsHandled now marks i = IsSome (cell_at now i) → is_marked marks i ≡ true

-- a changed place and its neighbours are marked unless they are null
abbrev pub AreHandledRound : Size → Cells → List Bool → ℕ → Type 0
AreHandledRound s now marks c = (j : ℕ) → j < cells_in s → (j ≡ c) ⊎ (is_neighbour s c j ≡ true) → IsHandled now marks j

-- the places of a list have the label, and all others what they had
pub record IsLabelled (found : List ℕ) (label : Option ℤ) (old new : Cells) : Type 0 where
  pub count : length new ≡ length old
  pub done : (i : ℕ) → Holds found i → cell_at new i ≡ label
  pub other : (i : ℕ) → (Holds found i → ⊥) → cell_at new i ≡ cell_at old i

-- a step keeps what was labelled, and reaches more
pub record IsLabelStep (s : Size) (now labels : Cells) (marks : List Bool) (labels' : Cells) (marks' : List Bool) : Type 0 where
  pub keeps : (begun : Cells) → IsLabelling s now begun labels marks → IsLabelling s now begun labels' marks'
  pub marked : (i : ℕ) → is_marked marks i ≡ true → is_marked marks' i ≡ true
  pub size : length marks' ≡ length marks
  pub more : marks_in marks ≤ marks_in marks'

-- those of the places of a row next to place `from` that are in columns before c
abbrev pub IsRowHandledTo : Size → Cells → ℕ → ℕ → ℕ → List Bool → Type 0
IsRowHandledTo s now from row c marks = (j : ℕ) → j < cells_in s → row_of s j ≡ row → gap (column_of s from) (column_of s j) ≤ 1 → column_of s j < c → IsHandled now marks j

abbrev pub IsRowHandled : Size → Cells → ℕ → ℕ → List Bool → Type 0
IsRowHandled s now from row marks = (j : ℕ) → j < cells_in s → row_of s j ≡ row → gap (column_of s from) (column_of s j) ≤ 1 → IsHandled now marks j

-- those of all rows before r
abbrev pub IsRoundHandledTo : Size → Cells → ℕ → ℕ → List Bool → Type 0
IsRoundHandledTo s now from r marks = (j : ℕ) → j < cells_in s → gap (row_of s from) (row_of s j) ≤ 1 → gap (column_of s from) (column_of s j) ≤ 1 → row_of s j < r → IsHandled now marks j

-- a place that has no number has no label either
pub record IsClearedAt (now : Cells) (at : ℕ) (old new : Cells) : Type 0 where
  pub count : length new ≡ length old
  pub here : cell_at now at ≡ None → cell_at new at ≡ None
  pub other : (i : ℕ) → (i ≡ at → IsSome (cell_at now i)) → cell_at new i ≡ cell_at old i

-- nor have those places of a list
pub record IsCleared (now : Cells) (changed : List ℕ) (old new : Cells) : Type 0 where
  pub count : length new ≡ length old
  pub here : (i : ℕ) → Holds changed i → cell_at now i ≡ None → cell_at new i ≡ None
  pub other : (i : ℕ) → (Holds changed i → IsSome (cell_at now i)) → cell_at new i ≡ cell_at old i

-- the list has each place whose number changed
abbrev pub HoldsChanged : Size → Cells → Cells → List ℕ → Type 0
HoldsChanged s was now changed = (i : ℕ) → i < cells_in s → (cell_at was i ≡ cell_at now i → ⊥) → Holds changed i

-- the tiles are exactly those whose cells differ
abbrev pub HoldsExactly : Size → Cells → List (ℕ × Block) → Type 0
HoldsExactly s before tiles = (t : ℕ) → t < tiles_in s → IsSome (patch_get tiles t) ↔ (tile_cells s (patched s before tiles) t ≢ tile_cells s before t)

-- at most these more picks
abbrev pub IsPickedBy : ℕ → TallyState → TallyState → Type 0
IsPickedBy picks before after = after.picks ≤ before.picks + picks

-- at most these more looks
abbrev pub IsLookedBy : ℕ → TallyState → TallyState → Type 0
IsLookedBy looks before after = after.looks ≤ before.looks + looks

-- the operand was there, and the layer has its regions before
abbrev pub IsBaseFor : ChangeState → Option LayerState → Type 0
IsBaseFor of None = Unit {0}
IsBaseFor of (Some l) = (l.size ≡ of.size) × IsSome of.before × AreRegions of.size (cells_before of) l.cells

-- the changed tiles exactly; all tiles where there was no layer
abbrev pub IsPatchFor : Size → Option LayerState → List (ℕ × Block) → Type 0
IsPatchFor s None tiles = HoldsAll (record { size = s; tiles = tiles })
IsPatchFor s (Some l) tiles = HoldsExactly s l.cells tiles
