-- Tiles changed, damage and work of one statement, on grids of one tile.
use Rattle.std.specs.Prelude.{false, ◌≡◌, ℕ, pos, List, [], ◌∷◌, None}
use Rattle.map_nums.specs.declared.Stat.TheVariants.{Sum, Maximum, Variety}
use Rattle.map_nums.specs.Grids.{Cells}
use Rattle.map_defs.specs.Incremental.{gradient_form}
use Rattle.map_defs.specs.Ops.{Op, Term, number_term, local_op, focal_op, zonal_op, form_op, direction_op, flow_op, spread_op, nearest_op, sight_op, region_op}
use Rattle.map_rows.specs.Words.{some, nums, by, all}
use Rattle.map_rows.specs.Edits.{Counts, counts, at_first, at_change}

-- the counts speak of the operands' cells and not of their names
abbrev pub term : Term
term = number_term (pos 0)

abbrev pub seven : Op → Counts
seven op = at_first op (by 1 1) ((some 7 ∷ []) ∷ (some 7 ∷ []) ∷ [])

abbrev pub spread : ℕ → Op
spread limit = spread_op limit term term

abbrev pub source : Cells
source = some 1 ∷ None ∷ None ∷ None ∷ None ∷ []

-- costs along a row from its first cell, where the frictions change
abbrev pub friction_changes : List ℕ → List ℕ → Counts
friction_changes f g = at_change (spread 1000000000000000) (by 1 5) (source ∷ nums f ∷ []) (source ∷ nums g ∷ [])

-- numbers at both ends of a row, and what becomes of their nearest cells where the frictions change
abbrev pub ends : Cells
ends = some 3 ∷ None ∷ None ∷ None ∷ some 2 ∷ []

abbrev pub nearest : Op
nearest = nearest_op 1000000000000000 term term

abbrev pub nearest_changes : List ℕ → List ℕ → Counts
nearest_changes f g = at_change nearest (by 1 5) (ends ∷ nums f ∷ []) (ends ∷ nums g ∷ [])

abbrev pub basin : Cells
basin = nums (9 ∷ 4 ∷ 9 ∷ 9 ∷ 5 ∷ 4 ∷ 9 ∷ 9 ∷ 9 ∷ [])

abbrev pub filled : Cells
filled = nums (9 ∷ 4 ∷ 9 ∷ 9 ∷ 9 ∷ 4 ∷ 9 ∷ 9 ∷ 9 ∷ [])

abbrev pub ones : Cells
ones = all (by 3 3) 1

abbrev pub corner : Cells
corner = some 1 ∷ None ∷ None ∷ None ∷ None ∷ None ∷ None ∷ None ∷ None ∷ []

abbrev pub middle : ℕ → Cells
middle n = nums (1 ∷ 1 ∷ 1 ∷ 1 ∷ n ∷ 1 ∷ 1 ∷ 1 ∷ 1 ∷ [])

pub record CountRows : Type 0 where
  pub focal_first : seven (focal_op Sum None term) ≡ counts 1 1 0
  pub zonal_first : seven (zonal_op Sum term term) ≡ counts 1 1 0
  pub local_first : seven (local_op Variety false (term ∷ term ∷ [])) ≡ counts 1 1 0
  pub form_first : seven (form_op gradient_form term) ≡ counts 1 1 0
  pub direction_first : seven (direction_op term) ≡ counts 1 1 0
  pub flow_first : seven (flow_op term term) ≡ counts 1 1 2
  pub spread_first : seven (spread 1000000000000000) ≡ counts 1 1 2
  pub region_first : seven (region_op term) ≡ counts 1 1 2
  -- a change that stops
  pub stops : at_change (local_op Maximum false (term ∷ term ∷ [])) (by 3 3) (middle 5 ∷ all (by 3 3) 9 ∷ []) (middle 1 ∷ all (by 3 3) 9 ∷ []) ≡ counts 0 1 0
  pub costs_first : at_first (spread 1000000000000000) (by 1 5) (source ∷ nums (1 ∷ 1 ∷ 1 ∷ 1 ∷ 1 ∷ []) ∷ []) ≡ counts 1 1 10
  pub rises : friction_changes (1 ∷ 1 ∷ 1 ∷ 1 ∷ 1 ∷ []) (1 ∷ 1 ∷ 5 ∷ 1 ∷ 1 ∷ []) ≡ counts 1 1 4
  pub falls : friction_changes (1 ∷ 1 ∷ 5 ∷ 1 ∷ 1 ∷ []) (1 ∷ 1 ∷ 1 ∷ 1 ∷ 1 ∷ []) ≡ counts 1 1 4
  pub rise_together : friction_changes (1 ∷ 1 ∷ 1 ∷ 1 ∷ 1 ∷ []) (1 ∷ 2 ∷ 2 ∷ 2 ∷ 1 ∷ []) ≡ counts 1 1 7
  pub fall_together : friction_changes (1 ∷ 2 ∷ 2 ∷ 2 ∷ 1 ∷ []) (1 ∷ 1 ∷ 1 ∷ 1 ∷ 1 ∷ []) ≡ counts 1 1 7
  pub within_twenty : at_first (spread 20) (by 1 5) ((some 1 ∷ None ∷ None ∷ some 1 ∷ None ∷ []) ∷ nums (1 ∷ 1 ∷ 1 ∷ 0 ∷ 1 ∷ []) ∷ []) ≡ counts 1 1 8
  pub within_nineteen : at_first (spread 19) (by 1 5) ((some 1 ∷ None ∷ None ∷ some 1 ∷ None ∷ []) ∷ nums (1 ∷ 1 ∷ 1 ∷ 0 ∷ 1 ∷ []) ∷ []) ≡ counts 1 1 7
  pub through_middle : at_change (spread 1000000000000000) (by 3 3) (corner ∷ middle 5 ∷ []) (corner ∷ middle 1 ∷ []) ≡ counts 1 1 3
  pub whole_region : at_first (region_op term) (by 1 5) (nums (7 ∷ 7 ∷ 7 ∷ 7 ∷ 7 ∷ []) ∷ []) ≡ counts 1 1 10
  pub nearest_first : at_first nearest (by 1 5) (ends ∷ nums (1 ∷ 1 ∷ 1 ∷ 1 ∷ 1 ∷ []) ∷ []) ≡ counts 1 1 10
  -- a cost that changes no value, two of them, and a value where the cost stays
  pub nearest_cost : nearest_changes (1 ∷ 1 ∷ 1 ∷ 1 ∷ 1 ∷ []) (1 ∷ 5 ∷ 1 ∷ 1 ∷ 1 ∷ []) ≡ counts 0 1 2
  pub nearest_tie : nearest_changes (1 ∷ 5 ∷ 1 ∷ 1 ∷ 1 ∷ []) (1 ∷ 5 ∷ 1 ∷ 5 ∷ 1 ∷ []) ≡ counts 0 1 3
  pub nearest_lost : at_change nearest (by 1 5) (ends ∷ nums (1 ∷ 5 ∷ 1 ∷ 5 ∷ 1 ∷ []) ∷ []) ((some 3 ∷ None ∷ None ∷ None ∷ None ∷ []) ∷ nums (1 ∷ 5 ∷ 1 ∷ 5 ∷ 1 ∷ []) ∷ []) ≡ counts 1 1 4
  pub split_region : at_change (region_op term) (by 1 5) (nums (7 ∷ 7 ∷ 7 ∷ 7 ∷ 7 ∷ []) ∷ []) (nums (7 ∷ 7 ∷ 8 ∷ 7 ∷ 7 ∷ []) ∷ []) ≡ counts 1 1 6
  pub sight_first : at_first (sight_op (record { from = pos 0; to = pos 0; reach = 64 }) term term) (by 1 5) (source ∷ nums (0 ∷ 1 ∷ 2 ∷ 0 ∷ 0 ∷ []) ∷ []) ≡ counts 1 1 0
  pub hidden : at_change (sight_op (record { from = pos 0; to = pos 0; reach = 64 }) term term) (by 1 5) (source ∷ nums (0 ∷ 1 ∷ 2 ∷ 0 ∷ 0 ∷ []) ∷ []) (source ∷ nums (0 ∷ 2 ∷ 2 ∷ 0 ∷ 0 ∷ []) ∷ []) ≡ counts 1 1 0
  pub basin_first : at_first (flow_op term term) (by 3 3) (basin ∷ ones ∷ []) ≡ counts 1 1 18
  pub basin_filled : at_change (flow_op term term) (by 3 3) (basin ∷ ones ∷ []) (filled ∷ ones ∷ []) ≡ counts 1 1 4
  pub directions_filled : at_change (direction_op term) (by 3 3) (basin ∷ []) (filled ∷ []) ≡ counts 1 1 0
  -- one cell: its friction, its surface
  pub one_friction : at_change (spread 100000) (by 1 1) ((some 1 ∷ []) ∷ (some 9 ∷ []) ∷ []) ((some 1 ∷ []) ∷ (some 2 ∷ []) ∷ []) ≡ counts 0 1 1
  pub one_surface : at_change (flow_op term term) (by 1 1) ((some 21 ∷ []) ∷ (some 1 ∷ []) ∷ []) ((some 3 ∷ []) ∷ (some 1 ∷ []) ∷ []) ≡ counts 0 1 1
