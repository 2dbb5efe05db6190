-- Tiles changed, damage and work of one statement where its operands change: viewers that come and go, surfaces, weights and nulls.
use Rattle.std.specs.Prelude.{◌≡◌, ℕ, pos, [], ◌∷◌, ◌++◌, length, replicate, Some, None}
use Rattle.map_nums.specs.Grids.{Cells}
use Rattle.map_defs.specs.Ops.{Op, Term, number_term, flow_op, spread_op, sight_op, region_op}
use Rattle.map_defs.specs.Damage.{op_damage}
use Rattle.map_rows.specs.Words.{some, nums, by, all}
use Rattle.map_rows.specs.Edits.{counts, at_change}

-- the counts speak of the operands' cells and not of their names
abbrev pub term : Term
term = number_term (pos 0)

abbrev pub sight : ℕ → Op
sight reach = sight_op (record { from = pos 0; to = pos 0; reach = reach }) term term

abbrev pub flat : Cells
flat = all (by 1 65) 0

-- a viewer in column 33 alone, or none
abbrev pub viewer : Cells
viewer = replicate 32 None ++ (some 1 ∷ replicate 32 None)

abbrev pub nobody : Cells
nobody = replicate 65 None

-- the surface of column 31 rises
abbrev pub risen : Cells
risen = replicate 30 (some 0) ++ (some 1 ∷ replicate 34 (some 0))

pub record ChangeRows : Type 0 where
  -- both operands change in one cell, which counts once
  pub both_change : at_change (spread_op 1000000000000000 term term) (by 1 1) ((some 1 ∷ []) ∷ (some 9 ∷ []) ∷ []) ((some 2 ∷ []) ∷ (some 2 ∷ []) ∷ []) ≡ counts 0 1 1
  -- a null moves
  pub region_moves : at_change (region_op term) (by 1 3) ((some 7 ∷ None ∷ some 7 ∷ []) ∷ []) ((some 7 ∷ some 7 ∷ None ∷ []) ∷ []) ≡ counts 1 1 4
  pub viewer_goes : at_change (sight 1) (by 1 65) (viewer ∷ flat ∷ []) (nobody ∷ flat ∷ []) ≡ counts 2 2 0
  pub near_surface : length (op_damage (sight 1) (by 1 65) (nobody ∷ flat ∷ []) (nobody ∷ risen ∷ []) (Some nobody) nobody) ≡ 1
  pub far_surface : length (op_damage (sight 2) (by 1 65) (nobody ∷ flat ∷ []) (nobody ∷ risen ∷ []) (Some nobody) nobody) ≡ 2
  -- a viewer without a surface goes
  pub blind_viewer_goes : at_change (sight 64) (by 1 65) (viewer ∷ nobody ∷ []) (nobody ∷ nobody ∷ []) ≡ counts 0 3 0
  -- a weight without a surface changes
  pub weight_changes : at_change (flow_op term term) (by 1 2) ((None ∷ some 3 ∷ []) ∷ nums (1 ∷ 1 ∷ []) ∷ []) ((None ∷ some 3 ∷ []) ∷ nums (2 ∷ 1 ∷ []) ∷ []) ≡ counts 0 1 1
