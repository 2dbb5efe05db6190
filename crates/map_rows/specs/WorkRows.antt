-- Tiles changed, damage and work of statements, as a second program gives them.
use Rattle.std.specs.Prelude.{◌≡◌, pos, [], ◌∷◌, None}
use Rattle.map_nums.specs.declared.Stat.TheVariants.{Sum}
use Rattle.map_defs.specs.Ops.{Term, number_term, zonal_op, flow_op, spread_op, region_op}
use Rattle.map_rows.specs.Words.{some, by}
use Rattle.map_rows.specs.Edits.{counts, at_change}

abbrev pub term : Term
term = number_term (pos 0)

pub record WorkRows : Type 0 where
  pub spread0 : at_change (spread_op 60 term term) (by 3 4) ((None ∷ None ∷ None ∷ some 1 ∷ None ∷ None ∷ None ∷ some 1 ∷ None ∷ None ∷ some 1 ∷ None ∷ []) ∷ (None ∷ some 0 ∷ some 3 ∷ some 3 ∷ some 1 ∷ some 3 ∷ some 2 ∷ some 1 ∷ some 2 ∷ some 3 ∷ some 0 ∷ None ∷ []) ∷ []) ((None ∷ None ∷ None ∷ some 1 ∷ None ∷ None ∷ None ∷ some 1 ∷ None ∷ None ∷ some 1 ∷ None ∷ []) ∷ (None ∷ some 0 ∷ some 3 ∷ some 3 ∷ some 1 ∷ some 3 ∷ some 2 ∷ some 1 ∷ some 2 ∷ some 3 ∷ some 0 ∷ None ∷ []) ∷ []) ≡ counts 0 0 0
  pub flow0 : at_change (flow_op term term) (by 3 4) ((some 1 ∷ some 2 ∷ some 2 ∷ some 1 ∷ None ∷ None ∷ some 2 ∷ some 1 ∷ some 2 ∷ some 1 ∷ some 1 ∷ some 1 ∷ []) ∷ (None ∷ some 0 ∷ some 3 ∷ some 3 ∷ some 1 ∷ some 3 ∷ some 2 ∷ some 1 ∷ some 2 ∷ some 3 ∷ some 0 ∷ None ∷ []) ∷ []) ((some 1 ∷ some 2 ∷ some 2 ∷ some 1 ∷ None ∷ None ∷ some 2 ∷ some 1 ∷ some 3 ∷ some 1 ∷ some 1 ∷ some 2 ∷ []) ∷ (None ∷ some 0 ∷ some 3 ∷ some 3 ∷ some 1 ∷ some 3 ∷ some 2 ∷ some 1 ∷ some 2 ∷ some 3 ∷ some 0 ∷ None ∷ []) ∷ []) ≡ counts 0 1 2
  pub region0 : at_change (region_op term) (by 3 4) ((some 1 ∷ some 2 ∷ some 2 ∷ some 1 ∷ None ∷ None ∷ some 2 ∷ some 1 ∷ some 2 ∷ some 1 ∷ some 1 ∷ some 1 ∷ []) ∷ []) ((some 1 ∷ some 2 ∷ some 2 ∷ some 1 ∷ None ∷ None ∷ some 2 ∷ some 1 ∷ some 3 ∷ some 1 ∷ some 1 ∷ some 2 ∷ []) ∷ []) ≡ counts 1 1 11
  pub zonal0 : at_change (zonal_op Sum term term) (by 3 4) ((some 1 ∷ some 2 ∷ some 2 ∷ some 1 ∷ None ∷ None ∷ some 2 ∷ some 1 ∷ some 2 ∷ some 1 ∷ some 1 ∷ some 1 ∷ []) ∷ (None ∷ some 0 ∷ some 3 ∷ some 3 ∷ some 1 ∷ some 3 ∷ some 2 ∷ some 1 ∷ some 2 ∷ some 3 ∷ some 0 ∷ None ∷ []) ∷ []) ((some 1 ∷ some 2 ∷ some 2 ∷ some 1 ∷ None ∷ None ∷ some 2 ∷ some 1 ∷ some 3 ∷ some 1 ∷ some 1 ∷ some 2 ∷ []) ∷ (None ∷ some 0 ∷ some 3 ∷ some 3 ∷ some 1 ∷ some 3 ∷ some 2 ∷ some 1 ∷ some 2 ∷ some 3 ∷ some 0 ∷ None ∷ []) ∷ []) ≡ counts 1 1 0
  pub spread1 : at_change (spread_op 60 term term) (by 3 4) ((some 1 ∷ None ∷ None ∷ None ∷ some 1 ∷ None ∷ some 1 ∷ None ∷ None ∷ None ∷ None ∷ None ∷ []) ∷ (some 2 ∷ some 0 ∷ some 1 ∷ some 1 ∷ some 0 ∷ some 2 ∷ some 1 ∷ some 3 ∷ some 2 ∷ some 0 ∷ some 2 ∷ some 0 ∷ []) ∷ []) ((some 1 ∷ some 3 ∷ None ∷ None ∷ some 1 ∷ None ∷ some 1 ∷ some 2 ∷ None ∷ None ∷ None ∷ None ∷ []) ∷ (some 2 ∷ some 0 ∷ some 1 ∷ some 1 ∷ some 0 ∷ some 2 ∷ some 1 ∷ some 3 ∷ some 2 ∷ some 0 ∷ some 2 ∷ some 0 ∷ []) ∷ []) ≡ counts 1 1 3
  pub flow1 : at_change (flow_op term term) (by 3 4) ((some 3 ∷ some 2 ∷ some 1 ∷ some 2 ∷ some 3 ∷ some 2 ∷ some 1 ∷ some 1 ∷ some 3 ∷ some 3 ∷ some 3 ∷ some 3 ∷ []) ∷ (some 2 ∷ some 0 ∷ some 1 ∷ some 1 ∷ some 0 ∷ some 2 ∷ some 1 ∷ some 3 ∷ some 2 ∷ some 0 ∷ some 2 ∷ some 0 ∷ []) ∷ []) ((some 3 ∷ some 2 ∷ some 1 ∷ some 2 ∷ some 3 ∷ some 2 ∷ some 1 ∷ some 1 ∷ some 1 ∷ some 3 ∷ some 3 ∷ some 3 ∷ []) ∷ (some 2 ∷ some 0 ∷ some 1 ∷ some 1 ∷ some 0 ∷ some 2 ∷ some 1 ∷ some 3 ∷ some 2 ∷ some 0 ∷ some 2 ∷ some 0 ∷ []) ∷ []) ≡ counts 1 1 3
  pub region1 : at_change (region_op term) (by 3 4) ((some 3 ∷ some 2 ∷ some 1 ∷ some 2 ∷ some 3 ∷ some 2 ∷ some 1 ∷ some 1 ∷ some 3 ∷ some 3 ∷ some 3 ∷ some 3 ∷ []) ∷ []) ((some 3 ∷ some 2 ∷ some 1 ∷ some 2 ∷ some 3 ∷ some 2 ∷ some 1 ∷ some 1 ∷ some 1 ∷ some 3 ∷ some 3 ∷ some 3 ∷ []) ∷ []) ≡ counts 1 1 9
  pub zonal1 : at_change (zonal_op Sum term term) (by 3 4) ((some 3 ∷ some 2 ∷ some 1 ∷ some 2 ∷ some 3 ∷ some 2 ∷ some 1 ∷ some 1 ∷ some 3 ∷ some 3 ∷ some 3 ∷ some 3 ∷ []) ∷ (some 2 ∷ some 0 ∷ some 1 ∷ some 1 ∷ some 0 ∷ some 2 ∷ some 1 ∷ some 3 ∷ some 2 ∷ some 0 ∷ some 2 ∷ some 0 ∷ []) ∷ []) ((some 3 ∷ some 2 ∷ some 1 ∷ some 2 ∷ some 3 ∷ some 2 ∷ some 1 ∷ some 1 ∷ some 1 ∷ some 3 ∷ some 3 ∷ some 3 ∷ []) ∷ (some 2 ∷ some 0 ∷ some 1 ∷ some 1 ∷ some 0 ∷ some 2 ∷ some 1 ∷ some 3 ∷ some 2 ∷ some 0 ∷ some 2 ∷ some 0 ∷ []) ∷ []) ≡ counts 1 1 0
  pub spread2 : at_change (spread_op 60 term term) (by 3 4) ((some 1 ∷ None ∷ some 1 ∷ None ∷ None ∷ None ∷ None ∷ None ∷ None ∷ None ∷ None ∷ None ∷ []) ∷ (some 3 ∷ some 0 ∷ some 2 ∷ some 3 ∷ None ∷ some 1 ∷ some 2 ∷ None ∷ None ∷ some 2 ∷ some 3 ∷ some 1 ∷ []) ∷ []) ((some 1 ∷ None ∷ None ∷ None ∷ some 3 ∷ None ∷ None ∷ None ∷ None ∷ None ∷ None ∷ None ∷ []) ∷ (some 3 ∷ some 0 ∷ some 2 ∷ some 3 ∷ None ∷ some 1 ∷ some 2 ∷ None ∷ None ∷ some 2 ∷ some 3 ∷ some 1 ∷ []) ∷ []) ≡ counts 1 1 9
  pub flow2 : at_change (flow_op term term) (by 3 4) ((some 2 ∷ some 1 ∷ some 2 ∷ some 3 ∷ some 3 ∷ some 1 ∷ some 2 ∷ None ∷ some 1 ∷ some 3 ∷ some 3 ∷ some 3 ∷ []) ∷ (some 3 ∷ some 0 ∷ some 2 ∷ some 3 ∷ None ∷ some 1 ∷ some 2 ∷ None ∷ None ∷ some 2 ∷ some 3 ∷ some 1 ∷ []) ∷ []) ((some 2 ∷ some 1 ∷ some 2 ∷ some 3 ∷ some 3 ∷ some 1 ∷ some 2 ∷ None ∷ some 1 ∷ None ∷ some 3 ∷ some 3 ∷ []) ∷ (some 3 ∷ some 0 ∷ some 2 ∷ some 3 ∷ None ∷ some 1 ∷ some 2 ∷ None ∷ None ∷ some 2 ∷ some 3 ∷ some 1 ∷ []) ∷ []) ≡ counts 1 1 3
  pub region2 : at_change (region_op term) (by 3 4) ((some 2 ∷ some 1 ∷ some 2 ∷ some 3 ∷ some 3 ∷ some 1 ∷ some 2 ∷ None ∷ some 1 ∷ some 3 ∷ some 3 ∷ some 3 ∷ []) ∷ []) ((some 2 ∷ some 1 ∷ some 2 ∷ some 3 ∷ some 3 ∷ some 1 ∷ some 2 ∷ None ∷ some 1 ∷ None ∷ some 3 ∷ some 3 ∷ []) ∷ []) ≡ counts 1 1 9
  pub zonal2 : at_change (zonal_op Sum term term) (by 3 4) ((some 2 ∷ some 1 ∷ some 2 ∷ some 3 ∷ some 3 ∷ some 1 ∷ some 2 ∷ None ∷ some 1 ∷ some 3 ∷ some 3 ∷ some 3 ∷ []) ∷ (some 3 ∷ some 0 ∷ some 2 ∷ some 3 ∷ None ∷ some 1 ∷ some 2 ∷ None ∷ None ∷ some 2 ∷ some 3 ∷ some 1 ∷ []) ∷ []) ((some 2 ∷ some 1 ∷ some 2 ∷ some 3 ∷ some 3 ∷ some 1 ∷ some 2 ∷ None ∷ some 1 ∷ None ∷ some 3 ∷ some 3 ∷ []) ∷ (some 3 ∷ some 0 ∷ some 2 ∷ some 3 ∷ None ∷ some 1 ∷ some 2 ∷ None ∷ None ∷ some 2 ∷ some 3 ∷ some 1 ∷ []) ∷ []) ≡ counts 1 1 0
