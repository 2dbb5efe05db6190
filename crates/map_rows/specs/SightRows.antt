-- Sight, worked.
use Rattle.std.specs.Prelude.{◌≡◌, pos, [], ◌∷◌, None}
use Rattle.map_nums.specs.Grids.{Cells}
use Rattle.map_defs.specs.Sight.{Sighting, sight_grid}
use Rattle.map_rows.specs.Words.{some, nums, by}

abbrev pub as_written : Sighting
as_written = record { from = pos 0; to = pos 0; reach = 64 }

abbrev pub viewers : Cells
viewers = some 1 ∷ None ∷ None ∷ None ∷ None ∷ []

-- what is seen along a row
abbrev pub seen : Sighting → Cells → Cells
seen sight surface = (sight_grid sight (by 1 5) viewers surface).cells

pub record SightRows : Type 0 where
  pub slope : seen as_written (nums (0 ∷ 1 ∷ 2 ∷ 0 ∷ 0 ∷ [])) ≡ some 1 ∷ some 1 ∷ some 1 ∷ None ∷ None ∷ []
  pub ridge : seen as_written (nums (0 ∷ 2 ∷ 2 ∷ 0 ∷ 0 ∷ [])) ≡ some 1 ∷ some 1 ∷ None ∷ None ∷ None ∷ []
  pub higher : seen (record as_written { from = pos 2 }) (nums (0 ∷ 2 ∷ 2 ∷ 0 ∷ 0 ∷ [])) ≡ some 1 ∷ some 1 ∷ some 1 ∷ None ∷ None ∷ []
  pub nearer : seen (record as_written { reach = 1 }) (nums (0 ∷ 1 ∷ 2 ∷ 0 ∷ 0 ∷ [])) ≡ some 1 ∷ some 1 ∷ None ∷ None ∷ None ∷ []
  pub no_surface : seen as_written (None ∷ some 1 ∷ some 2 ∷ some 0 ∷ some 0 ∷ []) ≡ None ∷ None ∷ None ∷ None ∷ None ∷ []
