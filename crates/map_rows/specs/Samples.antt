-- Small grids with nulls, made at random once.
use Rattle.std.specs.Prelude.{[], ◌∷◌, None}
use Rattle.map_nums.specs.Grids.{Cells}
use Rattle.map_rows.specs.Words.{some, less}

abbrev pub first_near : Cells
first_near = some 0 ∷ less 1 ∷ some 0 ∷ less 1 ∷ some 0 ∷ less 2 ∷ some 1 ∷ some 0 ∷ less 2 ∷ less 2 ∷ less 2 ∷ some 0 ∷ []

abbrev pub first_surface : Cells
first_surface = some 6 ∷ some 7 ∷ some 5 ∷ some 3 ∷ some 0 ∷ some 9 ∷ some 4 ∷ some 3 ∷ some 6 ∷ some 6 ∷ None ∷ some 8 ∷ []

abbrev pub first_friction : Cells
first_friction = some 0 ∷ some 3 ∷ some 0 ∷ some 4 ∷ some 0 ∷ some 2 ∷ some 2 ∷ some 4 ∷ some 2 ∷ some 0 ∷ some 1 ∷ some 2 ∷ []

abbrev pub first_viewers : Cells
first_viewers = some 6 ∷ some 6 ∷ None ∷ some 1 ∷ some 7 ∷ some 7 ∷ None ∷ some 4 ∷ None ∷ some 2 ∷ None ∷ some 3 ∷ []

abbrev pub first_zones : Cells
first_zones = some 2 ∷ some 1 ∷ some 1 ∷ some 3 ∷ some 1 ∷ some 3 ∷ None ∷ some 3 ∷ some 1 ∷ some 2 ∷ some 1 ∷ some 2 ∷ []

abbrev pub first_sources : Cells
first_sources = None ∷ None ∷ None ∷ None ∷ None ∷ None ∷ some 1 ∷ some 1 ∷ None ∷ None ∷ some 1 ∷ None ∷ []

abbrev pub first_weights : Cells
first_weights = some 3 ∷ some 5 ∷ some 1 ∷ some 0 ∷ some 5 ∷ less 2 ∷ some 1 ∷ less 1 ∷ some 3 ∷ some 0 ∷ some 3 ∷ some 4 ∷ []

abbrev pub second_near : Cells
second_near = less 1 ∷ None ∷ some 0 ∷ less 1 ∷ some 0 ∷ less 1 ∷ some 1 ∷ some 2 ∷ None ∷ some 2 ∷ []

abbrev pub second_surface : Cells
second_surface = some 1 ∷ some 9 ∷ None ∷ some 4 ∷ None ∷ some 4 ∷ some 0 ∷ some 7 ∷ some 2 ∷ some 6 ∷ []

abbrev pub second_friction : Cells
second_friction = None ∷ some 4 ∷ some 0 ∷ some 2 ∷ some 0 ∷ some 2 ∷ some 2 ∷ some 2 ∷ some 1 ∷ some 4 ∷ []

abbrev pub second_viewers : Cells
second_viewers = None ∷ None ∷ None ∷ None ∷ some 3 ∷ None ∷ None ∷ some 2 ∷ some 4 ∷ some 3 ∷ []

abbrev pub second_zones : Cells
second_zones = some 2 ∷ some 2 ∷ some 2 ∷ some 2 ∷ some 3 ∷ some 3 ∷ some 3 ∷ some 1 ∷ some 1 ∷ some 1 ∷ []

abbrev pub second_sources : Cells
second_sources = None ∷ None ∷ None ∷ some 1 ∷ some 1 ∷ some 1 ∷ None ∷ None ∷ None ∷ None ∷ []

abbrev pub second_weights : Cells
second_weights = less 2 ∷ less 1 ∷ some 6 ∷ some 8 ∷ less 1 ∷ some 4 ∷ some 7 ∷ None ∷ some 9 ∷ some 9 ∷ []

abbrev pub third_near : Cells
third_near = some 0 ∷ some 1 ∷ less 2 ∷ some 1 ∷ some 2 ∷ None ∷ some 2 ∷ less 2 ∷ some 3 ∷ some 3 ∷ some 3 ∷ some 2 ∷ []

abbrev pub third_surface : Cells
third_surface = some 2 ∷ some 8 ∷ some 3 ∷ some 6 ∷ some 3 ∷ some 2 ∷ some 0 ∷ some 2 ∷ some 0 ∷ some 9 ∷ some 7 ∷ some 0 ∷ []

abbrev pub third_friction : Cells
third_friction = some 0 ∷ some 1 ∷ some 0 ∷ some 3 ∷ some 2 ∷ some 4 ∷ some 1 ∷ some 0 ∷ some 3 ∷ some 4 ∷ some 3 ∷ some 0 ∷ []

abbrev pub third_viewers : Cells
third_viewers = some 2 ∷ some 3 ∷ some 2 ∷ None ∷ some 3 ∷ None ∷ None ∷ None ∷ some 1 ∷ some 5 ∷ None ∷ None ∷ []

abbrev pub third_zones : Cells
third_zones = some 2 ∷ None ∷ some 1 ∷ some 1 ∷ some 2 ∷ some 2 ∷ some 3 ∷ some 1 ∷ None ∷ some 3 ∷ None ∷ some 3 ∷ []

abbrev pub third_sources : Cells
third_sources = None ∷ None ∷ None ∷ None ∷ some 1 ∷ None ∷ None ∷ None ∷ some 1 ∷ some 1 ∷ None ∷ some 1 ∷ []

abbrev pub third_weights : Cells
third_weights = some 0 ∷ some 7 ∷ less 1 ∷ some 8 ∷ some 1 ∷ some 3 ∷ less 3 ∷ some 2 ∷ less 2 ∷ some 0 ∷ some 8 ∷ None ∷ []
