-- Zones, drainage, sight, spreading and regions, as a second program gives them.
use Rattle.std.specs.Prelude.{◌≡◌, pos, negsuc, [], ◌∷◌, None}
use Rattle.map_nums.specs.declared.Stat.TheVariants.{Majority, Mean}
use Rattle.map_defs.specs.Zonal.{zonal_grid}
use Rattle.map_defs.specs.Drainage.{direction_grid}
use Rattle.map_defs.specs.Flow.{flow_grid}
use Rattle.map_defs.specs.Sight.{sight_grid}
use Rattle.map_defs.specs.Rounds.{spread_grid, region_grid}
use Rattle.map_rows.specs.Words.{some, less, by}
use Rattle.map_rows.specs.Samples.{first_near, first_surface, first_friction, first_viewers, first_zones, first_sources, first_weights, second_near, second_surface, second_friction, second_viewers, second_zones, second_sources, second_weights, third_near, third_surface, third_friction, third_viewers, third_zones, third_sources, third_weights}

pub record WholeRows : Type 0 where
  pub first_directions : (direction_grid (by 3 4) first_surface).cells ≡ some 5 ∷ some 6 ∷ some 3 ∷ some 0 ∷ some 0 ∷ some 7 ∷ some 3 ∷ some 0 ∷ some 1 ∷ some 8 ∷ None ∷ some 1 ∷ []
  pub first_flow : (flow_grid (by 3 4) first_surface first_weights).cells ≡ some 3 ∷ some 5 ∷ some 1 ∷ some 1 ∷ some 14 ∷ less 2 ∷ some 1 ∷ some 4 ∷ some 3 ∷ some 0 ∷ None ∷ some 4 ∷ []
  pub first_zonal_majority : (zonal_grid Majority (by 3 4) first_near first_zones).cells ≡ some 0 ∷ less 2 ∷ less 2 ∷ less 2 ∷ less 2 ∷ less 2 ∷ None ∷ less 2 ∷ less 2 ∷ some 0 ∷ less 2 ∷ some 0 ∷ []
  pub first_zonal_mean : (zonal_grid Mean (by 3 4) first_near first_zones).cells ≡ less 1 ∷ less 1 ∷ less 1 ∷ less 1 ∷ less 1 ∷ less 1 ∷ None ∷ less 1 ∷ less 1 ∷ less 1 ∷ less 1 ∷ less 1 ∷ []
  pub first_sight : (sight_grid (record { from = pos 1; to = pos 0; reach = 64 }) (by 3 4) first_viewers first_surface).cells ≡ some 26 ∷ some 34 ∷ some 23 ∷ some 23 ∷ some 28 ∷ some 33 ∷ some 23 ∷ some 21 ∷ some 22 ∷ some 17 ∷ None ∷ some 14 ∷ []
  pub first_sight_near : (sight_grid (record { from = pos 0; to = negsuc 0; reach = 2 }) (by 3 4) first_viewers first_surface).cells ≡ some 26 ∷ some 33 ∷ some 23 ∷ some 17 ∷ some 28 ∷ some 33 ∷ some 23 ∷ some 21 ∷ some 22 ∷ some 17 ∷ None ∷ some 14 ∷ []
  pub first_spread : (spread_grid 1000 (by 3 4) first_sources first_friction).cells ≡ None ∷ some 35 ∷ None ∷ some 40 ∷ None ∷ some 20 ∷ some 0 ∷ some 0 ∷ some 48 ∷ None ∷ some 0 ∷ some 15 ∷ []
  pub first_spread_short : (spread_grid 40 (by 3 4) first_sources first_friction).cells ≡ None ∷ some 35 ∷ None ∷ some 40 ∷ None ∷ some 20 ∷ some 0 ∷ some 0 ∷ None ∷ None ∷ some 0 ∷ some 15 ∷ []
  pub first_regions : (region_grid (by 3 4) first_zones).cells ≡ some 1 ∷ some 2 ∷ some 2 ∷ some 4 ∷ some 2 ∷ some 6 ∷ None ∷ some 4 ∷ some 2 ∷ some 10 ∷ some 11 ∷ some 12 ∷ []
  pub second_directions : (direction_grid (by 2 5) second_surface).cells ≡ some 4 ∷ some 5 ∷ None ∷ some 5 ∷ None ∷ some 3 ∷ some 0 ∷ some 7 ∷ some 0 ∷ some 7 ∷ []
  pub second_flow : (flow_grid (by 2 5) second_surface second_weights).cells ≡ less 2 ∷ less 1 ∷ None ∷ some 8 ∷ None ∷ some 4 ∷ some 8 ∷ some 0 ∷ some 26 ∷ some 9 ∷ []
  pub second_zonal_majority : (zonal_grid Majority (by 2 5) second_near second_zones).cells ≡ less 1 ∷ less 1 ∷ less 1 ∷ less 1 ∷ less 1 ∷ less 1 ∷ less 1 ∷ some 2 ∷ some 2 ∷ some 2 ∷ []
  pub second_zonal_mean : (zonal_grid Mean (by 2 5) second_near second_zones).cells ≡ less 1 ∷ less 1 ∷ less 1 ∷ less 1 ∷ some 0 ∷ some 0 ∷ some 0 ∷ some 2 ∷ some 2 ∷ some 2 ∷ []
  pub second_sight : (sight_grid (record { from = pos 1; to = pos 0; reach = 64 }) (by 2 5) second_viewers second_surface).cells ≡ some 2 ∷ some 2 ∷ None ∷ some 9 ∷ None ∷ some 2 ∷ some 2 ∷ some 9 ∷ some 9 ∷ some 9 ∷ []
  pub second_sight_near : (sight_grid (record { from = pos 0; to = negsuc 0; reach = 2 }) (by 2 5) second_viewers second_surface).cells ≡ some 2 ∷ some 2 ∷ None ∷ some 9 ∷ None ∷ some 2 ∷ some 2 ∷ some 9 ∷ some 9 ∷ some 9 ∷ []
  pub second_spread : (spread_grid 1000 (by 2 5) second_sources second_friction).cells ≡ None ∷ some 42 ∷ None ∷ some 0 ∷ None ∷ some 0 ∷ some 20 ∷ some 28 ∷ some 15 ∷ some 40 ∷ []
  pub second_spread_short : (spread_grid 40 (by 2 5) second_sources second_friction).cells ≡ None ∷ None ∷ None ∷ some 0 ∷ None ∷ some 0 ∷ some 20 ∷ some 28 ∷ some 15 ∷ some 40 ∷ []
  pub second_regions : (region_grid (by 2 5) second_zones).cells ≡ some 1 ∷ some 1 ∷ some 1 ∷ some 1 ∷ some 5 ∷ some 6 ∷ some 6 ∷ some 8 ∷ some 8 ∷ some 8 ∷ []
  pub third_directions : (direction_grid (by 4 3) third_surface).cells ≡ some 0 ∷ some 7 ∷ some 5 ∷ some 5 ∷ some 4 ∷ some 5 ∷ some 0 ∷ some 3 ∷ some 0 ∷ some 1 ∷ some 3 ∷ some 0 ∷ []
  pub third_flow : (flow_grid (by 4 3) third_surface third_weights).cells ≡ some 7 ∷ some 7 ∷ less 1 ∷ some 8 ∷ some 1 ∷ some 2 ∷ some 5 ∷ some 2 ∷ some 3 ∷ some 0 ∷ some 8 ∷ some 8 ∷ []
  pub third_zonal_majority : (zonal_grid Majority (by 4 3) third_near third_zones).cells ≡ some 0 ∷ None ∷ less 2 ∷ less 2 ∷ some 0 ∷ some 0 ∷ some 2 ∷ less 2 ∷ None ∷ some 2 ∷ None ∷ some 2 ∷ []
  pub third_zonal_mean : (zonal_grid Mean (by 4 3) third_near third_zones).cells ≡ some 1 ∷ None ∷ less 1 ∷ less 1 ∷ some 1 ∷ some 1 ∷ some 2 ∷ less 1 ∷ None ∷ some 2 ∷ None ∷ some 2 ∷ []
  pub third_sight : (sight_grid (record { from = pos 1; to = pos 0; reach = 64 }) (by 4 3) third_viewers third_surface).cells ≡ some 8 ∷ some 16 ∷ some 14 ∷ some 16 ∷ some 16 ∷ some 14 ∷ some 11 ∷ some 14 ∷ some 9 ∷ some 13 ∷ some 14 ∷ some 9 ∷ []
  pub third_sight_near : (sight_grid (record { from = pos 0; to = negsuc 0; reach = 2 }) (by 4 3) third_viewers third_surface).cells ≡ some 8 ∷ some 11 ∷ some 8 ∷ some 16 ∷ some 16 ∷ some 14 ∷ some 11 ∷ some 14 ∷ some 7 ∷ some 8 ∷ some 9 ∷ some 4 ∷ []
  pub third_spread : (spread_grid 1000 (by 4 3) third_sources third_friction).cells ≡ None ∷ some 15 ∷ None ∷ some 25 ∷ some 0 ∷ some 30 ∷ some 21 ∷ None ∷ some 0 ∷ some 0 ∷ some 35 ∷ None ∷ []
  pub third_spread_short : (spread_grid 40 (by 4 3) third_sources third_friction).cells ≡ None ∷ some 15 ∷ None ∷ some 25 ∷ some 0 ∷ some 30 ∷ some 21 ∷ None ∷ some 0 ∷ some 0 ∷ some 35 ∷ None ∷ []
  pub third_regions : (region_grid (by 4 3) third_zones).cells ≡ some 1 ∷ None ∷ some 3 ∷ some 4 ∷ some 1 ∷ some 1 ∷ some 7 ∷ some 4 ∷ None ∷ some 7 ∷ None ∷ some 12 ∷ []
