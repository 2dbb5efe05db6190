-- Focal and Incremental operations, as a second program gives them.
use Rattle.std.specs.Prelude.{◌≡◌, [], ◌∷◌, Some, None}
use Rattle.map_nums.specs.declared.Stat.TheVariants.{Median, Minority, Mean, Variety, Minimum}
use Rattle.map_defs.specs.Focal.{focal_grid, offsets_of}
use Rattle.map_defs.specs.Incremental.{linkage_form, length_form, partition_form, frontage_form, gradient_form, aspect_form, form_grid}
use Rattle.map_rows.specs.Words.{some, less, by}
use Rattle.map_rows.specs.Samples.{first_near, first_surface, second_near, second_surface, third_near, third_surface}

pub record NearRows : Type 0 where
  pub first_linkage : (form_grid linkage_form (by 3 4) first_near).cells ≡ some 16 ∷ some 0 ∷ some 8 ∷ some 0 ∷ some 1 ∷ some 56 ∷ some 0 ∷ some 144 ∷ some 6 ∷ some 69 ∷ some 192 ∷ some 1 ∷ []
  pub first_length : (form_grid length_form (by 3 4) first_near).cells ≡ some 5 ∷ some 0 ∷ some 7 ∷ some 0 ∷ some 5 ∷ some 19 ∷ some 0 ∷ some 12 ∷ some 12 ∷ some 15 ∷ some 12 ∷ some 5 ∷ []
  pub first_partition : (form_grid partition_form (by 3 4) first_near).cells ≡ some 11 ∷ some 15 ∷ some 15 ∷ some 15 ∷ some 14 ∷ some 11 ∷ some 15 ∷ some 11 ∷ some 13 ∷ some 4 ∷ some 7 ∷ some 14 ∷ []
  pub first_frontage : (form_grid frontage_form (by 3 4) first_near).cells ≡ some 30 ∷ some 40 ∷ some 40 ∷ some 40 ∷ some 30 ∷ some 30 ∷ some 40 ∷ some 30 ∷ some 30 ∷ some 10 ∷ some 30 ∷ some 30 ∷ []
  pub first_gradient : (form_grid gradient_form (by 3 4) first_surface).cells ≡ some 10 ∷ some 6 ∷ some 14 ∷ some 5 ∷ some 31 ∷ some 10 ∷ some 14 ∷ some 8 ∷ some 9 ∷ some 4 ∷ None ∷ some 14 ∷ []
  pub first_aspect : (form_grid aspect_form (by 3 4) first_surface).cells ≡ some 6 ∷ some 5 ∷ some 3 ∷ some 3 ∷ some 7 ∷ some 7 ∷ some 3 ∷ some 2 ∷ some 1 ∷ some 8 ∷ None ∷ some 1 ∷ []
  pub first_median : (focal_grid Median (offsets_of None) (by 3 4) first_near).cells ≡ less 1 ∷ some 0 ∷ less 1 ∷ some 0 ∷ less 2 ∷ less 1 ∷ less 1 ∷ some 0 ∷ less 2 ∷ less 2 ∷ less 2 ∷ some 0 ∷ []
  pub first_minority : (focal_grid Minority (offsets_of (Some 2)) (by 3 4) first_near).cells ≡ less 1 ∷ some 1 ∷ some 1 ∷ some 1 ∷ less 1 ∷ less 1 ∷ some 1 ∷ less 1 ∷ some 0 ∷ less 1 ∷ some 1 ∷ less 1 ∷ []
  pub first_mean : (focal_grid Mean (offsets_of (Some 1)) (by 3 4) first_near).cells ≡ less 1 ∷ less 1 ∷ less 1 ∷ less 1 ∷ less 1 ∷ less 1 ∷ less 1 ∷ some 0 ∷ less 2 ∷ less 2 ∷ less 1 ∷ less 1 ∷ []
  pub first_variety : (focal_grid Variety (offsets_of None) (by 3 4) first_near).cells ≡ some 3 ∷ some 4 ∷ some 4 ∷ some 3 ∷ some 3 ∷ some 4 ∷ some 4 ∷ some 4 ∷ some 2 ∷ some 3 ∷ some 3 ∷ some 3 ∷ []
  pub first_minimum : (focal_grid Minimum (offsets_of (Some 2)) (by 3 4) first_near).cells ≡ less 2 ∷ less 2 ∷ less 2 ∷ less 1 ∷ less 2 ∷ less 2 ∷ less 2 ∷ less 2 ∷ less 2 ∷ less 2 ∷ less 2 ∷ less 2 ∷ []
  pub second_linkage : (form_grid linkage_form (by 2 5) second_near).cells ≡ some 16 ∷ None ∷ some 0 ∷ some 0 ∷ some 0 ∷ some 1 ∷ some 0 ∷ some 0 ∷ None ∷ some 0 ∷ []
  pub second_length : (form_grid length_form (by 2 5) second_near).cells ≡ some 5 ∷ None ∷ some 0 ∷ some 0 ∷ some 0 ∷ some 5 ∷ some 0 ∷ some 0 ∷ None ∷ some 0 ∷ []
  pub second_partition : (form_grid partition_form (by 2 5) second_near).cells ≡ some 11 ∷ None ∷ some 15 ∷ some 15 ∷ some 15 ∷ some 14 ∷ some 15 ∷ some 15 ∷ None ∷ some 15 ∷ []
  pub second_frontage : (form_grid frontage_form (by 2 5) second_near).cells ≡ some 30 ∷ None ∷ some 40 ∷ some 40 ∷ some 40 ∷ some 30 ∷ some 40 ∷ some 40 ∷ None ∷ some 40 ∷ []
  pub second_gradient : (form_grid gradient_form (by 2 5) second_surface).cells ≡ some 15 ∷ some 31 ∷ None ∷ some 1 ∷ None ∷ some 3 ∷ some 19 ∷ some 1 ∷ some 4 ∷ some 10 ∷ []
  pub second_aspect : (form_grid aspect_form (by 2 5) second_surface).cells ≡ some 7 ∷ some 6 ∷ None ∷ some 2 ∷ None ∷ some 3 ∷ some 5 ∷ some 2 ∷ some 4 ∷ some 7 ∷ []
  pub second_median : (focal_grid Median (offsets_of None) (by 2 5) second_near).cells ≡ less 1 ∷ some 0 ∷ some 0 ∷ some 0 ∷ some 0 ∷ less 1 ∷ some 0 ∷ some 0 ∷ some 0 ∷ some 0 ∷ []
  pub second_minority : (focal_grid Minority (offsets_of (Some 2)) (by 2 5) second_near).cells ≡ some 0 ∷ some 0 ∷ some 1 ∷ less 1 ∷ less 1 ∷ some 1 ∷ some 0 ∷ some 0 ∷ less 1 ∷ less 1 ∷ []
  pub second_mean : (focal_grid Mean (offsets_of (Some 1)) (by 2 5) second_near).cells ≡ less 1 ∷ some 0 ∷ some 0 ∷ less 1 ∷ some 0 ∷ less 1 ∷ some 0 ∷ some 1 ∷ some 1 ∷ some 1 ∷ []
  pub second_variety : (focal_grid Variety (offsets_of None) (by 2 5) second_near).cells ≡ some 2 ∷ some 4 ∷ some 4 ∷ some 3 ∷ some 3 ∷ some 2 ∷ some 4 ∷ some 4 ∷ some 3 ∷ some 3 ∷ []
  pub second_minimum : (focal_grid Minimum (offsets_of (Some 2)) (by 2 5) second_near).cells ≡ less 1 ∷ less 1 ∷ less 1 ∷ less 1 ∷ less 1 ∷ less 1 ∷ less 1 ∷ less 1 ∷ less 1 ∷ less 1 ∷ []
  pub third_linkage : (form_grid linkage_form (by 4 3) third_near).cells ≡ some 0 ∷ some 32 ∷ some 0 ∷ some 2 ∷ some 32 ∷ None ∷ some 2 ∷ some 0 ∷ some 32 ∷ some 4 ∷ some 66 ∷ some 0 ∷ []
  pub third_length : (form_grid length_form (by 4 3) third_near).cells ≡ some 0 ∷ some 7 ∷ some 0 ∷ some 7 ∷ some 7 ∷ None ∷ some 7 ∷ some 0 ∷ some 7 ∷ some 5 ∷ some 12 ∷ some 0 ∷ []
  pub third_partition : (form_grid partition_form (by 4 3) third_near).cells ≡ some 15 ∷ some 15 ∷ some 15 ∷ some 15 ∷ some 15 ∷ None ∷ some 15 ∷ some 15 ∷ some 15 ∷ some 13 ∷ some 7 ∷ some 15 ∷ []
  pub third_frontage : (form_grid frontage_form (by 4 3) third_near).cells ≡ some 40 ∷ some 40 ∷ some 40 ∷ some 40 ∷ some 40 ∷ None ∷ some 40 ∷ some 40 ∷ some 40 ∷ some 30 ∷ some 30 ∷ some 40 ∷ []
  pub third_gradient : (form_grid gradient_form (by 4 3) third_surface).cells ≡ some 15 ∷ some 18 ∷ some 10 ∷ some 12 ∷ some 18 ∷ some 14 ∷ some 17 ∷ some 15 ∷ some 14 ∷ some 27 ∷ some 30 ∷ some 16 ∷ []
  pub third_aspect : (form_grid aspect_form (by 4 3) third_surface).cells ≡ some 8 ∷ some 5 ∷ some 3 ∷ some 4 ∷ some 5 ∷ some 4 ∷ some 8 ∷ some 2 ∷ some 3 ∷ some 2 ∷ some 2 ∷ some 3 ∷ []
  pub third_median : (focal_grid Median (offsets_of None) (by 4 3) third_near).cells ≡ some 1 ∷ some 1 ∷ some 1 ∷ some 1 ∷ some 1 ∷ some 1 ∷ some 2 ∷ some 2 ∷ some 2 ∷ some 2 ∷ some 2 ∷ some 2 ∷ []
  pub third_minority : (focal_grid Minority (offsets_of (Some 2)) (by 4 3) third_near).cells ≡ less 2 ∷ some 0 ∷ less 2 ∷ less 2 ∷ some 0 ∷ some 3 ∷ less 2 ∷ less 2 ∷ less 2 ∷ less 2 ∷ less 2 ∷ less 2 ∷ []
  pub third_mean : (focal_grid Mean (offsets_of (Some 1)) (by 4 3) third_near).cells ≡ some 0 ∷ some 0 ∷ less 1 ∷ some 1 ∷ some 0 ∷ some 1 ∷ some 1 ∷ some 1 ∷ some 1 ∷ some 2 ∷ some 1 ∷ some 2 ∷ []
  pub third_variety : (focal_grid Variety (offsets_of None) (by 4 3) third_near).cells ≡ some 3 ∷ some 4 ∷ some 3 ∷ some 4 ∷ some 5 ∷ some 4 ∷ some 4 ∷ some 4 ∷ some 3 ∷ some 3 ∷ some 3 ∷ some 3 ∷ []
  pub third_minimum : (focal_grid Minimum (offsets_of (Some 2)) (by 4 3) third_near).cells ≡ less 2 ∷ less 2 ∷ less 2 ∷ less 2 ∷ less 2 ∷ less 2 ∷ less 2 ∷ less 2 ∷ less 2 ∷ less 2 ∷ less 2 ∷ less 2 ∷ []
