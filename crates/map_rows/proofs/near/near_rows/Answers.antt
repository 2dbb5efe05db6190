use Rattle.std.proofs.Common.{refl}
use Rattle.map_defs.specs.Focal.{focal_grid, focal_numbers, square, disc}
use Rattle.map_defs.specs.Slopes.{octant}
use Rattle.map_defs.specs.Roots.{floor_root}
use Rattle.map_defs.specs.Incremental.{form_grid, linkage_at, length_at, partition_at, frontage_at, gradient_at, aspect_at}
use Rattle.map_nums.specs.Stats.{minimum_of, median_of, is_lower_median, minority_of, occurrences}
use Rattle.map_rows.proofs.near.near_rows.Goals as goal

pub returns : goal.returns
unfolding focal_grid focal_numbers square disc octant floor_root form_grid linkage_at length_at partition_at frontage_at gradient_at aspect_at minimum_of median_of is_lower_median minority_of occurrences
returns c = record { first_linkage = refl; first_length = refl; first_partition = refl; first_frontage = refl; first_gradient = refl; first_aspect = refl; first_median = refl; first_minority = refl; first_mean = refl; first_variety = refl; first_minimum = refl; second_linkage = refl; second_length = refl; second_partition = refl; second_frontage = refl; second_gradient = refl; second_aspect = refl; second_median = refl; second_minority = refl; second_mean = refl; second_variety = refl; second_minimum = refl; third_linkage = refl; third_length = refl; third_partition = refl; third_frontage = refl; third_gradient = refl; third_aspect = refl; third_median = refl; third_minority = refl; third_mean = refl; third_variety = refl; third_minimum = refl }
