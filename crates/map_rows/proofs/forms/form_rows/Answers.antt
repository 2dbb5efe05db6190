use Rattle.std.proofs.Common.{refl}
use Rattle.map_defs.specs.Incremental.{form_grid, linkage_at, length_at, partition_at, frontage_at, gradient_at, aspect_at}
use Rattle.map_defs.specs.Slopes.{octant}
use Rattle.map_defs.specs.Roots.{floor_root}
use Rattle.map_rows.proofs.forms.form_rows.Goals as goal

pub returns : goal.returns
unfolding form_grid linkage_at length_at partition_at frontage_at gradient_at aspect_at octant floor_root
returns c = record { one_linkage = refl; one_length = refl; one_partition = refl; one_frontage = refl; one_gradient = refl; one_aspect = refl; null_linkage = refl; null_length = refl; null_partition = refl; null_frontage = refl; null_gradient = refl; null_aspect = refl; linkage = refl; length = refl; partition = refl; frontage = refl; gradient = refl; aspect = refl }
