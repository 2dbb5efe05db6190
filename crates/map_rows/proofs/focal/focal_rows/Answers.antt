use Rattle.std.proofs.Common.{refl}
use Rattle.map_nums.specs.Stats.{majority_of, occurrences}
use Rattle.map_defs.specs.Focal.{focal_grid, focal_numbers, square, disc}
use Rattle.map_rows.proofs.focal.focal_rows.Goals as goal

pub returns : goal.returns
unfolding focal_grid focal_numbers square disc majority_of occurrences
returns c = record { smallest = refl; null = refl; majority = refl; square = refl; disc = refl; corner = refl; first = refl }
