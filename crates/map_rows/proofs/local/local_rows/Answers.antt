use Rattle.std.proofs.Common.{refl}
use Rattle.map_nums.specs.Stats.{maximum_of, minimum_of, median_of, is_lower_median}
use Rattle.map_defs.specs.Local.{local_grid}
use Rattle.map_rows.proofs.local.local_rows.Goals as goal

pub returns : goal.returns
unfolding local_grid maximum_of minimum_of median_of is_lower_median
returns c = record { sum = refl; maximum = refl; minimum = refl; variety = refl; mean = refl; halves = refl; by_nought = refl; by_less = refl; lower_median = refl; taken_away = refl; nulls = refl; ignored = refl; ignored_means = refl; ignored_varieties = refl; ignored_maxima = refl; no_numbers = refl; rated = refl; products = refl }
