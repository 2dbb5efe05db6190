-- How far a run has come, as its sink and its tally show it.
use Rattle.std.specs.Prelude.{ℕ, List, Option}
use Rattle.layer_tiles.specs.Tallies.{TallyState}
use Rattle.map_run.specs.Progress.{Progress}

-- by what the sink tells: what it holds, and its count of faults
abbrev pub progress : {K : Type 0} → (K → Option (List ℕ)) → (K → ℕ) → K → TallyState → Progress
progress held faults sink tally = record { held = held sink; faults = faults sink; tally = tally }
