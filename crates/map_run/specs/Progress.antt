-- How far a run has come, by its sink and its tally.
use Rattle.std.specs.Prelude.{ℕ, List, Option}
use Rattle.layer_tiles.specs.Tallies.{TallyState, RisesBy}
use Rattle.map_edits.specs.Allowances.{Reads}

-- what the sink holds, where it is told, its count of faults, and what was read
pub record Progress : Type 0 where
  pub held : Option (List ℕ)
  pub faults : ℕ
  pub tally : TallyState

-- at most so much more was read
abbrev pub Rises : Reads → TallyState → TallyState → Type 0
Rises r before after = RisesBy r.looks r.picks before after
