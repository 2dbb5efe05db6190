-- Names that stand apart, in groups, and without a cycle.
use Rattle.map_edits.specs.LayerDefs.{nodes_of}
use Rattle.map_edits.specs.EngineStates.{EngineState}
use Rattle.map_edits.specs.Laws.{HasNoCycle, IsApart}
use Rattle.map_edits.specs.GroupLaws.{AreGroups}

-- what of a lawful state concerns its layers
pub record IsOrderly (s : EngineState) : Type 0 where
  pub groups : AreGroups s.entries
  pub apart : IsApart s.entries
  pub none_looped : HasNoCycle (nodes_of s.entries)
