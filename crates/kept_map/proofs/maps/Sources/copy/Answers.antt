use Rattle.std.proofs.Common.{◌∙◌}
use Rattle.kept_map.proofs.maps.Sources.copy.Goals as goal

pub returns-clause-layers : goal.returns-clause-layers
returns-clause-layers c = c.in_ok-layers.ensures ∙ c.as_slice.ensures.value
