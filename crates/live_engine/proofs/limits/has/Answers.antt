use Rattle.std.proofs.Common.{◌∙◌}
use Rattle.kept_map.specs.Maps.{source_in}
use Rattle.live_engine.proofs.Counted.{has_at}
use Rattle.live_engine.proofs.limits.has.Goals as goal

pub returns : goal.returns
returns c = c.contains_key.ensures ∙ has_at c.args.map.now.extent (source_in c.args.map.now.sources) c.args.map.now.names.entries c.args.name.now
