use Rattle.std.proofs.Common.{◌∙◌}
use Rattle.kept_map.specs.Maps.{source_in}
use Rattle.live_engine.proofs.Counted.{count_items}
use Rattle.live_engine.proofs.limits.sources.Goals as goal

pub returns : goal.returns
returns c = c.source_items.ensures ∙ count_items c.args.map.now.extent (source_in c.args.map.now.sources) c.args.map.now.names.entries
