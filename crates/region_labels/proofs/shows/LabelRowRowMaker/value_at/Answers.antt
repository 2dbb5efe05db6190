use Rattle.std.proofs.Common.{◌+◌}
use Rattle.region_labels.proofs.Resolved.{resolved_narrow}
use Rattle.region_labels.proofs.shows.LabelRowRowMaker.value_at.Goals as goal

pub returns : goal.returns
returns c = (c.resolved.ensures, resolved_narrow c.args.self.now.labels.now (c.args.self.now.start + c.args.c) c.requires.0 c.requires.1 c.requires.2)
