use Rattle.std.proofs.Common.{◌∙◌}
use Rattle.layer_tiles.proofs.Rising.{rises_none}
use Rattle.map_run.proofs.sample.made_grid.Goals as goal

pub returns-in_err-name-clause-tally : goal.returns-in_err-name-clause-tally
returns-in_err-name-clause-tally g c = rises_none (g.M.Tally.counts c.args.tally.now)

pub returns-clause-name : goal.returns-clause-name
returns-clause-name g c = c.in_ok-name.ensures ∙ c.name.ensures.name
