use Rattle.drainage_flow.proofs.Looks.{nine_looks}
use Rattle.drainage_flow.proofs.directions.direction_tile.Goals as goal

pub returns-in_err-near-clause-tally : goal.returns-in_err-near-clause-tally
returns-in_err-near-clause-tally g c = nine_looks c.args.surface.now.size c.args.tile (g.M.Tally.counts c.args.tally.now) (g.M.Tally.counts c.window-window.new.tally) c.extent-extent.ensures.size c.requires c.window-window.ensures.looks

pub returns-clause-tally : goal.returns-clause-tally
returns-clause-tally g c = nine_looks c.args.surface.now.size c.args.tile (g.M.Tally.counts c.args.tally.now) (g.M.Tally.counts c.window-window.new.tally) c.extent-extent.ensures.size c.requires c.window-window.ensures.looks
