use Rattle.drainage_flow.specs.FlowBands.{all_flows}
use Rattle.drainage_flow.specs.Pouring.{flow_in}
use Rattle.drainage_flow.proofs.Wholes.{shown_answer}
use Rattle.drainage_flow.proofs.whole.flow_tile.Goals as goal

pub returns : goal.returns
returns c = shown_answer c.args.extent c.args.surface.now (flow_in (all_flows c.args.bands.now)) c.args.tile c.make_tile.result c.rows-rows.ensures.size c.requires.within c.make_tile.ensures
