use Rattle.map_sample.proofs.RowsOfTiles.{layer_made, nothing_read}
use Rattle.map_sample.proofs.layers.sample_layer.Goals as goal

pub returns-in_err-rows-clause-tally : goal.returns-in_err-rows-clause-tally
returns-in_err-rows-clause-tally g c = nothing_read c.from-jobs.result _ _ c.run_by.ensures.tally

pub returns-clause-layer : goal.returns-clause-layer
returns-clause-layer g c = layer_made c.layer.result c.in-Some.extent c.args.side c.args.grid c.in-Some.ensures.size c.layer.ensures

pub returns-clause-tally : goal.returns-clause-tally
returns-clause-tally g c = nothing_read c.from-jobs.result _ _ c.run_by.ensures.tally
