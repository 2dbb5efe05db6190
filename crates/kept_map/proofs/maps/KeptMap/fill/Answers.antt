use Rattle.std.proofs.Common.{◌∙◌}
use Rattle.kept_map.proofs.maps.KeptMap.fill.Goals as goal

pub returns : goal.returns
returns c = λ j. record {
  size = c.requires j;
  items = c.in_ok-names.ensures j;
  graph = c.in_ok-graph.ensures j;
  sources = c.in_ok-sources.ensures.names j;
  layers = c.in_ok-sources.ensures.layers j;
  planned = c.in_ok-planned.ensures.names j;
  steps = c.in_ok-planned.ensures.steps j;
  kept = (c.in_ok-kept.ensures ∙ c.as_slice.ensures.value) j;
  procedures = c.in_ok-procedures.ensures j;
  labels = c.in_ok-labels.ensures j;
  symbols = c.in_ok-symbols.ensures j;
  number = c.args.from.now.number;
}
