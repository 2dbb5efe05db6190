use Rattle.std.proofs.Common.{◌∙◌, rules, tests}
use Rattle.std.specs.Map.{values_of}
use Rattle.std.proofs.lemmas.Iterator.Consumers.{count_from_yields_List, YieldsList-from_filter, YieldsList-at, YieldsList-from_rest}
use Rattle.std.proofs.lemmas.List.Sums.{length-filter}
use Rattle.live_engine.specs.Standing.{is_source_item}
use Rattle.live_engine.proofs.limits.source_items.Goals as goal

pub returns : goal.returns
returns c =
    count_from_yields_List c.filter.result c.count.result c.count.ensures.ran
    (YieldsList-from_filter _ is_source_item (YieldsList-at c.filter.ensures.source (YieldsList-from_rest (values_of c.args.map.now.names.entries) c.values.ensures.rest)) c.filter.ensures.closure (λ x r q k. search (rules, tests)))
    ∙ length-filter is_source_item (values_of c.args.map.now.names.entries)
