use Rattle.std.proofs.Common.{refl, sym, ◌∙◌}
use Rattle.map_edits.specs.Refusals.{unknown}
use Rattle.kept_map.specs.Maps.{seen}
use Rattle.live_engine.specs.Dropping.{drops}
use Rattle.live_engine.proofs.Drafting.{without_it, dropped_draft}
use Rattle.live_engine.proofs.Accepting.{accept_refused}
use Rattle.live_engine.proofs.dropping.drafted.Goals as goal

pub returns-then-not-has-clause-drafted : goal.returns-then-not-has-clause-drafted
returns-then-not-has-clause-drafted c = (accept_refused (seen c.args.map.now) (drops c.args.name) (unknown c.args.name) (rw (sym c.has.ensures ∙ c.if-not-has.true) refl), refl)

pub returns-clause-drafted : goal.returns-clause-drafted
returns-clause-drafted c =
    dropped_draft c.args.map.now c.requires.kept c.args.name c.requires.plain (sym c.has.ensures ∙ c.if-not-has.false) c.in_ok-graph.graph c.in_ok-graph.ensures c.in_ok-labels.labels c.in_ok-symbols.symbols
    (without_it _ _ c.in_ok-labels.labels c.in_ok-labels.ensures.some c.in_ok-labels.ensures.none)
    (without_it _ _ c.in_ok-symbols.symbols c.in_ok-symbols.ensures.some c.in_ok-symbols.ensures.none)
