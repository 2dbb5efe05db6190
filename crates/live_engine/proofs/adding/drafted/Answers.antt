use Rattle.std.proofs.Common.{◌<◌, ◌≤◌, count_by, refl, subst}
use Rattle.std.proofs.lemmas.Bool.{le-ltb}
use Rattle.map_edits.specs.Limits.{is_source}
use Rattle.map_edits.specs.Refusals.{beyond, sources}
use Rattle.map_edits.specs.WholeEdits.{of_names}
use Rattle.kept_map.specs.Maps.{entries_in, seen}
use Rattle.live_engine.proofs.Drafting.{group_is_new, graph_is_small, added_draft}
use Rattle.live_engine.proofs.Accepting.{accept_refused}
use Rattle.live_engine.proofs.adding.drafted.Goals as goal

pub returns-then-sources-ge-MOST_SOURCES-clause-drafted : goal.returns-then-sources-ge-MOST_SOURCES-clause-drafted
returns-then-sources-ge-MOST_SOURCES-clause-drafted c = λ edit adding.
    let many = subst (λ k. 32 ≤ k) c.sources.ensures c.if-sources-ge-MOST_SOURCES.true in
    (accept_refused (seen c.args.map.now) (of_names edit) (beyond sources) (rw (adding.after, le-ltb (count_by is_source (entries_in c.args.map.now)) 32 many) refl), refl)

pub with_source-requires-clause-new : goal.with_source-requires-clause-new
with_source-requires-clause-new c = group_is_new c.args.map.now c.requires.kept c.args.name c.requires.new

pub with_source-requires-clause-few : goal.with_source-requires-clause-few
with_source-requires-clause-few c = graph_is_small c.args.map.now c.requires.kept c.args.name

pub returns-clause-drafted : goal.returns-clause-drafted
returns-clause-drafted c = λ edit adding.
    added_draft c.args.map.now c.requires.kept c.args.name c.in_ok-key.key c.requires.plain c.requires.new c.args.layer c.requires.size c.extent-extent.ensures.layer c.in_ok-key.ensures
    (subst (λ k. k < 32) c.sources.ensures c.if-sources-ge-MOST_SOURCES.false) c.in_ok-graph.graph c.in_ok-graph.ensures edit adding
