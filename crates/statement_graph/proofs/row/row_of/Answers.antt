use Rattle.std.proofs.Common.{sym, ◌∙◌, add-one}
use Rattle.statement_graph.specs.Seats.{nodes_at, node_at}
use Rattle.statement_graph.specs.Tables.{shown}
use Rattle.statement_graph.proofs.Gathering.{step_is, deeper_yes, deeper_no}
use Rattle.statement_graph.proofs.row.row_of.Goals as goal

pub returns-then-is_flat : goal.returns-then-is_flat
returns-then-is_flat c =
    step_is c.args.entries.now c.args.rows.now c.args.name.now c.args.at c.index-entries-at.result c.gathered-row.result _ c.requires.within c.index-entries-at.is c.gathered-row.ensures.shown
    (rw add-one (deeper_yes (node_at c.index-entries-at.result).needs (shown (nodes_at c.args.entries.now) c.gathered-row.result) (sym c.is_flat.ensures ∙ c.if-is_flat.true)))

pub returns : goal.returns
returns c =
    step_is c.args.entries.now c.args.rows.now c.args.name.now c.args.at c.index-entries-at.result c.gathered-row.result c.gathered-row.result c.requires.within c.index-entries-at.is c.gathered-row.ensures.shown
    (deeper_no (node_at c.index-entries-at.result).needs (shown (nodes_at c.args.entries.now) c.gathered-row.result) (sym c.is_flat.ensures ∙ c.if-is_flat.false))
