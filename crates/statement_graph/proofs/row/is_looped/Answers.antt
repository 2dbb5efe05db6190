use Rattle.std.proofs.Common.{None, Some, ◌∙◌, bytes_eq}
use Rattle.statement_graph.specs.Seats.{nodes_at, node_at, name_at}
use Rattle.statement_graph.proofs.Finding.{found_node, node_there, place_within}
use Rattle.statement_graph.proofs.Rounds.{looped_missing, looped_found}
use Rattle.statement_graph.proofs.row.is_looped.Goals as goal

pub returns-in-None : goal.returns-in-None
returns-in-None c = looped_missing (nodes_at c.args.entries.now) c.args.name.now (found_node c.args.entries.now c.args.name.now c.place_of.result None c.place_of.ensures c.in-None.is)

pub returns-in-Some : goal.returns-in-Some
returns-in-Some c =
    let within = place_within (λ e. bytes_eq (name_at e) c.args.name.now) c.args.entries.now c.in-Some.at c.place_of.result c.place_of.ensures c.in-Some.is in
    looped_found c.args.entries.now c.args.rows.now c.args.name.now (node_at c.index-entries-at.result) c.needs.result.now c.any_reaches.result
    (found_node c.args.entries.now c.args.name.now c.place_of.result (Some c.in-Some.at) c.place_of.ensures c.in-Some.is ∙ node_there c.args.entries.now c.in-Some.at c.index-entries-at.result within c.index-entries-at.is)
    c.needs.ensures c.requires.table c.any_reaches.ensures
