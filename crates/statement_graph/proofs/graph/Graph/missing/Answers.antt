use Rattle.std.proofs.Common.{◌∙◌, ap, sym, Some, None}
use Rattle.std.specs.Option.{option_and_then}
use Rattle.map_defs.specs.Nodes.{missing}
use Rattle.statement_graph.specs.Seats.{nodes_at}
use Rattle.statement_graph.specs.Tables.{need_at}
use Rattle.statement_graph.proofs.Placing.{missing_is, look_is, seen_nodes}
use Rattle.statement_graph.proofs.graph.Graph.missing.Goals as goal

pub returns-in-None : goal.returns-in-None
returns-in-None c =
    let g = c.self.inside in
    let looked = look_is g.entries.items c.as_slice.result.now g.rows.items c.as_slice-2.result.now c.args.name.now c.look.result None c.as_slice.ensures.value c.as_slice-2.ensures.value c.look.ensures c.in-None.is in
    missing_is g.entries.items g.rows.items g.spare.items c.args.name.now None c.self.invariant.kept looked
    ∙ ap (λ ns. missing ns c.args.name.now) (seen_nodes g.entries.items g.rows.items g.spare.items c.args.self.now c.self.invariant.kept c.self.view_is)

pub returns-in-None-lack : goal.returns-in-None-lack
returns-in-None-lack c =
    let g = c.self.inside in
    let looked = look_is g.entries.items c.as_slice.result.now g.rows.items c.as_slice-2.result.now c.args.name.now c.look.result (Some c.in-Some.row) c.as_slice.ensures.value c.as_slice-2.ensures.value c.look.ensures c.in-Some.is in
    sym (ap (option_and_then (need_at (nodes_at g.entries.items))) c.in-None-lack.is)
    ∙ missing_is g.entries.items g.rows.items g.spare.items c.args.name.now (Some c.in-Some.row) c.self.invariant.kept looked
    ∙ ap (λ ns. missing ns c.args.name.now) (seen_nodes g.entries.items g.rows.items g.spare.items c.args.self.now c.self.invariant.kept c.self.view_is)

pub returns-in-Some-lack : goal.returns-in-Some-lack
returns-in-Some-lack c =
    let g = c.self.inside in
    let looked = look_is g.entries.items c.as_slice.result.now g.rows.items c.as_slice-2.result.now c.args.name.now c.look.result (Some c.in-Some.row) c.as_slice.ensures.value c.as_slice-2.ensures.value c.look.ensures c.in-Some.is in
    c.need_of.ensures ∙ ap (λ es. need_at (nodes_at es) c.in-Some-lack.place) c.as_slice-in-Some-lack.ensures.value
    ∙ sym (ap (option_and_then (need_at (nodes_at g.entries.items))) c.in-Some-lack.is)
    ∙ missing_is g.entries.items g.rows.items g.spare.items c.args.name.now (Some c.in-Some.row) c.self.invariant.kept looked
    ∙ ap (λ ns. missing ns c.args.name.now) (seen_nodes g.entries.items g.rows.items g.spare.items c.args.self.now c.self.invariant.kept c.self.view_is)
