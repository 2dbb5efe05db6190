use Rattle.std.proofs.Common.{◌∙◌, ap, Some, None}
use Rattle.map_defs.specs.Depths.{depth_of}
use Rattle.statement_graph.proofs.Placing.{depth_is, look_is, seen_nodes}
use Rattle.statement_graph.proofs.graph.Graph.depth.Goals as goal

pub returns-in-None : goal.returns-in-None
returns-in-None c =
    let g = c.self.inside in
    let looked = look_is g.entries.items c.as_slice.result.now g.rows.items c.as_slice-2.result.now c.args.name.now c.look.result None c.as_slice.ensures.value c.as_slice-2.ensures.value c.look.ensures c.in-None.is in
    depth_is g.entries.items g.rows.items g.spare.items c.args.name.now None c.self.invariant.kept looked
    ∙ ap (λ ns. depth_of ns c.args.name.now) (seen_nodes g.entries.items g.rows.items g.spare.items c.args.self.now c.self.invariant.kept c.self.view_is)

pub returns-in-Some : goal.returns-in-Some
returns-in-Some c =
    let g = c.self.inside in
    let looked = look_is g.entries.items c.as_slice.result.now g.rows.items c.as_slice-2.result.now c.args.name.now c.look.result (Some c.in-Some.row) c.as_slice.ensures.value c.as_slice-2.ensures.value c.look.ensures c.in-Some.is in
    depth_is g.entries.items g.rows.items g.spare.items c.args.name.now (Some c.in-Some.row) c.self.invariant.kept looked
    ∙ ap (λ ns. depth_of ns c.args.name.now) (seen_nodes g.entries.items g.rows.items g.spare.items c.args.self.now c.self.invariant.kept c.self.view_is)
