use Rattle.std.proofs.Common.{◌≡◌, ◌+◌, ◌<◌, ◌^◌, List, length, ap, sym, subst, ◌∙◌, arith}
use Rattle.std.proofs.lemmas.List.{length-map, length_push}
use Rattle.statement_graph.specs.Groups.{nodes_in, has_group}
use Rattle.statement_graph.specs.declared.node.Entry.{Entry}
use Rattle.statement_graph.specs.Seats.{groups_of, node_at, nodes_at}
use Rattle.statement_graph.specs.Links.{all_needs, HasRoom}
use Rattle.statement_graph.proofs.Linking.{room_pushed}
use Rattle.statement_graph.specs.declared.node.Entry.TheVariants.{Source}
use Rattle.statement_graph.proofs.Placing.{source_put, kept_whole, kept_by, seen_nodes, with_source}
use Rattle.statement_graph.proofs.graph.Graph.put_source.Goals as goal

pub resettle-requires-clause-few : goal.resettle-requires-clause-few
resettle-requires-clause-few c =
    let g = c.self.inside in
    let put = source_put g.entries.items c.push.new.self.items c.args.name.now c.in_ok-own.own (kept_whole g.entries.items g.rows.items g.spare.items c.self.invariant.kept) (ap (λ gs. has_group gs c.args.name.now) c.self.view_is ∙ c.requires.new) c.in_ok-own.ensures c.in_ok-push.ensures.items in
    let nodes : length g.entries.items ≡ length (nodes_in c.args.self.now) = sym (length-map g.entries.items node_at) ∙ ap length (seen_nodes g.entries.items g.rows.items g.spare.items c.args.self.now c.self.invariant.kept c.self.view_is) in
    let len : length c.push.new.self.items ≡ length g.entries.items + 1 = ap length c.in_ok-push.ensures.items ∙ length_push g.entries.items (Source c.in_ok-own.own) in
    let few : length (nodes_in c.args.self.now) + 2 < 2 ^ 32 = c.requires.few in
    let same : length c.as_slice-2.result.now ≡ length c.push.new.self.items = ap length c.as_slice-2.ensures.value in
    omega arith

pub resettle-requires-clause-room : goal.resettle-requires-clause-room
resettle-requires-clause-room c =
    let g = c.self.inside in
    let own : length (all_needs (nodes_at c.as_slice.result.now)) ≡ length (all_needs (nodes_at g.entries.items)) = ap (λ l. length (all_needs (nodes_at l))) c.as_slice.ensures.value in
    room_pushed g.entries.items c.as_slice-2.result.now c.in_ok-own.own c.in_ok-links.links.firsts.items c.in_ok-links.links.needs.items (c.as_slice-2.ensures.value ∙ c.in_ok-push.ensures.items)
    (omega (arith, c.in_ok-links.ensures.firsts, c.len-total.ensures, g.entries.ok.0)) (omega (arith, c.in_ok-links.ensures.needs, c.in_ok-needs.ensures))

pub invariant_of-self-2 : goal.invariant_of-self-2
invariant_of-self-2 c =
    let g = c.self.inside in
    let put = source_put g.entries.items c.push.new.self.items c.args.name.now c.in_ok-own.own (kept_whole g.entries.items g.rows.items g.spare.items c.self.invariant.kept) (ap (λ gs. has_group gs c.args.name.now) c.self.view_is ∙ c.requires.new) c.in_ok-own.ensures c.in_ok-push.ensures.items in
    let nodes : length g.entries.items ≡ length (nodes_in c.args.self.now) = sym (length-map g.entries.items node_at) ∙ ap length (seen_nodes g.entries.items g.rows.items g.spare.items c.args.self.now c.self.invariant.kept c.self.view_is) in
    let len : length c.push.new.self.items ≡ length g.entries.items + 1 = ap length c.in_ok-push.ensures.items ∙ length_push g.entries.items (Source c.in_ok-own.own) in
    let few : length (nodes_in c.args.self.now) + 2 < 2 ^ 32 = c.requires.few in
    record {
      kept = kept_by c.push.new.self.items c.as_slice-2.result.now c.resettle.new.rows.items c.resettle.new.spare.items c.args.name.now (with_source (groups_of g.entries.items) c.args.name.now) c.as_slice-2.ensures.value put (omega arith) c.resettle.ensures.table c.resettle.ensures.rows_are c.resettle.ensures.spare_are;
      room = subst (λ (l : List Entry). HasRoom (nodes_at l) c.resettle.new.links.firsts.items c.resettle.new.links.needs.items) c.as_slice-2.ensures.value c.resettle.ensures.room;
    }

pub returns-clause-ok : goal.returns-clause-ok
returns-clause-ok c =
    let g = c.self.inside in
    let put = source_put g.entries.items c.push.new.self.items c.args.name.now c.in_ok-own.own (kept_whole g.entries.items g.rows.items g.spare.items c.self.invariant.kept) (ap (λ gs. has_group gs c.args.name.now) c.self.view_is ∙ c.requires.new) c.in_ok-own.ensures c.in_ok-push.ensures.items in
    let nodes : length g.entries.items ≡ length (nodes_in c.args.self.now) = sym (length-map g.entries.items node_at) ∙ ap length (seen_nodes g.entries.items g.rows.items g.spare.items c.args.self.now c.self.invariant.kept c.self.view_is) in
    let len : length c.push.new.self.items ≡ length g.entries.items + 1 = ap length c.in_ok-push.ensures.items ∙ length_push g.entries.items (Source c.in_ok-own.own) in
    let few : length (nodes_in c.args.self.now) + 2 < 2 ^ 32 = c.requires.few in
    put.is ∙ ap (λ gs. with_source gs c.args.name.now) c.self.view_is
