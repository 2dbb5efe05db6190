use Rattle.std.proofs.Common.{◌≡◌, ◌-◌, ◌++◌, None, length, take, drop, option_map, ap, sym, ◌∙◌, subst, List, arith}
use Rattle.std.proofs.lemmas.List.{length-take}
use Rattle.statement_graph.specs.Fresh.{span_pair}
use Rattle.statement_graph.specs.Groups.{drop_group}
use Rattle.statement_graph.specs.Seats.{groups_of, nodes_at}
use Rattle.statement_graph.specs.Links.{HasRoom}
use Rattle.statement_graph.proofs.Linking.{room_cut}
use Rattle.statement_graph.specs.declared.node.Entry.{Entry}
use Rattle.statement_graph.proofs.Placing.{Placed, dropped, drop_nothing, found_span, kept_whole, kept_by}
use Rattle.statement_graph.proofs.graph.Graph.drop_name.Goals as goal

pub overflow_sub-total : goal.overflow_sub-total
overflow_sub-total c =
    let g = c.self.inside in
    let d = dropped g.entries.items c.as_slice.result.now c.args.name.now c.in-Some.span.start c.in-Some.span.end (option_map span_pair c.span_of.result) (kept_whole g.entries.items g.rows.items g.spare.items c.self.invariant.kept) c.as_slice.ensures.value c.span_of.ensures (ap (option_map span_pair) c.in-Some.is) in
    d.order

pub overflow_sub-total-in-Some : goal.overflow_sub-total-in-Some
overflow_sub-total-in-Some c =
    let g = c.self.inside in
    let d = dropped g.entries.items c.as_slice.result.now c.args.name.now c.in-Some.span.start c.in-Some.span.end (option_map span_pair c.span_of.result) (kept_whole g.entries.items g.rows.items g.spare.items c.self.invariant.kept) c.as_slice.ensures.value c.span_of.ensures (ap (option_map span_pair) c.in-Some.is) in
    let within = d.within in
    omega (arith, c.len.ensures, g.entries.ok.0)

pub cut_out-requires-clause-order : goal.cut_out-requires-clause-order
cut_out-requires-clause-order c =
    let g = c.self.inside in
    let d = dropped g.entries.items c.as_slice.result.now c.args.name.now c.in-Some.span.start c.in-Some.span.end (option_map span_pair c.span_of.result) (kept_whole g.entries.items g.rows.items g.spare.items c.self.invariant.kept) c.as_slice.ensures.value c.span_of.ensures (ap (option_map span_pair) c.in-Some.is) in
    d.order

pub cut_out-requires-clause-within : goal.cut_out-requires-clause-within
cut_out-requires-clause-within c =
    let g = c.self.inside in
    let d = dropped g.entries.items c.as_slice.result.now c.args.name.now c.in-Some.span.start c.in-Some.span.end (option_map span_pair c.span_of.result) (kept_whole g.entries.items g.rows.items g.spare.items c.self.invariant.kept) c.as_slice.ensures.value c.span_of.ensures (ap (option_map span_pair) c.in-Some.is) in
    d.within

pub resettle-requires-clause-few : goal.resettle-requires-clause-few
resettle-requires-clause-few c =
    let g = c.self.inside in
    let d = dropped g.entries.items c.as_slice.result.now c.args.name.now c.in-Some.span.start c.in-Some.span.end (option_map span_pair c.span_of.result) (kept_whole g.entries.items g.rows.items g.spare.items c.self.invariant.kept) c.as_slice.ensures.value c.span_of.ensures (ap (option_map span_pair) c.in-Some.is) in
    let left = d.left in
    let few = c.self.invariant.kept.few in
    let rows_are = c.self.invariant.kept.rows_are in
    let spare_are = c.self.invariant.kept.spare_are in
    let order = d.order in
    let within = d.within in
    let now : length c.as_slice-in-Some.result.now ≡ length (take c.in-Some.span.start g.entries.items ++ drop c.in-Some.span.end g.entries.items) = ap length (c.as_slice-in-Some.ensures.value ∙ c.cut_out.ensures) in
    omega arith

pub resettle-requires-clause-rows_are : goal.resettle-requires-clause-rows_are
resettle-requires-clause-rows_are c =
    let g = c.self.inside in
    let d = dropped g.entries.items c.as_slice.result.now c.args.name.now c.in-Some.span.start c.in-Some.span.end (option_map span_pair c.span_of.result) (kept_whole g.entries.items g.rows.items g.spare.items c.self.invariant.kept) c.as_slice.ensures.value c.span_of.ensures (ap (option_map span_pair) c.in-Some.is) in
    let left = d.left in
    let few = c.self.invariant.kept.few in
    let rows_are = c.self.invariant.kept.rows_are in
    let spare_are = c.self.invariant.kept.spare_are in
    let order = d.order in
    let within = d.within in
    let now : length c.as_slice-in-Some.result.now ≡ length (take c.in-Some.span.start g.entries.items ++ drop c.in-Some.span.end g.entries.items) = ap length (c.as_slice-in-Some.ensures.value ∙ c.cut_out.ensures) in
    let len : length c.truncate.new.self.items ≡ length (take _ g.rows.items) = ap length c.truncate.ensures.items in
    omega (arith, len, length-take (c.len.result - (c.in-Some.span.end - c.in-Some.span.start)) g.rows.items, c.len.ensures, g.entries.ok.0)

pub resettle-requires-clause-spare_are : goal.resettle-requires-clause-spare_are
resettle-requires-clause-spare_are c =
    let g = c.self.inside in
    let d = dropped g.entries.items c.as_slice.result.now c.args.name.now c.in-Some.span.start c.in-Some.span.end (option_map span_pair c.span_of.result) (kept_whole g.entries.items g.rows.items g.spare.items c.self.invariant.kept) c.as_slice.ensures.value c.span_of.ensures (ap (option_map span_pair) c.in-Some.is) in
    let left = d.left in
    let few = c.self.invariant.kept.few in
    let rows_are = c.self.invariant.kept.rows_are in
    let spare_are = c.self.invariant.kept.spare_are in
    let order = d.order in
    let within = d.within in
    let now : length c.as_slice-in-Some.result.now ≡ length (take c.in-Some.span.start g.entries.items ++ drop c.in-Some.span.end g.entries.items) = ap length (c.as_slice-in-Some.ensures.value ∙ c.cut_out.ensures) in
    let len : length c.truncate-in-Some.new.self.items ≡ length (take _ g.spare.items) = ap length c.truncate-in-Some.ensures.items in
    omega (arith, len, length-take (c.len.result - (c.in-Some.span.end - c.in-Some.span.start)) g.spare.items, c.len.ensures, g.entries.ok.0)

pub resettle-requires-clause-room : goal.resettle-requires-clause-room
resettle-requires-clause-room c =
    let g = c.self.inside in
    let d = dropped g.entries.items c.as_slice.result.now c.args.name.now c.in-Some.span.start c.in-Some.span.end (option_map span_pair c.span_of.result) (kept_whole g.entries.items g.rows.items g.spare.items c.self.invariant.kept) c.as_slice.ensures.value c.span_of.ensures (ap (option_map span_pair) c.in-Some.is) in
    let left = d.left in
    let is = c.as_slice-in-Some.ensures.value ∙ c.cut_out.ensures in
    let now : length c.as_slice-in-Some.result.now ≡ length (take c.in-Some.span.start g.entries.items ++ drop c.in-Some.span.end g.entries.items) = ap length is in
    room_cut g.entries.items c.as_slice-in-Some.result.now g.links.firsts.items g.links.needs.items c.in-Some.span.start c.in-Some.span.end d.order (omega arith) is c.self.invariant.room

pub invariant_of-self : goal.invariant_of-self
invariant_of-self c =
    let g = c.self.inside in
    let d = dropped g.entries.items c.as_slice.result.now c.args.name.now c.in-Some.span.start c.in-Some.span.end (option_map span_pair c.span_of.result) (kept_whole g.entries.items g.rows.items g.spare.items c.self.invariant.kept) c.as_slice.ensures.value c.span_of.ensures (ap (option_map span_pair) c.in-Some.is) in
    let left = d.left in
    let few = c.self.invariant.kept.few in
    let rows_are = c.self.invariant.kept.rows_are in
    let spare_are = c.self.invariant.kept.spare_are in
    let order = d.order in
    let within = d.within in
    let now : length c.as_slice-in-Some.result.now ≡ length (take c.in-Some.span.start g.entries.items ++ drop c.in-Some.span.end g.entries.items) = ap length (c.as_slice-in-Some.ensures.value ∙ c.cut_out.ensures) in
    let P : List Entry → Type 0 = λ l. Placed l (drop_group (groups_of g.entries.items) c.args.name.now) in
    let p = subst P (sym c.cut_out.ensures) d.placed in
    let same : length c.cut_out.new.entries.items ≡ length (take c.in-Some.span.start g.entries.items ++ drop c.in-Some.span.end g.entries.items) = ap length c.cut_out.ensures in
    record {
      kept = kept_by c.cut_out.new.entries.items c.as_slice-in-Some.result.now c.resettle.new.rows.items c.resettle.new.spare.items c.args.name.now (drop_group (groups_of g.entries.items) c.args.name.now) c.as_slice-in-Some.ensures.value p (omega arith) c.resettle.ensures.table c.resettle.ensures.rows_are c.resettle.ensures.spare_are;
      room = subst (λ (l : List Entry). HasRoom (nodes_at l) c.resettle.new.links.firsts.items c.resettle.new.links.needs.items) c.as_slice-in-Some.ensures.value c.resettle.ensures.room;
    }

pub returns-in-Some : goal.returns-in-Some
returns-in-Some c =
    let g = c.self.inside in
    let d = dropped g.entries.items c.as_slice.result.now c.args.name.now c.in-Some.span.start c.in-Some.span.end (option_map span_pair c.span_of.result) (kept_whole g.entries.items g.rows.items g.spare.items c.self.invariant.kept) c.as_slice.ensures.value c.span_of.ensures (ap (option_map span_pair) c.in-Some.is) in
    let p = d.placed in
    ap groups_of c.cut_out.ensures ∙ p.is ∙ ap (λ gs. drop_group gs c.args.name.now) c.self.view_is

pub returns-in_default : goal.returns-in_default
returns-in_default c =
    let g = c.self.inside in
    let none = found_span g.entries.items c.as_slice.result.now c.args.name.now (option_map span_pair c.span_of.result) None c.as_slice.ensures.value c.span_of.ensures (ap (option_map span_pair) c.in_default.is) in
    sym (ap (λ gs. drop_group gs c.args.name.now) (sym c.self.view_is) ∙ drop_nothing g.entries.items c.args.name.now none ∙ c.self.view_is)
