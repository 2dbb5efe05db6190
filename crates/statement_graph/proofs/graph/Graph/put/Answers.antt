use Rattle.std.proofs.Common.{◌≡◌, ◌+◌, ◌-◌, ◌<◌, ◌^◌, length, ap, sym, ◌∙◌, arith}
use Rattle.statement_graph.specs.Groups.{nodes_in, put_group}
use Rattle.statement_graph.specs.Puts.{flat_nodes}
use Rattle.statement_graph.specs.Seats.{nodes_at}
use Rattle.statement_graph.specs.Links.{all_needs}
use Rattle.statement_graph.specs.Splices.{spliced}
use Rattle.statement_graph.proofs.Placing.{put_is, span_at, kept_whole, kept_put, put_refused, put_accepted, put_length}
use Rattle.statement_graph.proofs.Exchanging.{length-spliced}
use Rattle.statement_graph.proofs.graph.Graph.put.Goals as goal

pub overflow_sub-total : goal.overflow_sub-total
overflow_sub-total c =
    let g = c.self.inside in
    let span = c.span_or_end-span.result in
    let fresh = c.in_ok-fresh.fresh.items in
    let put = put_is g.entries.items fresh c.args.name.now (flat_nodes c.args.nodes.items) span.start span.end (kept_whole g.entries.items g.rows.items g.spare.items c.self.invariant.kept) c.in_ok-fresh.ensures c.requires.own (c.span_or_end-span.ensures ∙ ap (λ l. span_at l c.args.name.now) c.as_slice.ensures.value) in
    put.order

pub overflow_sub-total-2 : goal.overflow_sub-total-2
overflow_sub-total-2 c =
    let g = c.self.inside in
    let span = c.span_or_end-span.result in
    let fresh = c.in_ok-fresh.fresh.items in
    let put = put_is g.entries.items fresh c.args.name.now (flat_nodes c.args.nodes.items) span.start span.end (kept_whole g.entries.items g.rows.items g.spare.items c.self.invariant.kept) c.in_ok-fresh.ensures c.requires.own (c.span_or_end-span.ensures ∙ ap (λ l. span_at l c.args.name.now) c.as_slice.ensures.value) in
    let order = put.order in
    let within = put.within in
    omega (arith, c.len.ensures, g.entries.ok.0)

pub splice-requires-clause-order : goal.splice-requires-clause-order
splice-requires-clause-order c =
    let g = c.self.inside in
    let span = c.span_or_end-span.result in
    let fresh = c.in_ok-fresh.fresh.items in
    let put = put_is g.entries.items fresh c.args.name.now (flat_nodes c.args.nodes.items) span.start span.end (kept_whole g.entries.items g.rows.items g.spare.items c.self.invariant.kept) c.in_ok-fresh.ensures c.requires.own (c.span_or_end-span.ensures ∙ ap (λ l. span_at l c.args.name.now) c.as_slice.ensures.value) in
    put.order

pub splice-requires-clause-within : goal.splice-requires-clause-within
splice-requires-clause-within c =
    let g = c.self.inside in
    let span = c.span_or_end-span.result in
    let fresh = c.in_ok-fresh.fresh.items in
    let put = put_is g.entries.items fresh c.args.name.now (flat_nodes c.args.nodes.items) span.start span.end (kept_whole g.entries.items g.rows.items g.spare.items c.self.invariant.kept) c.in_ok-fresh.ensures c.requires.own (c.span_or_end-span.ensures ∙ ap (λ l. span_at l c.args.name.now) c.as_slice.ensures.value) in
    put.within

pub splice-requires-clause-rows_are : goal.splice-requires-clause-rows_are
splice-requires-clause-rows_are c =
    let g = c.self.inside in
    let span = c.span_or_end-span.result in
    let fresh = c.in_ok-fresh.fresh.items in
    let put = put_is g.entries.items fresh c.args.name.now (flat_nodes c.args.nodes.items) span.start span.end (kept_whole g.entries.items g.rows.items g.spare.items c.self.invariant.kept) c.in_ok-fresh.ensures c.requires.own (c.span_or_end-span.ensures ∙ ap (λ l. span_at l c.args.name.now) c.as_slice.ensures.value) in
    let order = put.order in
    let within = put.within in
    let len : length c.in_ok-rows.rows.items ≡ c.len.result - (span.end - span.start) + c.len-2.result = sym c.in_ok-rows.rows.ok.0 ∙ c.in_ok-rows.ensures.len in
    let few : length (nodes_in (put_group c.args.self.now c.args.name.now (flat_nodes c.args.nodes.items))) + 1 < 2 ^ 32 = c.requires.few in
    let all = put_length g.entries.items fresh g.entries.items c.args.self.now c.args.name.now (flat_nodes c.args.nodes.items) span.start span.end g.rows.items c.self.view_is put in
    let parts = length-spliced g.entries.items fresh span.start span.end order within in
    omega (arith, c.len.ensures, c.len-2.ensures, g.entries.ok.0, c.in_ok-fresh.fresh.ok.0)

pub splice-requires-clause-few : goal.splice-requires-clause-few
splice-requires-clause-few c =
    let g = c.self.inside in
    let span = c.span_or_end-span.result in
    let fresh = c.in_ok-fresh.fresh.items in
    let put = put_is g.entries.items fresh c.args.name.now (flat_nodes c.args.nodes.items) span.start span.end (kept_whole g.entries.items g.rows.items g.spare.items c.self.invariant.kept) c.in_ok-fresh.ensures c.requires.own (c.span_or_end-span.ensures ∙ ap (λ l. span_at l c.args.name.now) c.as_slice.ensures.value) in
    let order = put.order in
    let within = put.within in
    let len : length c.in_ok-rows.rows.items ≡ c.len.result - (span.end - span.start) + c.len-2.result = sym c.in_ok-rows.rows.ok.0 ∙ c.in_ok-rows.ensures.len in
    let few : length (nodes_in (put_group c.args.self.now c.args.name.now (flat_nodes c.args.nodes.items))) + 1 < 2 ^ 32 = c.requires.few in
    let all = put_length g.entries.items fresh g.entries.items c.args.self.now c.args.name.now (flat_nodes c.args.nodes.items) span.start span.end g.rows.items c.self.view_is put in
    let parts = length-spliced g.entries.items fresh span.start span.end order within in
    omega (arith, c.len.ensures, c.len-2.ensures, g.entries.ok.0, c.in_ok-fresh.fresh.ok.0)

pub splice-requires-clause-needs_are : goal.splice-requires-clause-needs_are
splice-requires-clause-needs_are c =
    let g = c.self.inside in
    let own : length (all_needs (nodes_at c.as_slice-2.result.now)) ≡ length (all_needs (nodes_at g.entries.items)) = ap (λ l. length (all_needs (nodes_at l))) c.as_slice-2.ensures.value in
    let more : length (all_needs (nodes_at c.as_slice-3.result.now)) ≡ length (all_needs (nodes_at c.in_ok-fresh.fresh.items)) = ap (λ l. length (all_needs (nodes_at l))) c.as_slice-3.ensures.value in
    omega (arith, c.in_ok-had_needs.ensures, c.in_ok-needs.ensures, c.in_ok-links.ensures.needs)

pub invariant_of-self : goal.invariant_of-self
invariant_of-self c =
    let g = c.self.inside in
    let span = c.span_or_end-span.result in
    let fresh = c.in_ok-fresh.fresh.items in
    let xs = flat_nodes c.args.nodes.items in
    let put = put_is g.entries.items fresh c.args.name.now xs span.start span.end (kept_whole g.entries.items g.rows.items g.spare.items c.self.invariant.kept) c.in_ok-fresh.ensures c.requires.own (c.span_or_end-span.ensures ∙ ap (λ l. span_at l c.args.name.now) c.as_slice.ensures.value) in
    let now = c.in-Ok.ensures.spliced in
    let few : length (nodes_in (put_group c.args.self.now c.args.name.now xs)) + 1 < 2 ^ 32 = c.requires.few in
    let all = put_length g.entries.items fresh g.entries.items c.args.self.now c.args.name.now xs span.start span.end g.rows.items c.self.view_is put in
    let len : length c.splice.new.entries.items ≡ length (spliced span.start span.end fresh g.entries.items) = ap length now.0 in
    record {
      kept = kept_put g.entries.items fresh c.splice.new.entries.items c.args.self.now c.args.name.now xs span.start span.end c.splice.new.rows.items c.splice.new.spare.items put now (omega arith) c.in-Ok.ensures.rows_are c.in-Ok.ensures.spare_are;
      room = c.in-Ok.ensures.room;
    }

pub returns-in-Ok : goal.returns-in-Ok
returns-in-Ok c =
    let g = c.self.inside in
    let span = c.span_or_end-span.result in
    let fresh = c.in_ok-fresh.fresh.items in
    let put = put_is g.entries.items fresh c.args.name.now (flat_nodes c.args.nodes.items) span.start span.end (kept_whole g.entries.items g.rows.items g.spare.items c.self.invariant.kept) c.in_ok-fresh.ensures c.requires.own (c.span_or_end-span.ensures ∙ ap (λ l. span_at l c.args.name.now) c.as_slice.ensures.value) in
    put_accepted g.entries.items fresh c.splice.new.entries.items c.args.self.now c.args.name.now (flat_nodes c.args.nodes.items) span.start span.end c.splice.new.rows.items c.self.view_is put (Unit {0}) tt c.in-Ok.ensures.spliced

pub returns-in-Err : goal.returns-in-Err
returns-in-Err c =
    let g = c.self.inside in
    let span = c.span_or_end-span.result in
    let fresh = c.in_ok-fresh.fresh.items in
    let put = put_is g.entries.items fresh c.args.name.now (flat_nodes c.args.nodes.items) span.start span.end (kept_whole g.entries.items g.rows.items g.spare.items c.self.invariant.kept) c.in_ok-fresh.ensures c.requires.own (c.span_or_end-span.ensures ∙ ap (λ l. span_at l c.args.name.now) c.as_slice.ensures.value) in
    put_refused g.entries.items fresh c.splice.new.entries.items c.args.self.now c.args.name.now (flat_nodes c.args.nodes.items) span.start span.end c.splice.new.rows.items c.self.view_is put (Unit {0}) c.in-Err.refusal c.in-Err.ensures.spliced
