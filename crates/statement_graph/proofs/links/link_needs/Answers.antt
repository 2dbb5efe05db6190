use Rattle.std.proofs.Common.{◌≡◌, ◌+◌, length, take, ap, ◌∙◌, arith, length-append}
use Rattle.statement_graph.specs.Seats.{nodes_at}
use Rattle.statement_graph.specs.Links.{all_needs}
use Rattle.statement_graph.proofs.Linking.{needs_more, needs_fit, linked_more}
use Rattle.statement_graph.proofs.links.link_needs.Goals as goal

pub link_names-requires : goal.link_names-requires
link_names-requires c =
    let fit = needs_fit c.args.entries.now c.loop-at.at c.index-entries-at.result c.needs-needs.result.now c.loop-at-test.true c.index-entries-at.is c.needs-needs.ensures in
    let starts = c.loop-at.invariant.starts in
    omega (arith, c.requires, c.loop-at.auto.links)

pub overflow_add-start : goal.overflow_add-start
overflow_add-start c =
    let fit = needs_fit c.args.entries.now c.loop-at.at c.index-entries-at.result c.needs-needs.result.now c.loop-at-test.true c.index-entries-at.is c.needs-needs.ensures in
    let starts = c.loop-at.invariant.starts in
    omega (arith, c.requires, c.loop-at.auto.links)

pub loop-at-preserved : goal.loop-at-preserved
loop-at-preserved c =
    let needs = c.needs-needs.result.now in
    let nodes = nodes_at c.args.entries.now in
    let before = all_needs (take c.loop-at.at nodes) in
    let more = needs_more c.args.entries.now c.loop-at.at c.index-entries-at.result needs c.loop-at-test.true c.index-entries-at.is c.needs-needs.ensures in
    let len : length (all_needs (take (c.loop-at.at + 1) nodes)) ≡ length before + length needs = ap length more ∙ length-append before needs in
    let starts = c.loop-at.invariant.starts in
    record {
      starts = omega arith;
      linked = linked_more nodes before needs (all_needs (take (c.loop-at.at + 1) nodes)) c.loop-at.start c.loop-at.links c.link_names.new.links starts more c.link_names.ensures.before c.loop-at.invariant.linked c.link_names.ensures.linked;
    }
