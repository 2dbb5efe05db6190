use Rattle.std.proofs.Common.{◌+◌, ◌^◌, get_or, None, ap, ◌∙◌, arith, bytes_eq, slice_get}
use Rattle.statement_graph.specs.declared.row.Place.{Place}
use Rattle.statement_graph.specs.Seats.{nodes_at}
use Rattle.statement_graph.specs.Tables.{shown_all, seen, unjoined}
use Rattle.statement_graph.proofs.Gathering.{need_there, gathered_more, gathered_all, joined_shown, unjoined_there, shallow_both, seen_row, seen_shallow}
use Rattle.statement_graph.proofs.Linking.{need_linked, needs_fit}
use Rattle.statement_graph.proofs.row.gathered.Goals as goal

pub overflow_add-start : goal.overflow_add-start
overflow_add-start c =
    let fit = needs_fit c.args.entries.now c.args.at c.index-entries-at.result c.needs-needs.result.now c.requires.within c.index-entries-at.is c.needs-needs.ensures in
    omega (arith, c.requires.room, c.requires.starts, c.loop-k-test.true)

pub offset_bounds-links-start : goal.offset_bounds-links-start
offset_bounds-links-start c =
    let fit = needs_fit c.args.entries.now c.args.at c.index-entries-at.result c.needs-needs.result.now c.requires.within c.index-entries-at.is c.needs-needs.ensures in
    omega (arith, c.requires.room, c.requires.starts, c.loop-k-test.true)

pub bounds-links-start : goal.bounds-links-start
bounds-links-start c =
    let fit = needs_fit c.args.entries.now c.args.at c.index-entries-at.result c.needs-needs.result.now c.requires.within c.index-entries-at.is c.needs-needs.ensures in
    omega (arith, c.requires.room, c.requires.starts, c.loop-k-test.true)

pub loop-k-init : goal.loop-k-init
loop-k-init c =
    (unjoined_there c.args.entries.now c.args.name.now c.args.at c.index-entries-at.result c.eq.result c.requires.within c.index-entries-at.is (c.eq.ensures ∙ ap (λ m. bytes_eq m c.args.name.now) c.name.ensures), omega arith)

pub loop-k-preserved : goal.loop-k-preserved
loop-k-preserved c =
    let es = c.args.entries.now in
    let nodes = nodes_at es in
    let place : Place = record { node = c.args.at; need = c.loop-k.k } in
    let m = c.index-needs-k.result in
    let link = get_or c.args.links.now (c.args.start + c.loop-k.k) None in
    let linked = need_linked es c.args.links.now c.args.at c.args.start c.loop-k.k c.index-entries-at.result c.needs-needs.result.now m c.requires.within c.index-entries-at.is c.needs-needs.ensures c.loop-k-test.true c.index-needs-k.is c.requires.starts c.requires.linked in
    let placed = need_there es c.args.at c.loop-k.k c.index-entries-at.result c.needs-needs.result.now m c.requires.within c.index-entries-at.is c.needs-needs.ensures c.loop-k-test.true c.index-needs-k.is in
    let is_seen = seen_row nodes c.args.rows.now c.args.name.now m place link c.seen.result linked placed c.seen.ensures in
    let shallow = seen_shallow c.args.rows.now place (bytes_eq m c.args.name.now) (2 ^ 32) link c.seen.result c.requires.shallow (omega arith) c.seen.ensures in (
      gathered_more nodes (seen nodes (shown_all nodes c.args.rows.now) c.args.name.now) (unjoined c.args.name.now) (slice_get nodes c.args.at) c.loop-k.row c.seen.result c.joined-row.result c.needs-needs.result.now c.loop-k.k m
          c.loop-k.invariant.0 (joined_shown nodes c.loop-k.row c.seen.result c.joined-row.result c.joined-row.ensures) is_seen c.loop-k-test.true c.index-needs-k.is,
      shallow_both c.loop-k.row c.seen.result c.joined-row.result (2 ^ 32) c.joined-row.ensures c.loop-k.invariant.1 shallow,
    )

pub returns-clause-shown : goal.returns-clause-shown
returns-clause-shown c =
    gathered_all c.args.entries.now c.args.rows.now c.args.name.now c.args.at c.loop-k.k c.index-entries-at.result c.loop-k.row c.needs-needs.result.now c.requires.within c.index-entries-at.is c.needs-needs.ensures c.loop-k-test.false c.loop-k.invariant.0
