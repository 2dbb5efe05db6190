use Rattle.std.proofs.Common.{ap, sym, ◌∙◌, bytes_eq}
use Rattle.statement_graph.specs.Seats.{seats, seat_of}
use Rattle.statement_graph.proofs.Finding.{seat_there}
use Rattle.statement_graph.proofs.Spans.{span_found, span_next, span_inner}
use Rattle.statement_graph.proofs.places.span_of.Goals as goal

pub loop-at-preserved-then-not-ends : goal.loop-at-preserved-then-not-ends
loop-at-preserved-then-not-ends c =
    let e = c.index-entries-at.result in
    sym (span_inner (seats c.args.entries.now) c.args.name.now c.loop-at.start c.loop-at.at (seat_of e) (seat_there c.args.entries.now c.loop-at.at e c.loop-at-test.true c.index-entries-at.is)
    (sym c.ends.ensures ∙ c.if-not-ends.true)) ∙ c.loop-at.invariant

pub returns-then-eq : goal.returns-then-eq
returns-then-eq c =
    let e = c.index-entries-at.result in
    sym (span_found (seats c.args.entries.now) c.args.name.now c.loop-at.start c.loop-at.at (seat_of e) (seat_there c.args.entries.now c.loop-at.at e c.loop-at-test.true c.index-entries-at.is)
    (sym c.ends.ensures ∙ c.if-not-ends.false) (sym (ap (λ m. bytes_eq m c.args.name.now) c.name.ensures) ∙ sym c.eq.ensures ∙ c.if-eq.true)) ∙ c.loop-at.invariant

pub loop-at-preserved : goal.loop-at-preserved
loop-at-preserved c =
    let e = c.index-entries-at.result in
    sym (span_next (seats c.args.entries.now) c.args.name.now c.loop-at.start c.loop-at.at (seat_of e) (seat_there c.args.entries.now c.loop-at.at e c.loop-at-test.true c.index-entries-at.is)
    (sym c.ends.ensures ∙ c.if-not-ends.false) (sym (ap (λ m. bytes_eq m c.args.name.now) c.name.ensures) ∙ sym c.eq.ensures ∙ c.if-eq.false)) ∙ c.loop-at.invariant
