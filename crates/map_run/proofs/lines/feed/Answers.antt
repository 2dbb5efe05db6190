use Rattle.std.proofs.Common.{◌∙◌, ap, Ok, Err}
use Rattle.std.proofs.lemmas.Result.{err_from_is_err_and}
use Rattle.map_run.specs.declared.lines.Fed.TheVariants.{Quit}
use Rattle.map_run.proofs.Feeding.{begins, line_stops, line_goes_on, rest_answered, rest_lacking, rest_kept}
use Rattle.map_run.proofs.lines.feed.Goals as goal

pub loop-line-init : goal.loop-line-init
loop-line-init g c = begins c.args.session.now _ _ _ _ c.args.bytes.now

pub loop-line-preserved : goal.loop-line-preserved
loop-line-preserved g c =
    let cut = c.in-Some.ensures in
    let ends = c.in_ok-end_line.ensures in
    line_goes_on c.end_line.new.session _
    c.end_line.new.piece.kept.items c.end_line.new.piece.count c.end_line.new.piece.returns c.in-Some.line.now c.in-Some.further.now
    c.loop-line.invariant cut.0 cut.1 (λ piece k. rw c.in-More.is at (ends.answered piece k)) (c.end_line.ensures.kept (c.in_ok-end_line.was ∙ ap Ok c.in-More.is)) ends.count ends.parts

pub returns-in_err-end_line-clause-answered : goal.returns-in_err-end_line-clause-answered
returns-in_err-end_line-clause-answered g c taken was =
    let cut = c.in-Some.ensures in
    let p = err_from_is_err_and c.from_residual.result c.from_residual.ensures.1 in
    rw (p.1, p.2) (line_stops c.end_line.new.session _ c.in-Some.line.now c.in-Some.further.now (Err c.in_err-end_line.field-0.0) (λ e. cc)
    c.loop-line.invariant cut.0 cut.1 c.in_err-end_line.ensures.answered taken was)

pub returns-in-Quit-clause-answered : goal.returns-in-Quit-clause-answered
returns-in-Quit-clause-answered g c taken was =
    let cut = c.in-Some.ensures in
    line_stops c.end_line.new.session _ c.in-Some.line.now c.in-Some.further.now (Ok Quit) (λ e. cc)
    c.loop-line.invariant cut.0 cut.1 (λ piece k. rw c.in-Quit.is at (c.in_ok-end_line.ensures.answered piece k)) taken was

pub returns-in_err-extend-clause-answered : goal.returns-in_err-extend-clause-answered
returns-in_err-extend-clause-answered g c taken was =
    let p = err_from_is_err_and c.from_residual-in_err-extend.result c.from_residual-in_err-extend.ensures.1 in
    rw (p.1, p.2) (rest_lacking c.loop-line.invariant taken was)

pub returns-clause-answered : goal.returns-clause-answered
returns-clause-answered g c taken was = rest_answered c.loop-line.invariant c.in_default.ensures taken was

pub returns-clause-kept : goal.returns-clause-kept
returns-clause-kept g c more taken was = rest_kept _ _ _ c.loop-line.invariant c.in_default.ensures c.in_ok-extend.ensures.kept taken was
