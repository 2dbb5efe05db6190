use Rattle.std.proofs.Common.{◌∷◌, [], ◌++◌, ◌∙◌, refl, sym, ap, take, arith}
use Rattle.std.proofs.lemmas.Result.{err_from_is_err_and}
use Rattle.map_machine.specs.Lines.{without_return}
use Rattle.map_run.proofs.AnsweredLemmas.{lacks_before}
use Rattle.map_run.proofs.KeptLemmas.{none_kept, kept_none, kept_line, kept_whole}
use Rattle.map_run.proofs.lines.end_line.Goals as goal

pub returns-then-piece-eq0-clause-kept : goal.returns-then-piece-eq0-clause-kept
returns-then-piece-eq0-clause-kept g c more =
    let p = c.args.piece.now in
    none_kept p.kept.items p.count p.returns c.if-piece-eq0.true (omega (arith, p.room, p.kept.ok.0)) p.some

pub returns-then-piece-eq0-clause-answered : goal.returns-then-piece-eq0-clause-answered
returns-then-piece-eq0-clause-answered g c front was =
    let bytes = c.args.bytes.now in
    let line = kept_line bytes bytes _ c.ends_with_return.result c.line_length-count.result (kept_whole bytes _ c.ends_with_return.result refl c.ends_with_return.ensures.end) c.line_length-count.ensures in
    rw (kept_none front _ _ _ was c.if-piece-eq0.true) (c.answer.ensures.answered (without_return bytes) line.0 line.1)

pub returns-clause-answered : goal.returns-clause-answered
returns-clause-answered g c front was =
    let kept = c.in_ok-extend.ensures.kept front was in
    let count = c.line_length-count-2.result in
    let line = kept_line (front ++ c.args.bytes.now) c.extend.new.self.kept.items c.extend.new.self.count c.extend.new.self.returns count kept c.line_length-count-2.ensures in
    c.answer-fed.ensures.answered (without_return (front ++ c.args.bytes.now)) line.0 (λ few. line.1 few ∙ ap (take count) (sym c.deref.ensures.value))

pub returns-in_err-extend-clause-answered : goal.returns-in_err-extend-clause-answered
returns-in_err-extend-clause-answered g c front was =
    let p = err_from_is_err_and c.from_residual.result c.from_residual.ensures.1 in
    rw (p.1, p.2) (lacks_before c.args.session.now (without_return (front ++ c.args.bytes.now) ∷ []) _)
