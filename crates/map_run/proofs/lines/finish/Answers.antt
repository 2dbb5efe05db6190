use Rattle.std.proofs.Common.{◌≤◌, ◌∙◌, ◌∷◌, [], sym, ap, take, length, arith}
use Rattle.std.proofs.lemmas.List.{take_all}
use Rattle.map_run.proofs.AnsweredLemmas.{answered_lines}
use Rattle.map_run.proofs.KeptLemmas.{last_line-some}
use Rattle.map_run.proofs.lines.finish.Goals as goal

pub returns-clause-answered : goal.returns-clause-answered
returns-clause-answered g c bytes was =
    let n = c.args.piece.now.count in
    answered_lines c.args.session.now c.answer.new.session (bytes ∷ []) _ _ _ c.answer.result (sym (last_line-some bytes (λ none. c.if-piece-eq0.false (was.count ∙ none))))
    (c.answer.ensures.answered bytes (sym was.count) (λ few.
    let short : length bytes ≤ 4097 = omega (arith, was.count, few) in
    let all : length bytes ≤ n = omega (arith, was.count) in
    sym (ap (take n) (c.deref.ensures.value ∙ was.whole short) ∙ take_all n bytes all)))
