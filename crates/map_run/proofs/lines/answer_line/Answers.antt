use Rattle.std.proofs.Common.{◌∷◌, [], ◌∙◌, sym, refl}
use Rattle.std.proofs.lemmas.Result.{err_from_is_err_and}
use Rattle.map_machine.proofs.StepLemmas.{quit_kind}
use Rattle.map_run.proofs.LineSteps.{reply_to-any, state_to-any}
use Rattle.map_machine.specs.Text.{state_to}
use Rattle.map_run.proofs.AnsweredLemmas.{answered_at, one_lacks, one_quits, not_quit}
use Rattle.map_run.proofs.lines.answer_line.Goals as goal

pub returns-in_err-reply-clause-answered : goal.returns-in_err-reply-clause-answered
returns-in_err-reply-clause-answered g c =
    let p = err_from_is_err_and c.from_residual.result c.from_residual.ensures.1 in
    rw (p.1, p.2) (one_lacks c.args.session.now c.args.line.now _ _ refl refl c.in_err-reply.ensures.reads)

pub returns-in-Quit-clause-answered : goal.returns-in-Quit-clause-answered
returns-in-Quit-clause-answered g c = one_quits c.args.session.now c.args.line.now _ _
    ((quit_kind c.args.session.now c.args.line.now).0 (sym c.in_ok-reply.ensures.steps.2 ∙ c.in-Quit.is)) refl refl c.in_ok-reply.ensures.reads

pub returns-clause-answered : goal.returns-clause-answered
returns-clause-answered g c =
    let s = c.args.session.now in
    let line = c.args.line.now in
    let steps = c.in_ok-reply.ensures.steps in
    answered_at s (state_to s line) c.step.new.self (line ∷ []) _ _ c.put_answer.result (state_to-any s line ∙ sym steps.0)
    (c.put_answer.ensures s line (g.M.Tally.counts c.args.tally.now) (g.M.Tally.counts c.step.new.tally) (not_quit s line (λ e. c.in_default.not-Quit (steps.2 ∙ e)))
    (c.deref.ensures.value ∙ steps.1 ∙ sym (reply_to-any s line)) c.in_ok-reply.ensures.reads)
