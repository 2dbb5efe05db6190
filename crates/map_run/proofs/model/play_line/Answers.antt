use Rattle.std.proofs.Common.{◌∙◌, sym, ap, refl}
use Rattle.std.proofs.lemmas.Result.{err_from_is_err_and}
use Rattle.map_machine.specs.ModelFiles.{is_refused}
use Rattle.map_machine.proofs.StepLemmas.{quit_kind}
use Rattle.map_run.proofs.LineSteps.{reply_to-any, state_to-any, kind_to-any}
use Rattle.map_run.proofs.AnsweredLemmas.{not_quit}
use Rattle.map_run.proofs.ModelLemmas.{model_quits, model_more, model_refused, model_put, model_lacks, not_refused}
use Rattle.map_run.proofs.model.play_line.Goals as goal

pub returns-in_err-reply-clause-goes : goal.returns-in_err-reply-clause-goes
returns-in_err-reply-clause-goes g c =
    let p = err_from_is_err_and c.from_residual.result c.from_residual.ensures.1 in
    rw (p.1, p.2) (λ lines. model_lacks c.args.session.now c.args.line.now lines _ _ refl c.in_err-reply.ensures.reads)

pub returns-in-Quit-clause-goes : goal.returns-in-Quit-clause-goes
returns-in-Quit-clause-goes g c lines =
    let s = c.args.session.now in
    let line = c.args.line.now in
    let reply = c.in_ok-reply.ensures in
    let same = reply.kept (λ e. let kind = c.in-Quit.is in cc) (λ e. let kind = c.in-Quit.is in cc) in
    rw same (model_quits s line lines _ _ ((quit_kind s line).0 (sym reply.steps.2 ∙ c.in-Quit.is)) refl reply.reads)

pub returns-in_err-put_reply-in-Refused-clause-goes : goal.returns-in_err-put_reply-in-Refused-clause-goes
returns-in_err-put_reply-in-Refused-clause-goes g c =
    let s = c.args.session.now in
    let line = c.args.line.now in
    let reply = c.in_ok-reply.ensures in
    let p = err_from_is_err_and c.from_residual-in_err-put_reply-in-Refused.result c.from_residual-in_err-put_reply-in-Refused.ensures.1 in
    rw (p.1, p.2) (λ lines. model_put s line c.deref.result.now lines _ _ c.in_err-put_reply-in-Refused.ensures.bytes.0 c.in_err-put_reply-in-Refused.field-0.0
    (not_quit s line (λ e. let kind = sym c.in-Refused.is ∙ reply.steps.2 ∙ e in cc)) (c.deref.ensures.value ∙ reply.steps.1 ∙ sym (reply_to-any s line))
    c.in_err-put_reply-in-Refused.ensures.bytes.1 reply.reads)

pub returns-in-Refused-clause-goes : goal.returns-in-Refused-clause-goes
returns-in-Refused-clause-goes g c lines =
    let s = c.args.session.now in
    let line = c.args.line.now in
    let reply = c.in_ok-reply.ensures in
    model_refused s line c.deref.result.now lines _ _ (not_quit s line (λ e. let kind = sym c.in-Refused.is ∙ reply.steps.2 ∙ e in cc))
    (ap is_refused (kind_to-any s line ∙ sym reply.steps.2 ∙ c.in-Refused.is)) (c.deref.ensures.value ∙ reply.steps.1 ∙ sym (reply_to-any s line))
    c.in_ok-put_reply-in-Refused.ensures.bytes reply.reads

pub returns-in_err-put_reply-in_default-clause-goes : goal.returns-in_err-put_reply-in_default-clause-goes
returns-in_err-put_reply-in_default-clause-goes g c =
    let s = c.args.session.now in
    let line = c.args.line.now in
    let reply = c.in_ok-reply.ensures in
    let p = err_from_is_err_and c.from_residual-in_err-put_reply-in_default.result c.from_residual-in_err-put_reply-in_default.ensures.1 in
    rw (p.1, p.2) (λ lines. model_put s line c.deref-in_default.result.now lines _ _ c.in_err-put_reply-in_default.ensures.bytes.0 c.in_err-put_reply-in_default.field-0.0
    (not_quit s line (λ e. c.in_default.not-Quit (reply.steps.2 ∙ e))) (c.deref-in_default.ensures.value ∙ reply.steps.1 ∙ sym (reply_to-any s line))
    c.in_err-put_reply-in_default.ensures.bytes.1 reply.reads)

pub returns-clause-goes : goal.returns-clause-goes
returns-clause-goes g c lines later came =
    let s = c.args.session.now in
    let line = c.args.line.now in
    let reply = c.in_ok-reply.ensures in
    model_more s c.step.new.self line c.deref-in_default.result.now lines _ _ later came (not_quit s line (λ e. c.in_default.not-Quit (reply.steps.2 ∙ e)))
    (ap is_refused (kind_to-any s line ∙ sym reply.steps.2) ∙ not_refused c.in_ok-reply.reply.kind c.in_default.not-Refused)
    (reply.steps.0 ∙ sym (state_to-any s line)) (c.deref-in_default.ensures.value ∙ reply.steps.1 ∙ sym (reply_to-any s line)) c.in_ok-put_reply-in_default.ensures.bytes reply.reads
