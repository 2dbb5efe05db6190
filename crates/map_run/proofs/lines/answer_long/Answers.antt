use Rattle.std.proofs.Common.{◌<◌, ◌∷◌, [], ◌∙◌, sym, ap, arith, length}
use Rattle.std.proofs.lemmas.Result.{err_from_is_err_and}
use Rattle.map_machine.specs.LineReads.{line_reads}
use Rattle.map_machine.specs.Steps.{long_reply}
use Rattle.map_machine.specs.Text.{state_to}
use Rattle.map_machine.proofs.TextLemmas.{long_no_quit, reply_to-long, state_to-long}
use Rattle.map_run.proofs.AnsweredLemmas.{answered_at, lacks_before}
use Rattle.map_run.proofs.Rising.{rises_nothing}
use Rattle.map_run.proofs.lines.answer_long.Goals as goal

pub returns-in_err-text : goal.returns-in_err-text
returns-in_err-text g c state line tally count =
    let p = err_from_is_err_and c.from_residual.result c.from_residual.ensures.1 in
    rw (p.1, p.2) (lacks_before state (line ∷ []) _)

pub returns : goal.returns
returns g c state line tally count =
    let long : 4096 < length line = omega (arith, c.requires) in
    answered_at state (state_to state line) state (line ∷ []) _ _ c.put_answer.result (state_to-long state line long)
    (c.put_answer.ensures state line tally tally (long_no_quit line long)
    (c.deref.ensures.value ∙ c.in_ok-text.ensures ∙ sym (ap long_reply count) ∙ sym (reply_to-long state line long)) (rises_nothing (line_reads state line) tally))
