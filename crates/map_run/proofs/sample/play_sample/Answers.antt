use Rattle.std.proofs.Common.{◌∷◌, [], take, ◌+◌, ◌∙◌, refl, ap, Ok, Err}
use Rattle.std.proofs.lemmas.Result.{err_from_is_err_and}
use Rattle.map_machine.specs.SampleLines.{sample_lines}
use Rattle.map_run.specs.declared.lines.Fed.TheVariants.{More, Quit}
use Rattle.map_run.proofs.AnsweredLemmas.{answered_lines, answered_fed, answered_then, nothing_answered}
use Rattle.map_run.proofs.Rising.{keeps_then}
use Rattle.map_run.proofs.SampleLemmas.{next_line, all_lines, lines_stop, lines_lack}
use Rattle.map_run.proofs.sample.play_sample.Goals as goal

pub loop-k-init : goal.loop-k-init
loop-k-init g c = record { parts = (refl, refl); answered = nothing_answered c.args.session.now _ }

pub loop-k-preserved : goal.loop-k-preserved
loop-k-preserved g c =
    let M = g.M.Tally in
    let n = c.args.side.count in
    let k = c.loop-k.k in
    let line = c.deref.result.now in
    let was = c.loop-k.invariant in
    let answered = answered_fed c.loop-k.session c.answer_line.new.session (line ∷ []) _ _ (Ok c.in_ok-answer_line.field-0) (Ok More) (ap Ok c.in-More.is) c.in_ok-answer_line.ensures.answered in
    record {
      parts = keeps_then (M.counts c.args.tally.now) (M.counts c.loop-k.tally) (M.counts c.answer_line.new.tally) was.parts c.in_ok-answer_line.ensures.parts;
      answered = answered_lines c.args.session.now c.answer_line.new.session _ (take (k + 1) (sample_lines n)) _ _ (Ok More)
          (next_line n k line c.loop-k-test.true (c.deref.ensures.value ∙ c.in_ok-line.ensures))
          (answered_then c.args.session.now c.loop-k.session c.answer_line.new.session (take k (sample_lines n)) (line ∷ []) _ _ _ (Ok More) was.answered answered);
    }

pub returns-in_err-line-clause-answered : goal.returns-in_err-line-clause-answered
returns-in_err-line-clause-answered g c =
    let p = err_from_is_err_and c.from_residual.result c.from_residual.ensures.1 in
    rw (p.1, p.2) (lines_lack c.args.side.count c.loop-k.k c.args.session.now c.loop-k.session c.loop-k.session _ _ c.loop-k.invariant.answered)

pub returns-in_err-answer_line-clause-answered : goal.returns-in_err-answer_line-clause-answered
returns-in_err-answer_line-clause-answered g c =
    let p = err_from_is_err_and c.from_residual-in_err-answer_line.result c.from_residual-in_err-answer_line.ensures.1 in
    let line = c.deref.result.now in
    rw (p.1, p.2) (lines_stop c.args.side.count c.loop-k.k line c.args.session.now c.loop-k.session c.answer_line.new.session _ _ _ (Err c.in_err-answer_line.field-0.0) (λ e. cc) c.loop-k-test.true
    (c.deref.ensures.value ∙ c.in_ok-line.ensures) c.loop-k.invariant.answered c.in_err-answer_line.ensures.answered)

pub returns-in-Quit-clause-answered : goal.returns-in-Quit-clause-answered
returns-in-Quit-clause-answered g c =
    let line = c.deref.result.now in
    let answered = answered_fed c.loop-k.session c.answer_line.new.session (line ∷ []) _ _ (Ok c.in_ok-answer_line.field-0) (Ok Quit) (ap Ok c.in-Quit.is) c.in_ok-answer_line.ensures.answered in
    lines_stop c.args.side.count c.loop-k.k line c.args.session.now c.loop-k.session c.answer_line.new.session _ _ _ (Ok Quit) (λ e. cc) c.loop-k-test.true
    (c.deref.ensures.value ∙ c.in_ok-line.ensures) c.loop-k.invariant.answered answered

pub returns-clause-answered : goal.returns-clause-answered
returns-clause-answered g c =
    answered_lines c.args.session.now c.loop-k.session _ (sample_lines c.args.side.count) _ _ (Ok More) (all_lines c.args.side.count c.loop-k.k c.loop-k-test.false) c.loop-k.invariant.answered
