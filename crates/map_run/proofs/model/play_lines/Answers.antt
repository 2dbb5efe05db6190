use Rattle.std.proofs.Common.{◌∷◌, ℕ, refl, sym, ◌∙◌, subst, Ok, Err}
use Rattle.std.proofs.lemmas.Result.{err_from_is_err_and}
use Rattle.map_machine.specs.Lines.{last_line, lines_of}
use Rattle.map_run.specs.FaultCounts.{RunCounts}
use Rattle.map_run.specs.Stops.{stop_status, status_of}
use Rattle.map_run.proofs.ModelLemmas.{comes_lines, lines_at, lines_last}
use Rattle.map_run.proofs.Rising.{keeps_then}
use Rattle.map_run.proofs.model.play_lines.Goals as goal

pub loop-line-preserved : goal.loop-line-preserved
loop-line-preserved g c =
    let M = g.M.Tally in
    let was = c.loop-line.invariant in
    let cut = c.in-Some.ensures in
    let further = lines_of c.in-Some.further.now in
    let w = c.without_return.result.now in
    let at = lines_at c.loop-line.rest.now c.in-Some.line.now c.in-Some.further.now w cut.0 cut.1 c.without_return.ensures in
    let goes = rw c.in-More.is at c.in_ok-play_line.ensures.goes in
    record {
      parts = keeps_then (M.counts c.args.tally.now) (M.counts c.loop-line.tally) (M.counts c.play_line.new.tally) was.parts c.play_line.ensures.parts;
      sink = (c.in_ok-play_line.ensures.counts 0 0).2 ∙ was.sink;
      goes = λ later came n. was.goes later came (comes_lines c.loop-line.session (w ∷ further) (lines_of c.loop-line.rest.now) _ later came at (goes further later came n));
    }

pub returns-in_err-play_line-clause-counts : goal.returns-in_err-play_line-clause-counts
returns-in_err-play_line-clause-counts g c shelf source =
    let p = err_from_is_err_and c.from_residual.result c.from_residual.ensures.1 in
    let K = g.K.Sink in
    let P : ℕ → Type 0 = λ n. RunCounts shelf shelf source source n (K.faults c.play_line.new.sink) (stop_status c.in_err-play_line.field-0.0) in
    rw (p.1, p.2) (subst P c.loop-line.invariant.sink (c.in_err-play_line.ensures.counts shelf source))

pub returns-in_err-play_line-clause-loads : goal.returns-in_err-play_line-clause-loads
returns-in_err-play_line-clause-loads g c =
    let p = err_from_is_err_and c.from_residual.result c.from_residual.ensures.1 in
    let cut = c.in-Some.ensures in
    let further = lines_of c.in-Some.further.now in
    let w = c.without_return.result.now in
    let at = lines_at c.loop-line.rest.now c.in-Some.line.now c.in-Some.further.now w cut.0 cut.1 c.without_return.ensures in
    let stop = c.in_err-play_line.field-0.0 in
    rw (p.1, p.2) (c.loop-line.invariant.goes _ (Err stop) (comes_lines c.loop-line.session (w ∷ further) (lines_of c.loop-line.rest.now) _ _ (Err stop) at (c.in_err-play_line.ensures.goes further)))

pub returns-in-Quit-clause-counts : goal.returns-in-Quit-clause-counts
returns-in-Quit-clause-counts g c shelf source =
    let counts = c.in_ok-play_line.ensures.counts shelf source in
    (refl, refl, counts.2 ∙ c.loop-line.invariant.sink)

pub returns-in-Quit-clause-loads : goal.returns-in-Quit-clause-loads
returns-in-Quit-clause-loads g c =
    let cut = c.in-Some.ensures in
    let further = lines_of c.in-Some.further.now in
    let w = c.without_return.result.now in
    let at = lines_at c.loop-line.rest.now c.in-Some.line.now c.in-Some.further.now w cut.0 cut.1 c.without_return.ensures in
    let goes = rw c.in-Quit.is at c.in_ok-play_line.ensures.goes in
    let came = Ok c.play_line.new.session in
    c.loop-line.invariant.goes _ came (comes_lines c.loop-line.session (w ∷ further) (lines_of c.loop-line.rest.now) _ _ came at (goes further))

pub returns-clause-counts : goal.returns-clause-counts
returns-clause-counts g c shelf source =
    let K = g.K.Sink in
    let P : ℕ → Type 0 = λ n. RunCounts shelf shelf source source n (K.faults c.play_last.new.sink) (status_of c.play_last.result) in
    subst P c.loop-line.invariant.sink (c.play_last.ensures.counts shelf source)

pub returns-clause-loads : goal.returns-clause-loads
returns-clause-loads g c =
    let rest = c.loop-line.rest.now in
    c.loop-line.invariant.goes _ c.play_last.result
    (comes_lines c.loop-line.session (last_line rest) (lines_of rest) _ _ c.play_last.result (sym (lines_last rest c.in_default.ensures)) c.play_last.ensures.loads)
