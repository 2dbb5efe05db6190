use Rattle.std.proofs.Common.{refl, Ok, Err}
use Rattle.std.proofs.lemmas.Result.{err_from_is_err_and}
use Rattle.map_machine.specs.SampleLines.{sample_lines}
use Rattle.map_run.specs.Stops.{stop_status}
use Rattle.map_run.specs.declared.status.Status.TheVariants.{Done}
use Rattle.map_run.proofs.CountLemmas.{counts_then}
use Rattle.map_run.proofs.Playing.{counts_for}
use Rattle.map_run.proofs.SampleLemmas.{sample_stopped, sample_done, sample_halted}
use Rattle.map_run.proofs.sample.run_sample.Goals as goal

pub returns-in_err-session-clause-counts : goal.returns-in_err-session-clause-counts
returns-in_err-session-clause-counts g c shelf source =
    let p = err_from_is_err_and c.from_residual.result c.from_residual.ensures.1 in
    rw (p.1, p.2) (c.in_err-session.ensures.counts shelf source)

pub returns-in_err-session-clause-sampled : goal.returns-in_err-session-clause-sampled
returns-in_err-session-clause-sampled g c =
    let p = err_from_is_err_and c.from_residual.result c.from_residual.ensures.1 in
    rw (p.1, p.2) (sample_stopped c.args.side.count _ _ c.in_err-session.field-0.0 c.in_err-session.ensures.counts c.in_err-session.ensures.loads)

pub returns-in_err-play_sample-clause-counts : goal.returns-in_err-play_sample-clause-counts
returns-in_err-play_sample-clause-counts g c shelf source =
    let p = err_from_is_err_and c.from_residual-in_err-play_sample.result c.from_residual-in_err-play_sample.ensures.1 in
    let stop = c.in_err-play_sample.field-0.0 in
    rw (p.1, p.2) (counts_then _ _ _ _ _ _ _ _ _ (stop_status stop) (c.in_ok-session.ensures.counts shelf source)
    (counts_for c.in_ok-session.session c.play_sample.new.session (sample_lines c.args.side.count) _ _ shelf source source (Err stop) refl c.in_err-play_sample.ensures.answered))

pub returns-in_err-play_sample-clause-sampled : goal.returns-in_err-play_sample-clause-sampled
returns-in_err-play_sample-clause-sampled g c =
    let p = err_from_is_err_and c.from_residual-in_err-play_sample.result c.from_residual-in_err-play_sample.ensures.1 in
    rw (p.1, p.2) (sample_halted c.args.side.count c.in_ok-session.session c.play_sample.new.session _ _ _ c.in_err-play_sample.field-0.0 c.in_ok-session.ensures.loads c.in_err-play_sample.ensures.answered)

pub returns-clause-counts : goal.returns-clause-counts
returns-clause-counts g c shelf source =
    counts_then _ _ _ _ _ _ _ _ _ Done (c.in_ok-session.ensures.counts shelf source)
    (counts_for c.in_ok-session.session c.play_sample.new.session (sample_lines c.args.side.count) _ _ shelf source source (Ok c.in_ok-play_sample.field-0) refl c.in_ok-play_sample.ensures.answered)

pub returns-clause-sampled : goal.returns-clause-sampled
returns-clause-sampled g c =
    sample_done c.args.side.count c.in_ok-session.session c.play_sample.new.session _ _ _ c.in_ok-play_sample.field-0 c.in_ok-session.ensures.loads c.in_ok-play_sample.ensures.answered
