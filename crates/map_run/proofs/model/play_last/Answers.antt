use Rattle.std.proofs.Common.{◌∷◌, [], length, sym, ap, ◌∙◌, Ok, Err}
use Rattle.std.proofs.lemmas.Bool.{eqb-true, eqb-false}
use Rattle.std.proofs.lemmas.Result.{err_from_is_err_and}
use Rattle.map_machine.specs.Lines.{last_line}
use Rattle.map_run.proofs.KeptLemmas.{no_bytes, last_line-some}
use Rattle.map_run.proofs.ModelLemmas.{model_last, comes_lines}
use Rattle.map_run.proofs.StageLemmas.{comes_nothing}
use Rattle.map_run.proofs.model.play_last.Goals as goal

pub returns-then-is_empty-clause-loads : goal.returns-then-is_empty-clause-loads
returns-then-is_empty-clause-loads g c =
    let bytes = c.args.bytes.now in
    let none = no_bytes bytes (eqb-true (length bytes) 0 (sym c.is_empty.ensures ∙ c.if-is_empty.true)) in
    comes_lines c.args.session [] (last_line bytes) _ _ (Ok c.args.session) (ap last_line (sym none)) (comes_nothing c.args.session _)

pub returns-in_err-play_line-clause-counts : goal.returns-in_err-play_line-clause-counts
returns-in_err-play_line-clause-counts g c shelf source =
    let p = err_from_is_err_and c.from_residual.result c.from_residual.ensures.1 in
    rw (p.1, p.2) (c.in_err-play_line.ensures.counts shelf source)

pub returns-in_err-play_line-clause-loads : goal.returns-in_err-play_line-clause-loads
returns-in_err-play_line-clause-loads g c =
    let p = err_from_is_err_and c.from_residual.result c.from_residual.ensures.1 in
    let bytes = c.args.bytes.now in
    let line = last_line-some bytes (λ none. eqb-false (length bytes) 0 (sym c.is_empty.ensures ∙ c.if-is_empty.false) none) in
    rw (p.1, p.2) (comes_lines c.args.session (bytes ∷ []) (last_line bytes) _ _ (Err c.in_err-play_line.field-0.0) (sym line) (c.in_err-play_line.ensures.goes []))

pub returns-clause-loads : goal.returns-clause-loads
returns-clause-loads g c =
    let bytes = c.args.bytes.now in
    let new = c.play_line.new.session in
    let line = last_line-some bytes (λ none. eqb-false (length bytes) 0 (sym c.is_empty.ensures ∙ c.if-is_empty.false) none) in
    comes_lines c.args.session (bytes ∷ []) (last_line bytes) _ _ (Ok new) (sym line) (model_last c.args.session new bytes _ _ c.in_ok-play_line.field-0 c.in_ok-play_line.ensures.goes)
