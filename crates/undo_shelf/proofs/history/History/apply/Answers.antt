use Rattle.std.proofs.Common.{List, sym, subst}
use Rattle.std.proofs.lemmas.Result.{err_from_is_err_and}
use Rattle.map_edits.specs.Touches.{touch_of}
use Rattle.live_engine.specs.Accepts.{edit_of}
use Rattle.live_engine.specs.declared.inverses.Inverse.{Inverse}
use Rattle.live_engine.proofs.Accepting.{refused_stays}
use Rattle.undo_shelf.proofs.Chains.{IsKeptIn, kept_front, chained_same}
use Rattle.undo_shelf.proofs.history.History.apply.Given.{Over}
use Rattle.undo_shelf.proofs.history.History.apply.Goals as goal
use Rattle.undo_shelf.proofs.history.History.apply.Goals.{After-keep}

kept : (g : Over) (c : After-keep g) → IsKeptIn c.args.engine.now c.edit_kept.new.self (touch_of (edit_of c.args.cmd)) c.args.self.now c.keep.new.self
kept g c =
    subst (λ (is : List Inverse). IsKeptIn c.args.engine.now c.edit_kept.new.self (touch_of (edit_of c.args.cmd)) c.args.self.now is) (sym c.keep.ensures)
    (kept_front c.args.engine.now c.edit_kept.new.self (touch_of (edit_of c.args.cmd)) c.in_ok-accepted.inverse c.args.self.now c.in_ok-accepted.ensures.accepts.1 c.requires.chained)

pub returns-clause-pasts : goal.returns-clause-pasts
returns-clause-pasts g c = (kept g c).pasts

pub returns-clause-chained : goal.returns-clause-chained
returns-clause-chained g c = (kept g c).chained

pub returns-in_err-accepted-clause-accepts : goal.returns-in_err-accepted-clause-accepts
returns-in_err-accepted-clause-accepts g c =
    let p = err_from_is_err_and c.from_residual.result c.from_residual.ensures.1 in
    rw (p.1, p.2) c.in_err-accepted.ensures.accepts

pub returns-in_err-accepted-clause-chained : goal.returns-in_err-accepted-clause-chained
returns-in_err-accepted-clause-chained g c =
    chained_same c.args.engine.now c.edit_kept.new.self c.args.self.now (refused_stays c.args.engine.now c.edit_kept.new.self (edit_of c.args.cmd) c.in_err-accepted.field-0.0 c.in_err-accepted.ensures.accepts) c.requires.chained
