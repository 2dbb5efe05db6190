use Rattle.std.proofs.Common.{Err, refl, subst, codes}
use Rattle.undo_shelf.specs.Histories.{IsUndone}
use Rattle.undo_shelf.specs.declared.history.UndoRefusal.{UndoRefusal}
use Rattle.map_session.proofs.UndoSteps.{undo_done, undo_nothing}
use Rattle.map_session.proofs.session.Session.undo.Goals as goal

pub returns-in-Ok-clause-does : goal.returns-in-Ok-clause-does
returns-in-Ok-clause-does g c =
    undo_done c.self.inside.header c.self.inside.place c.self.inside.engine c.undo.new.engine c.self.inside.history c.undo.new.self c.args.self.now c.in-Ok.accepted c.filled.result
    c.self.view_is c.in-Ok.ensures.undone c.filled.ensures

pub returns-in-Err-Nothing-clause-does : goal.returns-in-Err-Nothing-clause-does
returns-in-Err-Nothing-clause-does g c =
    undo_nothing c.self.inside.header c.self.inside.place c.self.inside.engine c.undo.new.engine c.self.inside.history c.undo.new.self c.args.self.now (codes "nothing") c.refused.result
    c.self.view_is
    (subst (λ (r : UndoRefusal). IsUndone c.self.inside.engine c.undo.new.engine c.self.inside.history c.undo.new.self (Err r)) c.in-Err-Nothing.field-0-is c.in-Err-Nothing.ensures.undone)
    refl c.refused.ensures
