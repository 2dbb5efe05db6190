use Rattle.kept_map.specs.Maps.{grid_of}
use Rattle.map_session.proofs.EditSteps.{load_turned}
use Rattle.map_session.proofs.session.Session.load_layer.Goals as goal
use Rattle.map_session.proofs.session.Session.load_layer.Goals.{in-Unknown-2, in-Derived-2, in-Exists-2, in-Cycle-2, in-Viewers-2, in-Overflow-2, in-NoProcedure-2, in-Size-2}

pub returns-clause-loads : goal.returns-clause-loads
returns-clause-loads g c =
    let turned = load_turned c.self.inside.header c.self.inside.place c.self.inside.engine c.edit_by.new.self c.self.inside.history c.args.self.now c.args.name c.in_ok-copy.field-0 (grid_of c.args.layer) c.in-Err.refusal
    c.in_ok-cause-in-Err.cause.items c.deref.result.now c.load_refused.result c.self.view_is c.in_ok-copy.ensures c.in-Err.ensures.accepts c.in_ok-cause-in-Err.ensures c.deref.ensures.value c.load_refused.ensures in
    elim c.match-refusal-2.branch [
      | in-Unknown-2 w ↦ rw (w.self-is) turned
      | in-Derived-2 w ↦ rw (w.self-is) turned
      | in-Exists-2 w ↦ rw (w.self-is) turned
      | in-Cycle-2 w ↦ rw (w.self-is) turned
      | in-Viewers-2 w ↦ rw (w.self-is) turned
      | in-Overflow-2 w ↦ rw (w.self-is) turned
      | in-NoProcedure-2 w ↦ rw (w.self-is) turned
      | in-Size-2 w ↦ rw (w.self-is) turned
    ]
