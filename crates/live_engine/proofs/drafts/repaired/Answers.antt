use Rattle.std.proofs.Common.{IfErr, refl}
use Rattle.kept_map.specs.Halts.{IsHaltOf}
use Rattle.kept_map.specs.Repairs.{RisesByRest}
use Rattle.live_engine.proofs.DraftStates.{source_asked, statement_asked, out_asked, asked_for, told, told_repaired}
use Rattle.live_engine.proofs.drafts.repaired.Goals as goal

pub prepare-requires-clause-set_up : goal.prepare-requires-clause-set_up
prepare-requires-clause-set_up g c κs within = asked_for c.args.map.now c.args.draft.now (source_asked c.args.map.now c.requires.kept c.args.draft.now _ _ _ c.in-Source.is _ refl) c.requires.draft

pub returns-in-Source : goal.returns-in-Source
returns-in-Source g c =
    let asked = source_asked c.args.map.now c.requires.kept c.args.draft.now _ _ _ c.in-Source.is _ refl in
    record {
      repaired = told_repaired _ _ asked c.prepare.result c.prepare.ensures.prepared;
      room = c.prepare.ensures.room;
      halted = told _ _ asked (λ e t. IfErr c.prepare.result (IsHaltOf e t)) c.prepare.ensures.halted;
      tally = told _ _ asked (λ e t. RisesByRest c.args.map.now e t (g.M.Tally.counts c.args.tally.now) (g.M.Tally.counts c.prepare.new.tally)) c.prepare.ensures.tally;
    }

pub prepare-requires-in-Statement-clause-set_up : goal.prepare-requires-in-Statement-clause-set_up
prepare-requires-in-Statement-clause-set_up g c κs within =
    asked_for c.args.map.now c.args.draft.now (statement_asked c.args.map.now c.requires.kept c.args.draft.now _ _ _ c.in-Statement.is _ c.as_slice-flats.ensures.value) c.requires.draft

pub returns-in-Statement : goal.returns-in-Statement
returns-in-Statement g c =
    let asked = statement_asked c.args.map.now c.requires.kept c.args.draft.now _ _ _ c.in-Statement.is _ c.as_slice-flats.ensures.value in
    record {
      repaired = told_repaired _ _ asked c.prepare-in-Statement.result c.prepare-in-Statement.ensures.prepared;
      room = c.prepare-in-Statement.ensures.room;
      halted = told _ _ asked (λ e t. IfErr c.prepare-in-Statement.result (IsHaltOf e t)) c.prepare-in-Statement.ensures.halted;
      tally = told _ _ asked (λ e t. RisesByRest c.args.map.now e t (g.M.Tally.counts c.args.tally.now) (g.M.Tally.counts c.prepare-in-Statement.new.tally)) c.prepare-in-Statement.ensures.tally;
    }

pub prepare-requires-in-Out-clause-set_up : goal.prepare-requires-in-Out-clause-set_up
prepare-requires-in-Out-clause-set_up g c κs within = asked_for c.args.map.now c.args.draft.now (out_asked c.args.map.now c.requires.kept c.args.draft.now c.in-Out.is) c.requires.draft

pub returns-in-Out : goal.returns-in-Out
returns-in-Out g c =
    let asked = out_asked c.args.map.now c.requires.kept c.args.draft.now c.in-Out.is in
    record {
      repaired = told_repaired _ _ asked c.prepare-in-Out.result c.prepare-in-Out.ensures.prepared;
      room = c.prepare-in-Out.ensures.room;
      halted = told _ _ asked (λ e t. IfErr c.prepare-in-Out.result (IsHaltOf e t)) c.prepare-in-Out.ensures.halted;
      tally = told _ _ asked (λ e t. RisesByRest c.args.map.now e t (g.M.Tally.counts c.args.tally.now) (g.M.Tally.counts c.prepare-in-Out.new.tally)) c.prepare-in-Out.ensures.tally;
    }
