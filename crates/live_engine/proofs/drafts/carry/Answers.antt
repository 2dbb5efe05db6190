use Rattle.std.proofs.Common.{refl, sym, subst}
use Rattle.kept_map.specs.Maps.{seen}
use Rattle.live_engine.specs.Accepts.{Refuses}
use Rattle.live_engine.specs.Drafts.{draft_state}
use Rattle.live_engine.proofs.Accepting.{reads_by_rest, halted}
use Rattle.live_engine.proofs.drafts.carry.Goals as goal

pub place-requires-clause-ready : goal.place-requires-clause-ready
place-requires-clause-ready g c = (c.requires.draft.0, c.requires.draft.1, c.in-Ok.ensures.repaired c.requires.draft.0 c.requires.draft.1)

pub returns-in-Ok-copy-clause-carried : goal.returns-in-Ok-copy-clause-carried
returns-in-Ok-copy-clause-carried g c = λ e is. c.place.ensures.accepts e is (c.in-Ok.ensures.repaired e is)

pub returns-in-Ok-copy-clause-reads : goal.returns-in-Ok-copy-clause-reads
returns-in-Ok-copy-clause-reads g c = λ e is. reads_by_rest c.args.map.now e (draft_state (seen c.args.map.now) c.args.draft) _ _ (c.repaired.ensures.tally e is)

pub returns-in-Err-copy-clause-reads : goal.returns-in-Err-copy-clause-reads
returns-in-Err-copy-clause-reads g c = λ e is. reads_by_rest c.args.map.now e (draft_state (seen c.args.map.now) c.args.draft) _ _ (c.repaired.ensures.tally e is)

pub returns-in-Err-clause-carried : goal.returns-in-Err-clause-carried
returns-in-Err-clause-carried g c = λ e is.
    (refl, subst (Refuses (seen c.args.map.now) (seen c.args.map.now) e) (sym c.refused-refusal.ensures) (halted _ _ e is.attempt c.in-Err.halt (c.in-Err.ensures.halted e is)))

pub returns-in-Err-clause-reads : goal.returns-in-Err-clause-reads
returns-in-Err-clause-reads g c = λ e is. reads_by_rest c.args.map.now e (draft_state (seen c.args.map.now) c.args.draft) _ _ (c.repaired.ensures.tally e is)
