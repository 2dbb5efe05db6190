use Rattle.std.proofs.Common.{subst}
use Rattle.live_engine.specs.Drafts.{IsDrafted}
use Rattle.live_engine.proofs.drafts.carry_out.Goals as goal

pub carry-requires-clause-draft : goal.carry-requires-clause-draft
carry-requires-clause-draft g c = λ κs within. (c.requires.drafted.0, subst (IsDrafted c.args.map.now c.requires.drafted.0) c.in-Ok.is c.requires.drafted.1)

pub returns-in-Ok-carry-clause-accepts : goal.returns-in-Ok-carry-clause-accepts
returns-in-Ok-carry-clause-accepts g c = λ e drafted.
    let is = subst (IsDrafted c.args.map.now e) c.in-Ok.is drafted in
    (c.in-Ok-carry.ensures.carried e is, c.in-Ok-carry.ensures.before e is)

pub returns-in-Ok-carry-clause-reads : goal.returns-in-Ok-carry-clause-reads
returns-in-Ok-carry-clause-reads g c = λ e drafted. c.carry.ensures.reads e (subst (IsDrafted c.args.map.now e) c.in-Ok.is drafted)

pub returns-in-Err-carry-clause-accepts : goal.returns-in-Err-carry-clause-accepts
returns-in-Err-carry-clause-accepts g c = λ e drafted. (c.in-Err-carry.ensures.carried e (subst (IsDrafted c.args.map.now e) c.in-Ok.is drafted)).1

pub returns-in-Err-carry-clause-reads : goal.returns-in-Err-carry-clause-reads
returns-in-Err-carry-clause-reads g c = λ e drafted. c.carry.ensures.reads e (subst (IsDrafted c.args.map.now e) c.in-Ok.is drafted)
