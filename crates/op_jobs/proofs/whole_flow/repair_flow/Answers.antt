use Rattle.std.specs.Option.{option_copied}
use Rattle.std.proofs.lemmas.Result.{err_from_is_err_and}
use Rattle.tile_work.specs.Working.{before_of}
use Rattle.op_jobs.proofs.WholeLayers.{flow_made, flow_refused, flow_rises}
use Rattle.op_jobs.proofs.whole_flow.repair_flow.Goals as goal

pub returns-in_err-repair-clause-answer : goal.returns-in_err-repair-clause-answer
returns-in_err-repair-clause-answer g c = λ t u.
    let p = err_from_is_err_and c.from_residual.result c.from_residual.ensures.1 in
    rw (p.1, p.2) (flow_refused c.args.surface.now c.args.weights.now t u c.extent-surface.ensures.size (before_of (option_copied c.args.old)) c.in_err-repair.field-0.0 c.in_err-repair.ensures.refusal)

pub returns-in_err-repair-clause-tally : goal.returns-in_err-repair-clause-tally
returns-in_err-repair-clause-tally g c = λ t u.
    flow_rises c.args.surface.now c.args.weights.now t u c.extent-surface.ensures.size (before_of (option_copied c.args.old)) _ _ c.requires.surface c.requires.weights (c.flow_repair.ensures.tally t u)

pub returns-clause-answer : goal.returns-clause-answer
returns-clause-answer g c = λ t u.
    flow_made c.args.surface.now c.args.weights.now t u c.extent-surface.ensures.size (before_of (option_copied c.args.old)) c.in_ok-repair.repair.patch c.in_ok-repair.repair.worked c.extent-patch.ensures.patch c.in_ok-repair.ensures.repair

pub returns-clause-tally : goal.returns-clause-tally
returns-clause-tally g c = λ t u.
    flow_rises c.args.surface.now c.args.weights.now t u c.extent-surface.ensures.size (before_of (option_copied c.args.old)) _ _ c.requires.surface c.requires.weights (c.flow_repair.ensures.tally t u)
