use Rattle.std.proofs.Common.{Ok, Err, sym, ◌∙◌, subst}
use Rattle.std.proofs.lemmas.Result.{err_from_is_err_and}
use Rattle.statement_parser.specs.Views.{op_view}
use Rattle.map_waves.specs.Jobs.{was_in, aside_in}
use Rattle.map_waves.specs.declared.keeping.Made.{Made}
use Rattle.op_jobs.specs.Pieces.{IsWholeMade, IsWholeRepaired}
use Rattle.op_jobs.specs.declared.beside.Beside.{Beside}
use Rattle.op_jobs.proofs.Kept.{whole_refusal, touched_size, alone_repaired}
use Rattle.op_jobs.proofs.WholeJobs.{alone_right, alone_answer, alone_tally}
use Rattle.op_jobs.proofs.whole_jobs.do_alone.Goals as goal
use Rattle.op_jobs.proofs.whole_jobs.do_alone.Goals.{In_ok-patch}
use Rattle.op_jobs.proofs.whole_jobs.do_alone.Given.{Over}

pub repair_whole-requires : goal.repair_whole-requires
repair_whole-requires g c = record { right = alone_right c.args.jobs.now c.args.job.now c.requires.sound c.requires.own c.args.lone c.requires.repair _ c.jobs.view_is _ c.layer_of-old.ensures }

pub returns-in_err-patch-clause-piece : goal.returns-in_err-patch-clause-piece
returns-in_err-patch-clause-piece g c =
    let j = c.args.jobs.now in
    let p = err_from_is_err_and c.from_residual.result c.from_residual.ensures.1 in
    let e = c.in_err-patch.field-0.0 in
    let refused = alone_answer j c.args.job.now c.requires.sound c.requires.own c.args.lone c.requires.repair _ c.jobs.view_is _ c.layer_of-old.ensures (Err e) c.in_err-patch.ensures.answer in
    rw (p.1, p.2) (whole_refusal j.size (op_view j.op) (was_in j) j.operands e refused (aside_in j))

-- the patch and the work, of the statement
made : (g : Over) (c : In_ok-patch g) → let j = c.args.jobs.now in IsWholeMade j.size (op_view j.op) (was_in j) j.operands c.in_ok-patch.patch c.in_ok-patch.worked
made g c = alone_answer c.args.jobs.now c.args.job.now c.requires.sound c.requires.own c.args.lone c.requires.repair _ c.jobs.view_is _ c.layer_of-old.ensures (Ok (c.in_ok-patch.patch, c.in_ok-patch.worked)) c.in_ok-patch.ensures.answer

pub made_alone-requires : goal.made_alone-requires
made_alone-requires g c = touched_size c.args.jobs.now c.args.job.now c.requires.sound c.requires.own ∙ sym (made g (goal.at.made_alone-requires g c).In_ok-patch).size

pub returns-clause-piece : goal.returns-clause-piece
returns-clause-piece g c =
    let j = c.args.jobs.now in
    let repaired = alone_repaired j c.args.job.now c.requires.sound c.requires.own c.args.lone c.in_ok-patch.patch c.in_ok-patch.worked c.requires.repair (made g (goal.at.returns-clause-piece g c).In_ok-patch) in
    subst (λ (m : Made Beside). IsWholeRepaired j.size (op_view j.op) (was_in j) (aside_in j) j.operands m) (sym c.made_alone.ensures) repaired

pub returns-in_err-patch-clause-tally : goal.returns-in_err-patch-clause-tally
returns-in_err-patch-clause-tally g c = alone_tally c.args.jobs.now c.args.job.now c.requires.sound c.requires.own c.args.lone c.requires.repair _ c.jobs.view_is _ c.layer_of-old.ensures _ _ c.repair_whole.ensures.tally

pub returns-clause-tally : goal.returns-clause-tally
returns-clause-tally g c = alone_tally c.args.jobs.now c.args.job.now c.requires.sound c.requires.own c.args.lone c.requires.repair _ c.jobs.view_is _ c.layer_of-old.ensures _ _ c.repair_whole.ensures.tally
