use Rattle.std.proofs.Common.{sym, ◌∙◌, ap, arith}
use Rattle.op_jobs.specs.Owning.{count_of}
use Rattle.op_jobs.specs.Sound.{StatementJobs}
use Rattle.op_jobs.proofs.Gathering.{piece_of}
use Rattle.op_jobs.proofs.Kept.{piece_whole}
use Rattle.op_jobs.proofs.Once.{sound_of}
use Rattle.op_jobs.proofs.statements.StatementsMaker.do_job.Goals as goal

pub do_tile-requires-clause-sound : goal.do_tile-requires-clause-sound
do_tile-requires-clause-sound g c = sound_of c.args.jobs.now c.requires.jobs.is_sound

pub do_tile-requires-clause-below : goal.do_tile-requires-clause-below
do_tile-requires-clause-below g c =
    let own = ap (λ (j : StatementJobs). j.own) (sym c.jobs.view_is) ∙ c.in-Tiles.is in
    omega (arith, c.requires.below, (sound_of c.args.jobs.now c.requires.jobs.is_sound).count_is, ap count_of own)

pub do_whole-requires-clause-sound : goal.do_whole-requires-clause-sound
do_whole-requires-clause-sound g c = sound_of c.args.jobs.now c.requires.jobs.is_sound

pub returns-in-Tiles-clause-piece : goal.returns-in-Tiles-clause-piece
returns-in-Tiles-clause-piece g c = piece_of c.args.jobs.now c.in-Tiles.own c.args.job c.do_tile.result (ap (λ (j : StatementJobs). j.own) (sym c.jobs.view_is) ∙ c.in-Tiles.is) c.do_tile.ensures.piece

pub returns-in-Whole-clause-piece : goal.returns-in-Whole-clause-piece
returns-in-Whole-clause-piece g c = piece_whole c.args.jobs.now c.in-Whole.job c.args.job c.do_whole.result (ap (λ (j : StatementJobs). j.own) (sym c.jobs.view_is) ∙ c.in-Whole.is) c.do_whole.ensures.piece
