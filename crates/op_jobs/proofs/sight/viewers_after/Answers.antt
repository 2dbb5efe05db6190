use Rattle.op_jobs.proofs.Both.{first_is}
use Rattle.op_jobs.proofs.SightDamage.{kept_are, kept_looks, halted}
use Rattle.op_jobs.proofs.sight.viewers_after.Goals as goal

pub of-requires : goal.of-requires
of-requires g c = record { old = kept_are c.both_of.ensures c.requires.both c.args.kept c.requires.right }

pub returns-in-Ok-clause-viewers : goal.returns-in-Ok-clause-viewers
returns-in-Ok-clause-viewers g c = rw (c.both_of.ensures) (rw (first_is c.both_of.ensures c.requires.both).size at c.in-Ok.ensures.answer.0)

pub returns-in-Ok-clause-few : goal.returns-in-Ok-clause-few
returns-in-Ok-clause-few g c = rw (c.both_of.ensures) c.in-Ok.ensures.answer.1

pub returns-in-Ok-clause-looks : goal.returns-in-Ok-clause-looks
returns-in-Ok-clause-looks g c = λ r. kept_looks c.both_of.ensures c.requires.both c.args.kept r c.requires.right c.of.ensures.looks

pub returns-in-Err-Viewers-clause-halt : goal.returns-in-Err-Viewers-clause-halt
returns-in-Err-Viewers-clause-halt g c = λ sight t u.
    let a = rw (c.in-Err-Viewers.field-0-is) at c.in-Err-Viewers.ensures.answer in
    halted c.both_of.ensures c.requires.both sight t u c.in-Err-Viewers.count a.0 a.1

pub returns-in-Err-Viewers-clause-looks : goal.returns-in-Err-Viewers-clause-looks
returns-in-Err-Viewers-clause-looks g c = λ r. kept_looks c.both_of.ensures c.requires.both c.args.kept r c.requires.right c.of.ensures.looks

pub returns-in-Err-NoMemory-clause-looks : goal.returns-in-Err-NoMemory-clause-looks
returns-in-Err-NoMemory-clause-looks g c = λ r. kept_looks c.both_of.ensures c.requires.both c.args.kept r c.requires.right c.of.ensures.looks
