use Rattle.std.proofs.Common.{◌∙◌}
use Rattle.op_jobs.proofs.Both.{second_is}
use Rattle.op_jobs.proofs.zonal.fresh_book.Goals as goal

pub returns-clause-size : goal.returns-clause-size
returns-clause-size g c = c.in_ok-book-2.ensures.size ∙ (second_is c.both_of.ensures c.requires.both).size

pub returns-clause-looks : goal.returns-clause-looks
returns-clause-looks g c = rw (second_is c.both_of.ensures c.requires.both).size at c.fresh.ensures.looks
