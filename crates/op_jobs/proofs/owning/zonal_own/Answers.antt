use Rattle.std.proofs.Common.{arith}
use Rattle.map_waves.specs.Keeping.{kept_now, was_of}
use Rattle.op_jobs.proofs.Kept.{right_book, book_there}
use Rattle.op_jobs.proofs.Owned.{zonal_jobs, looks_within}
use Rattle.op_jobs.proofs.owning.zonal_own.Goals as goal

pub zonal_begin-requires-clause-right : goal.zonal_begin-requires-clause-right
zonal_begin-requires-clause-right g c =
    let given = c.requires.edited in
    right_book c.args.extent c.args.stat given.0 given.1 c.args.operands.now (kept_now c.args.kept) c.book_of.result c.book_of.ensures given.2.right

pub returns-in-Ok-clause-answer : goal.returns-in-Ok-clause-answer
returns-in-Ok-clause-answer g c = λ t u.
    let was = was_of (kept_now c.args.kept) in
    let there = book_there (kept_now c.args.kept) c.book_of.result c.book_of.ensures c.requires.edited.2 in
    zonal_jobs c.args.extent c.args.operands.now was c.in-Ok.tiles t u c.in-Ok.book c.requires.edited.2 c.in-Ok.ensures.size c.in-Ok.ensures.book (c.in-Ok.ensures.damage t u was there)

pub returns-in-Ok-clause-looks : goal.returns-in-Ok-clause-looks
returns-in-Ok-clause-looks g c = λ t u. looks_within (c.zonal_begin.ensures.looks t u (was_of (kept_now c.args.kept)) (book_there (kept_now c.args.kept) c.book_of.result c.book_of.ensures c.requires.edited.2)) (omega arith)

pub returns-in-Err-clause-looks : goal.returns-in-Err-clause-looks
returns-in-Err-clause-looks g c = λ t u. looks_within (c.zonal_begin.ensures.looks t u (was_of (kept_now c.args.kept)) (book_there (kept_now c.args.kept) c.book_of.result c.book_of.ensures c.requires.edited.2)) (omega arith)
