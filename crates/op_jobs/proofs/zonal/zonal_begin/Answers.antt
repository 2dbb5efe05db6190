use Rattle.std.proofs.Common.{ap, arith}
use Rattle.std.specs.Prelude.{is_some}
use Rattle.std.proofs.lemmas.List.FromFn.{length-range_with_len}
use Rattle.map_nums.specs.Tiles.{tiles_in}
use Rattle.op_jobs.specs.Zonal.{IsRightBook}
use Rattle.op_jobs.proofs.ZonalBook.{list_begun, looks_begun}
use Rattle.op_jobs.proofs.zonal.zonal_begin.Goals as goal

pub returns-in-None-clause-damage : goal.returns-in-None-clause-damage
returns-in-None-clause-damage g c = list_begun c.args.stat c.args.extent c.args.operands.now (is_some c.args.kept) _ (ap is_some c.in-None.is) c.first_book.result (λ r. r.1.items) c.first_book.ensures.damage

pub returns-in-None-clause-looks : goal.returns-in-None-clause-looks
returns-in-None-clause-looks g c = looks_begun c.args.stat c.args.extent c.args.operands.now (is_some c.args.kept) _ (ap is_some c.in-None.is) c.first_book.ensures.looks (omega (arith, length-range_with_len 0 (tiles_in c.args.extent)))

pub returns-in-Some-clause-damage : goal.returns-in-Some-clause-damage
returns-in-Some-clause-damage g c =
    let right : IsRightBook c.args.stat c.args.extent c.args.operands.now c.in-Some.book.now = rw (c.in-Some.is) at c.requires.right in
    list_begun c.args.stat c.args.extent c.args.operands.now (is_some c.args.kept) _ (ap is_some c.in-Some.is) c.changed_book.result (λ r. r.1.items) (rw right.size at c.changed_book.ensures.damage)

pub returns-in-Some-clause-looks : goal.returns-in-Some-clause-looks
returns-in-Some-clause-looks g c =
    let right : IsRightBook c.args.stat c.args.extent c.args.operands.now c.in-Some.book.now = rw (c.in-Some.is) at c.requires.right in
    looks_begun c.args.stat c.args.extent c.args.operands.now (is_some c.args.kept) _ (ap is_some c.in-Some.is) (rw right.size at c.changed_book.ensures.looks) (omega arith)
