use Rattle.std.proofs.Common.{◌≡◌, ◌≢◌, ℤ, Option, Result, Ok, Err, refl, IsTrue}
use Rattle.std.proofs.lemmas.Int.{to_z-of_z}
use Rattle.map_nums.specs.Widths.{value_width}
use Rattle.map_nums.specs.declared.StatRefusal.{StatRefusal}
use Rattle.map_nums.specs.declared.StatRefusal.TheVariants.{Wide, NoMemory}
use Rattle.map_nums.specs.Answers.{is_wide, IsAnswer}
use Rattle.op_jobs.proofs.ZonalBook.{told_value, told_wide}
use Rattle.op_jobs.proofs.zonal_kernel.book_stat.Goals as goal

pub returns-in-Ok : goal.returns-in-Ok
returns-in-Ok c =
    let book = c.requires.counts in
    rw (to_z-of_z value_width c.args.zone c.ranges.zone) at (told_value c.args.stat c.args.book.now book.values book.zones _ c.in-Ok.value book.is (c.in-Ok.ensures.statistic book.values book.zones book.is))

-- a statistic wants no memory
refused : (s : Option ℤ) (r : Result (Option ℤ) StatRefusal) (e : StatRefusal) → r ≡ Err e → IsAnswer s r → r ≢ Err NoMemory → IsTrue (is_wide s)
refused s (Ok v) e is answer other = absurd cc
refused s (Err Wide) e is answer other = answer
refused s (Err NoMemory) e is answer other = absurd (other refl)

pub returns-in-Err : goal.returns-in-Err
returns-in-Err c =
    let book = c.requires.counts in
    let wide = refused _ c.stat.result c.in-Err.field-0 c.in-Err.is (c.stat.ensures.statistic book.values book.zones book.is) c.stat.ensures.memory in
    rw (to_z-of_z value_width c.args.zone c.ranges.zone) at (told_wide c.args.stat c.args.book.now book.values book.zones _ book.is wide)
