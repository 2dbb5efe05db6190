use Rattle.std.proofs.Common.{◌≡◌, ◌+◌, ◌<◌, ap, length, get_or, pos, ◌∙◌, arith, rules, FitsSigned, to_z, of_z}
use Rattle.std.specs.Int.{int_max}
use Rattle.std.proofs.lemmas.Int.{to_z-of_z}
use Rattle.map_nums.specs.Widths.{value_width}
use Rattle.focal_ops.proofs.Joins.{joined_more, kept_more}
use Rattle.focal_ops.proofs.tables.fill_next.Goals as goal

pub loop-m-preserved : goal.loop-m-preserved
loop-m-preserved c =
    let here = c.args.here in
    let count = c.args.count in
    let m = c.loop-m.m in
    let i = c.loop-m.invariant in
    let tables = c.loop-m.tables in
    let a = get_or tables (here + m) (pos 0) in
    let b = get_or tables (here + (m + c.args.width)) (pos 0) in
    let fits : FitsSigned value_width c.max.result = search rules in
    let same : to_z value_width (of_z value_width c.max.result) ≡ c.max.result = to_z-of_z value_width c.max.result fits in
    let fits_a : FitsSigned value_width a = search rules in
    let fits_b : FitsSigned value_width b = search rules in
    let word : c.max.result ≡ int_max a b = c.max.ensures.value ∙ ap (λ z. int_max z (to_z value_width (of_z value_width b))) (to_z-of_z value_width a fits_a) ∙ ap (int_max a) (to_z-of_z value_width b fits_b) in
    let low : m + c.args.width < count = omega (arith, c.requires.narrow, c.requires.some, c.loop-m-test.true) in
    let room : here + count + m < length tables = omega (arith, low, c.requires.room, c.loop-m.auto.tables) in
    rw (same)
    record {
      joined = joined_more c.args.tables.now tables here count m c.args.width c.max.result i.joined i.kept room low word;
      kept = kept_more c.args.tables.now tables (here + count) (here + count + m) c.max.result i.kept (omega arith);
    }
