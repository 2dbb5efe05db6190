use Rattle.std.proofs.Common.{◌≡◌, ◌+◌, ◌<◌, Some, None, take, length, map, get_or, sym, subst, ◌∙◌, rules, arith, FitsSigned, to_z, of_z, Bor}
use Rattle.std.proofs.lemmas.List.{take_more_set, length-set, get_or_default}
use Rattle.std.proofs.lemmas.Int.{to_z-of_z}
use Rattle.map_nums.specs.Widths.{value_width}
use Rattle.map_nums.specs.Grids.{Cells}
use Rattle.local_ops.proofs.Numbers.{numbers_in-some}
use Rattle.local_ops.proofs.LentRows.{column-more}
use Rattle.local_ops.proofs.rows.statistic_of_column.Goals as goal

pub loop-row-preserved : goal.loop-row-preserved
loop-row-preserved c =
    let at = λ (row : Bor Cells). get_or row.now c.args.c None in
    let rows = c.args.rows.now in
    let row = c.row-item.result in
    let k = c.loop-row.row-index in
    let i = c.loop-row.invariant in
    let value = c.in-Some.value in
    let fits : FitsSigned value_width value = search rules in
    let same : to_z value_width (of_z value_width value) ≡ value = to_z-of_z value_width value fits in
    let within : c.args.c < length row.now = subst (λ (r : Bor Cells). c.args.c < length r.now) (sym c.row-item.is) (c.requires.within k row c.loop-row-test.true) in
    let cell = get_or_default row.now c.args.c None c.index-row-c.result within ∙ sym c.in-Some.ensures.value in
    let room : c.loop-row.count < length c.loop-row.values = omega (arith, i.room, i.within, c.requires.most, c.loop-row-test.true) in
    let more = column-more at rows k row (Some value) c.loop-row-test.true c.row-item.is cell in
    rw (same)
    record {
      room = length-set c.loop-row.values c.loop-row.count value ∙ i.room;
      within = omega (arith, i.within);
      numbers = take_more_set c.loop-row.values c.loop-row.count value room ∙ numbers_in-some (map at (take k rows)) (map at (take (k + 1) rows)) (take c.loop-row.count c.loop-row.values) value more i.numbers;
    }
