use Rattle.std.proofs.Common.{◌≡◌, ◌<◌, Some, None, take, length, map, get_or, sym, refl, ◌∙◌, rules, arith, FitsSigned, to_z, of_z, subst, Bor}
use Rattle.std.proofs.lemmas.List.{take_more_set, length-set, length-map, get_or_default}
use Rattle.std.proofs.lemmas.Int.{to_z-of_z}
use Rattle.map_nums.specs.Widths.{value_width}
use Rattle.map_nums.specs.Grids.{Cells}
use Rattle.map_defs.specs.Local.{all_numbers}
use Rattle.local_ops.proofs.Numbers.{all_numbers-push, all_numbers-null, takes_some}
use Rattle.local_ops.proofs.LentRows.{column-more, column-get}
use Rattle.local_ops.proofs.rows.value_of_column.Goals as goal

pub returns-in-None : goal.returns-in-None
returns-in-None c =
    let at = λ (row : Bor Cells). get_or row.now c.args.c None in
    let row = c.index-rows-k.result in
    let k = c.loop-k.k in
    let within : c.args.c < length row.now = subst (λ (r : Bor Cells). c.args.c < length r.now) (sym c.index-rows-k.is) (c.requires.within k row c.loop-k-test.true) in
    let cell = get_or_default row.now c.args.c None c.index-row-c.result within ∙ sym c.in-None.ensures.value in
    let there = column-get at c.args.rows.now k row None c.loop-k-test.true c.index-rows-k.is cell in
    let null : all_numbers (map at c.args.rows.now) ≡ None =
    all_numbers-null (map at c.args.rows.now) k None (rw (length-map c.args.rows.now at) c.loop-k-test.true) there in
    rw (null) (refl, refl)

pub loop-k-preserved : goal.loop-k-preserved
loop-k-preserved c =
    let at = λ (row : Bor Cells). get_or row.now c.args.c None in
    let row = c.index-rows-k.result in
    let k = c.loop-k.k in
    let value = c.in-Some.value in
    let fits : FitsSigned value_width value = search rules in
    let same : to_z value_width (of_z value_width value) ≡ value = to_z-of_z value_width value fits in
    let within : c.args.c < length row.now = subst (λ (r : Bor Cells). c.args.c < length r.now) (sym c.index-rows-k.is) (c.requires.within k row c.loop-k-test.true) in
    let cell = get_or_default row.now c.args.c None c.index-row-c.result within ∙ sym c.in-Some.ensures.value in
    let most = (takes_some _ _ c.requires.takes).1 in
    record {
      room = length-set c.loop-k.values k (to_z value_width (of_z value_width value)) ∙ c.loop-k.invariant.room;
      numbers =
          rw (same, column-more at c.args.rows.now k row (Some value) c.loop-k-test.true c.index-rows-k.is cell, take_more_set c.loop-k.values k value (omega (arith, c.loop-k.invariant.room, most, c.loop-k-test.true)))
          (all_numbers-push (map at (take k c.args.rows.now)) (take k c.loop-k.values) value c.loop-k.invariant.numbers);
    }
