use Rattle.std.proofs.Common.{◌<◌, List, ℤ, arith, refl, sym, subst}
use Rattle.std.proofs.lemmas.Result.{err_from_is_err_and}
use Rattle.map_nums.specs.Stats.{statistic_of}
use Rattle.map_nums.specs.Exact.{IsExact}
use Rattle.layer_tiles.specs.Tiles.{tile_height, tile_width}
use Rattle.tile_frame.proofs.Framing.{row_none, row_put, row_refused}
use Rattle.focal_ops.specs.Masks.{statistic_round}
use Rattle.focal_ops.proofs.numbers.numbers_row.Goals as goal
use Rattle.focal_ops.proofs.numbers.numbers_row.Goals.{After-statistic_by_kinds-answer}

within : (c : After-statistic_by_kinds-answer) → c.loop-c.c < tile_width c.args.extent c.args.tile
within c = omega (arith, c.place-place.ensures.place.width)

answers : (c : After-statistic_by_kinds-answer) → IsExact (statistic_round c.args.maker.now.stat c.args.maker.now.mask.now.reach c.args.maker.now.mask.now.halves c.args.maker.now.near.now.cells c.args.maker.now.near.now.width c.args.r c.loop-c.c) c.statistic_by_kinds-answer.result
answers c = subst (λ (xs : List ℤ). IsExact (statistic_of c.args.maker.now.stat xs) c.statistic_by_kinds-answer.result) c.collect-count.ensures.numbers c.statistic_by_kinds-answer.ensures

pub loop-c-init : goal.loop-c-init
loop-c-init c = row_none (statistic_round c.args.maker.now.stat c.args.maker.now.mask.now.reach c.args.maker.now.mask.now.halves c.args.maker.now.near.now.cells c.args.maker.now.near.now.width c.args.r) (tile_width c.args.extent c.args.tile) c.args.r c.args.made.now

pub loop-c-preserved : goal.loop-c-preserved
loop-c-preserved c =
    let d = (goal.at.loop-c-preserved c).After-statistic_by_kinds-answer in
    row_put (statistic_round c.args.maker.now.stat c.args.maker.now.mask.now.reach c.args.maker.now.mask.now.halves c.args.maker.now.near.now.cells c.args.maker.now.near.now.width c.args.r) (tile_width c.args.extent c.args.tile) (tile_height c.args.extent c.args.tile) c.args.r c.loop-c.c _ c.args.made.now c.loop-c.made c.put.new.made c.statistic_by_kinds-answer.result
    c.loop-c.invariant c.requires.size.width c.requires.size.count c.requires.row (within d) (answers d) c.put.ensures.placed (sym c.in_ok-put.ensures.result)

pub returns-in_err-put : goal.returns-in_err-put
returns-in_err-put c =
    let p = err_from_is_err_and c.from_residual.result c.from_residual.ensures.1 in
    let d = (goal.at.returns-in_err-put c).After-statistic_by_kinds-answer in
    let place = c.place-place.ensures.place in
    rw (p.1, p.2)
    (row_refused (statistic_round c.args.maker.now.stat c.args.maker.now.mask.now.reach c.args.maker.now.mask.now.halves c.args.maker.now.near.now.cells c.args.maker.now.near.now.width c.args.r) c.args.extent c.args.tile c.args.r c.loop-c.c _ c.args.made.now c.loop-c.made c.statistic_by_kinds-answer.result c.in_err-put.field-0.0
    c.loop-c.invariant (within d) (rw (place.top, place.left, c.columns.ensures.columns) refl) (answers d) (sym c.in_err-put.ensures.result))
