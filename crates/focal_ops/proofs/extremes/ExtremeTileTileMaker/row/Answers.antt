use Rattle.std.proofs.Common.{get_or, pos, sym, arith}
use Rattle.tile_frame.proofs.Framing.{row_as}
use Rattle.focal_ops.specs.Masks.{numbers_round, statistic_round}
use Rattle.focal_ops.specs.Extremes.{extreme}
use Rattle.focal_ops.proofs.Mosts.{extreme_is}
use Rattle.focal_ops.proofs.extremes.ExtremeTileTileMaker.row.Goals as goal

pub returns : goal.returns
returns c =
    let m = c.args.self.now in
    let round = numbers_round m.mask.now.reach m.mask.now.halves m.near.now.cells m.near.now.width c.args.r in
    row_as _ (statistic_round (extreme m.least) m.mask.now.reach m.mask.now.halves m.near.now.cells m.near.now.width c.args.r) c.args.extent c.args.tile c.args.r c.args.made.now c.make_row.new.made c.make_row.result
    (λ k l. sym (extreme_is m.least (round k) (get_or c.words_round-words.result k (pos 0)) (c.words_round-words.ensures k (omega (arith, l, c.place-place.ensures.place.width)))))
    c.make_row.ensures
