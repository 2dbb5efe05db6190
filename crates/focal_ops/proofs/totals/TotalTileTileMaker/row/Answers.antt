use Rattle.std.proofs.Common.{◌≡◌, ℕ, ◌<◌, get_or, ℤ, pos, ◌≤ℤ◌, refl, sym, ◌∙◌, ap, arith}
use Rattle.std.proofs.lemmas.Int.{ints}
use Rattle.map_nums.specs.Stats.{total_of}
use Rattle.layer_tiles.specs.Tiles.{tile_width}
use Rattle.tile_frame.proofs.Framing.{row_as}
use Rattle.focal_ops.specs.Masks.{numbers_round, statistic_round}
use Rattle.focal_ops.specs.Totals.{count_of, of_totals, summed}
use Rattle.focal_ops.proofs.FirstCells.{rises_are, total_adds, count_adds, totals_are}
use Rattle.focal_ops.proofs.totals.TotalTileTileMaker.row.Goals as goal
use Rattle.focal_ops.proofs.totals.TotalTileTileMaker.row.Goals.{After-totals_round-counts}

sum_is : (c : After-totals_round-counts) (k : ℕ) → k < tile_width c.args.extent c.args.tile → get_or c.totals_round-sums.result k (pos 0) ≡ total_of (numbers_round c.args.self.now.mask.now.reach c.args.self.now.mask.now.halves c.args.self.now.near.now.cells c.args.self.now.near.now.width c.args.r k)
sum_is c k l =
    let m = c.args.self.now in
    c.totals_round-sums.ensures k (omega (arith, l, c.place-place.ensures.place.width))
    ∙ rises_are total_of total_adds refl c.args.extent c.args.tile m.mask.now.reach m.mask.now.halves m.near.now m.sums.now c.args.r k c.requires.makes.0 c.requires.makes.1 c.requires.makes.2.sums_are c.requires.row l

count_is : (c : After-totals_round-counts) (k : ℕ) → k < tile_width c.args.extent c.args.tile → get_or c.totals_round-counts.result k (pos 0) ≡ count_of (numbers_round c.args.self.now.mask.now.reach c.args.self.now.mask.now.halves c.args.self.now.near.now.cells c.args.self.now.near.now.width c.args.r k)
count_is c k l =
    let m = c.args.self.now in
    c.totals_round-counts.ensures k (omega (arith, l, c.place-place.ensures.place.width))
    ∙ rises_are count_of count_adds refl c.args.extent c.args.tile m.mask.now.reach m.mask.now.halves m.near.now m.counts.now c.args.r k c.requires.makes.0 c.requires.makes.1 c.requires.makes.2.counts_are c.requires.row l

some_of : (z : ℤ) (n : ℕ) → z ≡ pos n → pos 0 ≤ℤ z
some_of z n e = omega (arith, ints, e)

pub make_row-requires-clause-columns : goal.make_row-requires-clause-columns
make_row-requires-clause-columns c = λ k l.
    let d = (goal.at.make_row-requires-clause-columns c).After-totals_round-counts in (
      omega (arith, l, c.place-place.ensures.place.width, c.place-place.ensures.placed.most_columns),
      some_of (get_or c.totals_round-counts.result k (pos 0)) _ (count_is d k l),
    )

pub returns : goal.returns
returns c =
    let m = c.args.self.now in
    let d = (goal.at.returns c).After-totals_round-counts in
    let round = numbers_round m.mask.now.reach m.mask.now.halves m.near.now.cells m.near.now.width c.args.r in
    row_as _ (statistic_round (summed m.mean) m.mask.now.reach m.mask.now.halves m.near.now.cells m.near.now.width c.args.r) c.args.extent c.args.tile c.args.r c.args.made.now c.make_row.new.made c.make_row.result
    (λ k l. ap (λ z. of_totals m.mean z (get_or c.totals_round-counts.result k (pos 0))) (sum_is d k l) ∙ ap (of_totals m.mean (total_of (round k))) (count_is d k l) ∙ sym (totals_are m.mean (round k)))
    c.make_row.ensures
