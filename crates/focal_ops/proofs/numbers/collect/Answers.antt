use Rattle.std.proofs.Common.{◌≡◌, ◌+◌, ◌-◌, ◌*◌, ◌<◌, ◌++◌, length, slice_range, get_or, take, refl, sym, ◌∙◌, ap, arith}
use Rattle.map_nums.specs.Grids.{Cells, numbers_in}
use Rattle.focal_ops.specs.Masks.{numbers_to, piece_numbers}
use Rattle.focal_ops.proofs.Round.{numbers_more, piece_short, row_end}
use Rattle.focal_ops.proofs.numbers.collect.Goals as goal

pub loop-k-init : goal.loop-k-init
unfolding numbers_to
loop-k-init c = record { within = omega arith; numbers = refl }

pub slice_bounds-collect_piece-end : goal.slice_bounds-collect_piece-end
slice_bounds-collect_piece-end c =
    let b = c.args.near.now in
    let k = c.loop-k.k in
    let row : k < 65 = omega (arith, c.loop-k-test.true, c.requires.mask.few) in
    let most = c.requires.mask.most k row in
    let start : c.start_of.result ≡ (c.args.r + k) * b.width = c.start_of.ensures ∙ ap (λ w. (c.args.r + k) * w) c.width-width.ensures in
    let end = row_end (c.args.r + k) b.height b.width (length c.cells-square.result.now) (omega (arith, c.loop-k-test.true, c.requires.row)) (omega (arith, c.cells-square.ensures.count)) in
    omega (arith, start, end, most, c.requires.column)

pub loop-k-preserved : goal.loop-k-preserved
loop-k-preserved c =
    let b = c.args.near.now in
    let reach = c.args.mask.now.reach in
    let halves = c.args.mask.now.halves in
    let k = c.loop-k.k in
    let half = get_or halves k 0 in
    let row : k < 65 = omega (arith, c.loop-k-test.true, c.requires.mask.few) in
    let from = c.args.c + reach - half in
    let start : c.start_of.result ≡ (c.args.r + k) * b.width = c.start_of.ensures ∙ ap (λ w. (c.args.r + k) * w) c.width-width.ensures in
    let numbers : numbers_in (slice_range c.cells-square.result.now (c.start_of.result + from) (c.start_of.result + from + (2 * half + 1))) ≡ piece_numbers reach halves b.cells b.width c.args.r c.args.c k =
    ap (λ (xs : Cells). numbers_in (slice_range xs (c.start_of.result + from) (c.start_of.result + from + (2 * half + 1)))) c.cells-square.ensures.cells
    ∙ ap (λ s. numbers_in (slice_range b.cells (s + from) (s + from + (2 * half + 1)))) start in
    record {
      within = omega (arith, c.loop-k.invariant.within, c.collect_piece-count.ensures.within, piece_short c.cells-square.result.now (c.start_of.result + from) (2 * half + 1), c.requires.mask.most k row, c.requires.mask.few);
      numbers = c.collect_piece-count.ensures.numbers ∙ ap (λ xs. take c.loop-k.count c.loop-k.numbers ++ xs) numbers ∙ ap (λ xs. xs ++ piece_numbers reach halves b.cells b.width c.args.r c.args.c k) c.loop-k.invariant.numbers ∙ sym (numbers_more reach halves b.cells b.width c.args.r c.args.c k);
    }
