use Rattle.std.proofs.Common.{◌≡◌, ◌+◌, ◌∷◌, [], ◌++◌, arith, length, take, set, ◌∙◌}
use Rattle.std.proofs.lemmas.List.{take_more_set, length-set}
use Rattle.layer_tiles.specs.Tiles.{block_row}
use Rattle.local_ops.proofs.LentRows.{rows-more}
use Rattle.local_ops.proofs.rows.rows_of.Goals as goal

pub loop-k-preserved : goal.loop-k-preserved
loop-k-preserved c =
    let views = c.args.views.now in
    let k = c.loop-k.k in
    let rows = c.loop-k.rows in
    let b = c.index-views-k.result in
    let row = c.row.result in
    let i = c.loop-k.invariant in
    let more : take (k + 1) (set rows k row) ≡ take k rows ++ row ∷ [] = take_more_set rows k row (omega (arith, i.room, c.requires.most, c.loop-k-test.true)) in
    record {
      room = length-set rows k row ∙ i.room;
      rows = rows-more (λ r. r.now) (λ d. block_row d c.args.r) views k b (take k rows) (take (k + 1) (set rows k row)) row c.loop-k-test.true c.index-views-k.is i.rows more c.row.ensures.row;
      widths = rows-more (λ r. length r.now) (λ d. d.width) views k b (take k rows) (take (k + 1) (set rows k row)) row c.loop-k-test.true c.index-views-k.is i.widths more c.row.ensures.width;
    }
