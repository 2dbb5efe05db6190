use Rattle.std.proofs.Common.{◌≡◌, arith, ap, ◌∙◌}
use Rattle.map_nums.specs.Grids.{Size, row_of}
use Rattle.friction_spread.proofs.Least.{row_lt}
use Rattle.friction_spread.proofs.Rounds.{below}
use Rattle.friction_spread.proofs.looks.look_round.Goals as goal

pub returns-clause-queued : goal.returns-clause-queued
returns-clause-queued g c =
    let s = c.args.ground.now.size in
    let n : c.rows-rows.result ≡ s.rows = c.rows-rows.ensures.rows ∙ ap (λ (z : Size). z.rows) c.extent.ensures.extent in
    λ j l q k. c.loop-r.invariant.queued j l q k (let m = below (row_of s c.args.from.at) (row_of s j) s.rows c.min-high.result q (row_lt s j c.extent.ensures.ground.size l) (omega (arith, c.min-high.ensures, n, c.requires.spot.row)) in omega (arith, m, c.loop-r-test.false))
