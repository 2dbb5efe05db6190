use Rattle.std.proofs.Common.{◌≡◌, None, ap, ◌∙◌, arith}
use Rattle.map_nums.specs.Grids.{Size, row_of}
use Rattle.friction_neighbor.proofs.Gathering.{gathered_then, round_brought_next, round_least}
use Rattle.friction_neighbor.proofs.Places.{below, row_lt}
use Rattle.friction_neighbor.proofs.list_gathers.by_round.Goals as goal

pub loop-r-preserved : goal.loop-r-preserved
loop-r-preserved c =
    let f = c.args.field.now in
    let values = c.args.values.now in
    let at = c.args.to.now.spot.at in
    let i = c.loop-r.invariant in
    let e = c.by_row-least.ensures in
    record {
      gathered = gathered_then f values at None c.loop-r.least c.by_row-least.result i.gathered e.gathered;
      brought = round_brought_next f values at c.loop-r.least c.by_row-least.result c.loop-r.r e.gathered e.brought i.brought;
    }

pub returns : goal.returns
returns c =
    let f = c.args.field.now in
    let s = f.ground.size in
    let to = c.args.to.now in
    let n : c.rows-rows.result ≡ s.rows = c.rows-rows.ensures.rows ∙ ap (λ (z : Size). z.rows) c.extent.ensures.extent in
    record {
      least = round_least f c.extent.ensures.field c.args.values.now to c.requires.front c.loop-r.least c.loop-r.r c.requires.some c.loop-r.invariant.gathered c.loop-r.invariant.brought
          (λ j l r. let m = below (row_of s to.spot.at) (row_of s j) s.rows c.min-high.result r (row_lt s j c.extent.ensures.field.size l) (omega (arith, c.min-high.ensures, n, c.requires.front.spot.row)) in omega (arith, m, c.loop-r-test.false));
    }
