use Rattle.std.proofs.Common.{arith}
use Rattle.std.proofs.lemmas.Bool.{iff_false}
use Rattle.map_nums.proofs.Varieties.{variety_on, variety_last}
use Rattle.map_nums.proofs.runs.run_count.Goals as goal
use Rattle.map_nums.proofs.runs.run_count.Goals.{then-not-goes_on, else-not-goes_on}

pub loop-i-preserved : goal.loop-i-preserved
loop-i-preserved c =
    let ys = c.args.sorted.now in
    let i = c.loop-i.i in
    elim c.if-not-goes_on.branch [
      | then-not-goes_on w ↦
          let last = iff_false c.goes_on.ensures w.if-not-goes_on.true in
          (omega (arith, c.loop-i.invariant.0, w.count-is), omega (arith, w.count-is, variety_last ys c.requires i c.loop-i.count c.loop-i-test.true last c.loop-i.invariant.1))
      | else-not-goes_on w ↦
          let same = c.goes_on.ensures.0 w.if-not-goes_on.false in
          (omega (arith, c.loop-i.invariant.0, w.count-is), omega (arith, w.count-is, variety_on ys i c.loop-i.count c.loop-i-test.true same c.loop-i.invariant.1))
    ]
