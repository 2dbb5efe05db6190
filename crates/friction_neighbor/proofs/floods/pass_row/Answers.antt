use Rattle.std.proofs.Common.{arith}
use Rattle.friction_neighbor.proofs.Flooding.{grows_then, row_told_next}
use Rattle.friction_neighbor.proofs.floods.pass_row.Goals as goal

pub loop-c-preserved : goal.loop-c-preserved
loop-c-preserved c =
    let ok = c.in_ok-pass.ensures in
    let i = c.loop-c.invariant in
    record {
      flooding = ok.flooding;
      grows = grows_then c.args.values.now c.loop-c.values c.pass.new.values i.grows ok.grows;
      less = omega (arith, ok.less, i.less);
      told = row_told_next c.args.field.now c.args.seed.now.number c.loop-c.values c.pass.new.values c.args.from.now.spot.at c.args.row c.loop-c.c c.spot_at-to.result ok.grows c.spot_at-to.ensures.spot c.spot_at-to.ensures.row c.spot_at-to.ensures.column ok.told i.told;
    }
