use Rattle.std.proofs.Common.{◌≡◌, ap, ◌∙◌, arith}
use Rattle.map_nums.specs.Grids.{Size, row_of}
use Rattle.friction_neighbor.proofs.Places.{below, row_lt, steps_near}
use Rattle.friction_neighbor.proofs.Flooding.{grows_then, round_told_next}
use Rattle.friction_neighbor.proofs.floods.pass_round.Goals as goal

pub loop-r-preserved : goal.loop-r-preserved
loop-r-preserved c =
    let ok = c.in_ok-pass_row.ensures in
    let i = c.loop-r.invariant in
    record {
      flooding = ok.flooding;
      grows = grows_then c.args.values.now c.loop-r.values c.pass_row.new.values i.grows ok.grows;
      less = omega (arith, ok.less, i.less);
      told = round_told_next c.args.field.now c.args.seed.now.number c.loop-r.values c.pass_row.new.values c.args.from.now.spot.at c.loop-r.r ok.grows ok.told i.told;
    }

pub returns-clause-told : goal.returns-clause-told
returns-clause-told c =
    let f = c.args.field.now in
    let s = f.ground.size in
    let from = c.args.from.now.spot.at in
    let n : c.rows-rows.result ≡ s.rows = c.rows-rows.ensures.rows ∙ ap (λ (z : Size). z.rows) c.extent.ensures.extent in
    λ i step. let j = steps_near f c.extent.ensures.field from i step in
    let m = below (row_of s from) (row_of s i) s.rows c.min-high.result j.rows (row_lt s i c.extent.ensures.field.size j.to) (omega (arith, c.min-high.ensures, n, c.requires.front.spot.row)) in
    c.loop-r.invariant.told i j.to j.rows j.columns (omega (arith, m, c.loop-r-test.false)) step
