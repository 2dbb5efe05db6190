use Rattle.std.proofs.Common.{◌≡◌, ℕ, ◌+◌, ◌<◌, ◌≤◌, min, arith, ap, sym, ◌∙◌}
use Rattle.std.specs.Prelude.{is_some, false}
use Rattle.map_nums.specs.Grids.{Size, row_of, gap, cell_at}
use Rattle.map_defs.proofs.Nets.{equation_is}
use Rattle.friction_spread.specs.Costs.{values, net_of}
use Rattle.friction_spread.proofs.Grounds.{values_within}
use Rattle.friction_spread.proofs.Least.{row_lt, equation_barrier, equation_source, equation_near, not_source}
use Rattle.friction_spread.proofs.equations.equation.Goals as goal
use Rattle.friction_spread.proofs.equations.equation.Goals.{else-floor-eq0-via-then-floor-eq0+else-is_source, else-floor-eq0-via-else-floor-eq0}

pub returns-then-own-eq0-clause-value : goal.returns-then-own-eq0-clause-value
returns-then-own-eq0-clause-value g c =
    let w = values_within c.args.ground.now c.args.labels.now.cells c.requires.count in
    c.top.ensures.top ∙ equation_barrier c.args.ground.now (values c.args.ground.now.limit c.args.labels.now.cells) c.args.to.at w (sym c.requires.own.0 ∙ c.if-own-eq0.true)

pub returns-then-is_source-clause-value : goal.returns-then-is_source-clause-value
returns-then-is_source-clause-value g c =
    let w = values_within c.args.ground.now c.args.labels.now.cells c.requires.count in
    equation_source c.args.ground.now (values c.args.ground.now.limit c.args.labels.now.cells) c.args.to.at w c.requires.spot.within (omega (arith, c.requires.own.0, c.if-own-eq0.false)) (sym c.is_source.ensures.value ∙ c.if-is_source.true)

pub by_row-least-requires-clause-floor : goal.by_row-least-requires-clause-floor
by_row-least-requires-clause-floor g c =
    let gr = c.args.ground.now in
    let d = values gr.limit c.args.labels.now.cells in
    λ j. omega (arith, c.requires.floor, (equation_is (net_of gr) d (values_within gr c.args.labels.now.cells c.requires.count) c.args.to.at).stepped j)

below : (a b n h : ℕ) → gap a b ≤ 1 → b < n → h ≡ min (a + 2) n → b < h
below a b n h g l e = omega arith

pub returns-clause-value : goal.returns-clause-value
returns-clause-value g c =
    let s = c.args.ground.now.size in
    let w = values_within c.args.ground.now c.args.labels.now.cells c.requires.count in
    let d = values c.args.ground.now.limit c.args.labels.now.cells in
    let o : is_some (cell_at c.args.ground.now.sources c.args.to.at) ≡ false = elim c.else-floor-eq0.branch as (λ _. is_some (cell_at c.args.ground.now.sources c.args.to.at) ≡ false) [
      | else-floor-eq0-via-then-floor-eq0+else-is_source b ↦ sym b.is_source.ensures.value ∙ b.if-is_source.false
      | else-floor-eq0-via-else-floor-eq0 b ↦ not_source c.args.ground.now d c.args.to.at w c.requires.spot.within (omega (arith, c.requires.own.0, c.if-own-eq0.false)) (omega (arith, c.requires.floor, b.if-floor-eq0.false))
    ] in
    let n : c.rows-rows.result ≡ s.rows = c.rows-rows.ensures.rows ∙ ap (λ (z : Size). z.rows) c.extent.ensures.extent in
    equation_near c.args.ground.now (values c.args.ground.now.limit c.args.labels.now.cells) c.args.to.at c.loop-r.r c.loop-r.least w o c.loop-r.invariant.lowered c.loop-r.invariant.near
    (λ j l r. let m = below (row_of s c.args.to.at) (row_of s j) s.rows c.min-high.result r (row_lt s j c.extent.ensures.ground.size l) (omega (arith, c.min-high.ensures, n, c.requires.spot.row)) in omega (arith, m, c.loop-r-test.false))
