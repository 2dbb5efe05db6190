use Rattle.std.proofs.Common.{◌≡◌, ◌+◌, ◌-◌, ◌*◌, arith, ap, sym, ◌∙◌}
use Rattle.map_nums.specs.Grids.{Size, row_of}
use Rattle.friction_spread.proofs.Least.{row_lt, step_barrier}
use Rattle.layer_tiles.proofs.Rising.{rises_then, rises_within}
use Rattle.friction_spread.specs.Costs.{values, net_of}
use Rattle.friction_spread.proofs.Rounds.{below, kept_then, round_risen_next}
use Rattle.friction_spread.proofs.raises.raise_round.Goals as goal

pub returns-then-own-eq0-clause-risen : goal.returns-then-own-eq0-clause-risen
returns-then-own-eq0-clause-risen g c = λ j l q k m. absurd (omega (arith, m, step_barrier c.args.ground.now c.args.from.at j (sym c.requires.own.0 ∙ c.if-own-eq0.true)))

pub returns-clause-risen : goal.returns-clause-risen
returns-clause-risen g c =
    let s = c.args.ground.now.size in
    let n : c.rows-rows.result ≡ s.rows = c.rows-rows.ensures.rows ∙ ap (λ (z : Size). z.rows) c.extent.ensures.extent in
    λ j l q k. c.loop-r.invariant.risen j l q k (let m = below (row_of s c.args.from.at) (row_of s j) s.rows c.min-high.result q (row_lt s j c.extent.ensures.ground.size l) (omega (arith, c.min-high.ensures, n, c.requires.spot.row)) in omega (arith, m, c.loop-r-test.false))

pub loop-r-preserved : goal.loop-r-preserved
loop-r-preserved g c =
    let gr = c.args.ground.now in
    let ok = c.in_ok-raise_row.ensures in
    record {
      kept = kept_then c.args.queue.now c.loop-r.queue c.raise_row.new.queue c.loop-r.invariant.kept ok.kept;
      risen = round_risen_next (net_of gr) gr.size (values gr.limit c.args.labels.now.cells) c.loop-r.queue c.raise_row.new.queue c.args.from.at ok.kept c.args.value c.loop-r.r ok.risen c.loop-r.invariant.risen;
      len = omega (arith, ok.len, c.loop-r.invariant.len, c.loop-r.auto.r);
      picks = rises_within (0 + 0) (69 * (c.loop-r.r - c.saturating_sub-low.result) + 69) 0 (69 * (c.loop-r.r + 1 - c.saturating_sub-low.result)) _ _ (omega arith) (omega (arith, c.loop-r.auto.r)) (rises_then 0 (69 * (c.loop-r.r - c.saturating_sub-low.result)) 0 69 _ _ _ c.loop-r.invariant.picks c.raise_row.ensures.picks);
    }
