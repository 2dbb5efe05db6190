use Rattle.std.proofs.Common.{◌+◌, ◌-◌, ◌*◌, arith}
use Rattle.layer_tiles.proofs.Rising.{rises_then, rises_within}
use Rattle.friction_spread.specs.Costs.{values, net_of}
use Rattle.friction_spread.proofs.Rounds.{kept_then, row_offered_next}
use Rattle.friction_spread.proofs.offers.offer_row.Goals as goal

pub loop-c-preserved : goal.loop-c-preserved
loop-c-preserved g c =
    let gr = c.args.ground.now in
    let ok = c.in_ok-offer.ensures in
    record {
      kept = kept_then c.args.queue.now c.loop-c.queue c.offer.new.queue c.loop-c.invariant.kept ok.kept;
      offered = row_offered_next (net_of gr) gr.size (values gr.limit c.args.labels.now.cells) c.loop-c.queue c.offer.new.queue c.args.from.now.spot.at ok.kept c.args.row c.loop-c.c c.spot_at.result c.spot_at.ensures.spot c.spot_at.ensures.row c.spot_at.ensures.column ok.offered c.loop-c.invariant.offered;
      len = omega (arith, ok.len, c.loop-c.invariant.len, c.loop-c.auto.c);
      picks = rises_within (0 + 0) (2 * (c.loop-c.c - c.saturating_sub-low.result) + 2) 0 (2 * (c.loop-c.c + 1 - c.saturating_sub-low.result)) _ _ (omega arith) (omega (arith, c.loop-c.auto.c)) (rises_then 0 (2 * (c.loop-c.c - c.saturating_sub-low.result)) 0 2 _ _ _ c.loop-c.invariant.picks c.offer.ensures.picks);
    }
