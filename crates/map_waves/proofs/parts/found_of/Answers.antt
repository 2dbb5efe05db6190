use Rattle.std.specs.List.{sum_by, range_with_len}
use Rattle.layer_tiles.specs.Tallies.{TallyState, RisesBy}
use Rattle.map_waves.specs.Keeping.{kept_now, was_of}
use Rattle.map_waves.proofs.Finding.{found_so}
use Rattle.map_waves.proofs.parts.found_of.Goals as goal

pub returns-in_err-parts-clause-looks : goal.returns-in_err-parts-clause-looks
returns-in_err-parts-clause-looks g c =
    found_so
    (λ q. (x : TallyState) → RisesBy (sum_by (g.K.Maker.finding c.args.extent (g.K.Maker.means c.args.op.now) c.args.operands.now q.1) (range_with_len 0 q.1)) 0 (g.M.Tally.counts c.ground_of.new.tally) x
    → RisesBy (g.K.Maker.grounding c.args.extent (g.K.Maker.means c.args.op.now) (was_of (kept_now c.args.kept)) c.args.operands.now) 0 (g.M.Tally.counts c.args.tally.now) x)
    c.in_ok-found.found (c.in-Some.ground, c.in-Some.count) c.in-Some.is c.in_ok-found.ensures.parts _ c.find_all.ensures.looks

pub returns-clause-looks : goal.returns-clause-looks
returns-clause-looks g c =
    found_so
    (λ q. (x : TallyState) → RisesBy (sum_by (g.K.Maker.finding c.args.extent (g.K.Maker.means c.args.op.now) c.args.operands.now q.1) (range_with_len 0 q.1)) 0 (g.M.Tally.counts c.ground_of.new.tally) x
    → RisesBy (g.K.Maker.grounding c.args.extent (g.K.Maker.means c.args.op.now) (was_of (kept_now c.args.kept)) c.args.operands.now) 0 (g.M.Tally.counts c.args.tally.now) x)
    c.in_ok-found.found (c.in-Some.ground, c.in-Some.count) c.in-Some.is c.in_ok-found.ensures.parts _ c.find_all.ensures.looks
