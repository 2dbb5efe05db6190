use Rattle.friction_spread.proofs.Banding.{next_band, no_more_bands, none_joined}
use Rattle.std.proofs.Common.{◌+◌, ℕ, sym, subst, drop}
use Rattle.friction_spread.specs.Bands.{AreCostBands}
use Rattle.friction_spread.specs.Joins.{AreCostsTo}
use Rattle.friction_spread.proofs.bands.join.Goals as goal

pub loop-band-init : goal.loop-band-init
loop-band-init c = record { left = c.requires.bands; joined = none_joined c.args.ground.now c.in_ok-costs.costs.items c.args.queue.now c.in_ok-costs.ensures.items }

pub join_band-requires-clause-band : goal.join_band-requires-clause-band
join_band-requires-clause-band c = (next_band c.args.ground.now c.loop-band.first c.loop-band.band-index c.args.bands.now c.band-item.result c.loop-band-test.true c.band-item.is c.loop-band.invariant.left).0

pub loop-band-preserved : goal.loop-band-preserved
loop-band-preserved c =
    let gr = c.args.ground.now in
    let n = next_band gr c.loop-band.first c.loop-band.band-index c.args.bands.now c.band-item.result c.loop-band-test.true c.band-item.is c.loop-band.invariant.left in
    let P : ℕ → Type 0 = λ row. AreCostBands gr row (drop (c.loop-band.band-index + 1) c.args.bands.now) in
    record { left = subst P (sym c.in_ok-first.ensures.end) n.1; joined = c.in_ok-first.ensures.joined }

pub returns : goal.returns
returns c =
    let gr = c.args.ground.now in
    let e = no_more_bands gr c.loop-band.first c.loop-band.band-index c.args.bands.now c.loop-band-test.false c.loop-band.invariant.left in
    let P : ℕ → Type 0 = λ row. AreCostsTo gr row c.loop-band.costs.items c.loop-band.queue in
    subst P e c.loop-band.invariant.joined
