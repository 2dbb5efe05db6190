use Rattle.std.proofs.Common.{subst, IfOk}
use Rattle.friction_spread.specs.Costs.{GroundState}
use Rattle.friction_spread.specs.Lists.{IsCostList}
use Rattle.op_jobs.proofs.Bands.{ground_same, costs_kind, costs_are}
use Rattle.op_jobs.proofs.WholeLayers.{limit_fits}
use Rattle.op_jobs.proofs.spread_bands.spread_by.Goals as goal

pub all_of-requires : goal.all_of-requires
all_of-requires c = λ k p e. costs_kind _ k _ p (c.requires.each k p e)

pub spread_of_bands-requires-clause-bands : goal.spread_of_bands-requires-clause-bands
spread_of_bands-requires-clause-bands c =
    let same = ground_same c.args.extent _ _ _ _ c.args.ground.now.limit _ c.deref.ensures.value c.deref-2.ensures.value (limit_fits c.args.ground.now.limit c.requires.cells.low) in
    costs_are _ _ c.in_ok-bands.bands.items _ c.args.parts.items same c.deref-3.ensures.value c.requires.some c.in_ok-bands.ensures.count c.in_ok-bands.ensures.each c.requires.each

pub returns : goal.returns
returns c =
    let same = ground_same c.args.extent _ _ _ _ c.args.ground.now.limit _ c.deref.ensures.value c.deref-2.ensures.value (limit_fits c.args.ground.now.limit c.requires.cells.low) in
    subst (λ (g : GroundState). IfOk c.spread_of_bands.result (IsCostList g)) same c.spread_of_bands.ensures
