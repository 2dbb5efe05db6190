use Rattle.std.proofs.Common.{◌++◌, [], length, refl, ap, subst, arith, length-append}
use Rattle.drainage_flow.specs.FlowBands.{all_flows}
use Rattle.drainage_flow.specs.Whole.{AreInRange}
use Rattle.drainage_flow.specs.declared.flow_band.FlowBand.{FlowBand}
use Rattle.drainage_flow.proofs.FlowBands.{lists_end}
use Rattle.drainage_flow.proofs.Wholes.{range_none, range_both, flows_next, flows_few, wide_here}
use Rattle.drainage_flow.proofs.whole.first_wide.Goals as goal

pub loop-band-init : goal.loop-band-init
loop-band-init c = ([], refl, range_none, refl)

pub first_wide_in-requires : goal.first_wide_in-requires
first_wide_in-requires c =
    let i = c.loop-band.invariant in
    omega (arith, ap length c.deref.ensures.value, flows_few c.args.bands.now c.loop-band.band-index c.band-item.result i.0 c.loop-band-test.true c.band-item.is i.3, c.requires)

pub overflow_add-result : goal.overflow_add-result
overflow_add-result c =
    let i = c.loop-band.invariant in
    omega (arith, i.1, c.in-Some.ensures.some.within, ap length c.deref.ensures.value, flows_few c.args.bands.now c.loop-band.band-index c.band-item.result i.0 c.loop-band-test.true c.band-item.is i.3, c.requires)

pub returns-in-Some-clause-some : goal.returns-in-Some-clause-some
returns-in-Some-clause-some c =
    let i = c.loop-band.invariant in
    wide_here c.args.bands.now c.loop-band.band-index c.band-item.result i.0 c.loop-band-test.true c.band-item.is i.3 c.deref.result.now c.in-Some.at c.loop-band.first c.deref.ensures.value i.1 i.2 c.in-Some.ensures.some

pub loop-band-preserved : goal.loop-band-preserved
loop-band-preserved c =
    let i = c.loop-band.invariant in
    let b = c.band-item.result in (
      i.0 ++ b.flows.items,
      omega (arith, i.1, c.len.ensures, length-append i.0 b.flows.items),
      range_both i.0 b.flows.items i.2 (subst AreInRange c.deref.ensures.value c.in_default.ensures.none),
      flows_next c.args.bands.now c.loop-band.band-index b i.0 c.loop-band-test.true c.band-item.is i.3,
    )

pub returns-clause-none : goal.returns-clause-none
returns-clause-none c =
    let i = c.loop-band.invariant in
    subst AreInRange (lists_end (λ (x : FlowBand). x.flows.items) i.0 (all_flows c.args.bands.now) c.args.bands.now c.loop-band.band-index c.loop-band-test.false i.3) i.2
