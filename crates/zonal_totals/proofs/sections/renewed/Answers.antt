use Rattle.std.proofs.Common.{◌<◌, ◌++◌, [], List, length, drop, sym, ap, subst, ◌∙◌, arith}
use Rattle.std.proofs.lemmas.List.{get_or_default}
use Rattle.zonal_totals.specs.declared.entries.Entry.{Entry}
use Rattle.zonal_totals.specs.declared.steps.Step.{Step}
use Rattle.zonal_totals.specs.Pairs.{floor}
use Rattle.zonal_totals.specs.Entries.{Climbs}
use Rattle.zonal_totals.specs.Steps.{StepsClimb}
use Rattle.zonal_totals.specs.Merges.{Fits, IsMerged}
use Rattle.zonal_totals.specs.Sections.{joined, end_of, lowest, last_zone}
use Rattle.zonal_totals.proofs.Renewing.{IsRenewing, renewing_none, rest_fits, rest_climbs, rest_merged, steps_floor}
use Rattle.zonal_totals.proofs.Turning.{turn_order, turn_steps, turn_fits, turn_behind, turn_more, steps_rest_is}
use Rattle.zonal_totals.proofs.sections.renewed.Goals as goal

pub loop-section-init : goal.loop-section-init
loop-section-init c = record {
  within = omega arith;
  renewing = subst (λ (l : List (List Entry)). IsRenewing c.args.base.now c.args.steps.now 0 0 l) (sym c.in_ok-sections.ensures.items) (renewing_none c.args.base.now c.args.steps.now c.requires.sections c.requires.steps);
}

pub renew-requires-clause-behind : goal.renew-requires-clause-behind
renew-requires-clause-behind c =
    let cs = c.args.base.now in
    let i = c.loop-section.section-index in
    let more : i < length cs = c.loop-section-test.true in
    let is = c.section-item.is ∙ get_or_default cs i c.section-item.result [] more in
    let k = c.steps_end-end.ensures in
    turn_behind cs c.args.steps.now i c.loop-section.from c.loop-section.sections.items c.requires.fits c.loop-section.invariant.renewing more c.section-item.result is c.steps_end-end.result c.last-last.result c.last-last.ensures k.order k.within k.below k.above

pub renew-requires-clause-order : goal.renew-requires-clause-order
renew-requires-clause-order c =
    let cs = c.args.base.now in
    let i = c.loop-section.section-index in
    let more : i < length cs = c.loop-section-test.true in
    let is = c.section-item.is ∙ get_or_default cs i c.section-item.result [] more in
    let k = c.steps_end-end.ensures in
    turn_order cs c.args.steps.now i c.loop-section.from c.loop-section.sections.items c.requires.fits c.loop-section.invariant.renewing more c.section-item.result is c.steps_end-end.result c.last-last.result c.last-last.ensures k.order k.within k.below k.above

pub renew-requires-clause-steps : goal.renew-requires-clause-steps
renew-requires-clause-steps c =
    let cs = c.args.base.now in
    let i = c.loop-section.section-index in
    let more : i < length cs = c.loop-section-test.true in
    let is = c.section-item.is ∙ get_or_default cs i c.section-item.result [] more in
    let k = c.steps_end-end.ensures in
    turn_steps cs c.args.steps.now i c.loop-section.from c.loop-section.sections.items c.requires.fits c.loop-section.invariant.renewing more c.section-item.result is c.steps_end-end.result c.last-last.result c.last-last.ensures k.order k.within k.below k.above

pub renew-requires-clause-fits : goal.renew-requires-clause-fits
renew-requires-clause-fits c =
    let cs = c.args.base.now in
    let i = c.loop-section.section-index in
    let more : i < length cs = c.loop-section-test.true in
    let is = c.section-item.is ∙ get_or_default cs i c.section-item.result [] more in
    let k = c.steps_end-end.ensures in
    turn_fits cs c.args.steps.now i c.loop-section.from c.loop-section.sections.items c.requires.fits c.loop-section.invariant.renewing more c.section-item.result is c.steps_end-end.result c.last-last.result c.last-last.ensures k.order k.within k.below k.above

pub loop-section-preserved : goal.loop-section-preserved
loop-section-preserved c =
    let cs = c.args.base.now in
    let i = c.loop-section.section-index in
    let more : i < length cs = c.loop-section-test.true in
    let is = c.section-item.is ∙ get_or_default cs i c.section-item.result [] more in
    let k = c.steps_end-end.ensures in
    record {
      within = k.within;
      renewing = turn_more cs c.args.steps.now i c.loop-section.from c.loop-section.sections.items c.requires.fits c.loop-section.invariant.renewing more c.section-item.result is c.steps_end-end.result c.last-last.result c.last-last.ensures k.order k.within k.below k.above c.renew.new.sections.items c.in_ok-renew.ensures;
    }

pub merged-requires-clause-steps : goal.merged-requires-clause-steps
merged-requires-clause-steps c =
    let inv = c.loop-section.invariant.renewing in
    subst (λ (l : List Step). StepsClimb floor l) (sym (steps_rest_is c.loop-section.from c.args.steps.now)) (steps_floor (end_of inv.zone) (drop c.loop-section.from c.args.steps.now) inv.steps)

pub merged-requires-clause-fits : goal.merged-requires-clause-fits
merged-requires-clause-fits c =
    subst (λ (l : List Step). Fits [] l) (sym (steps_rest_is c.loop-section.from c.args.steps.now))
    (rest_fits c.args.base.now c.args.steps.now c.loop-section.section-index c.loop-section.from c.loop-section.sections.items c.requires.fits c.loop-section.invariant.renewing (omega (arith, c.loop-section-test.false)))

pub cut-requires-clause-order : goal.cut-requires-clause-order
cut-requires-clause-order c =
    let out = c.loop-section.sections.items in
    let fs = c.in_ok-rest.rest.items in
    let m : IsMerged [] (drop c.loop-section.from c.args.steps.now) fs = subst (λ (l : List Step). IsMerged [] l fs) (steps_rest_is c.loop-section.from c.args.steps.now) c.in_ok-rest.ensures in
    subst (λ (l : List Entry). Climbs (end_of (last_zone lowest (joined out))) l) (sym c.deref.ensures.value)
    (rest_climbs c.args.base.now c.args.steps.now c.loop-section.section-index c.loop-section.from out c.requires.fits c.loop-section.invariant.renewing (omega (arith, c.loop-section-test.false)) fs m)

pub returns-clause-merged : goal.returns-clause-merged
returns-clause-merged c =
    let out = c.loop-section.sections.items in
    let fs = c.in_ok-rest.rest.items in
    let m : IsMerged [] (drop c.loop-section.from c.args.steps.now) fs = subst (λ (l : List Step). IsMerged [] l fs) (steps_rest_is c.loop-section.from c.args.steps.now) c.in_ok-rest.ensures in
    rest_merged c.args.base.now c.args.steps.now c.loop-section.section-index c.loop-section.from out c.requires.fits c.loop-section.invariant.renewing (omega (arith, c.loop-section-test.false)) fs (joined c.cut.new.sections.items) m
    (c.in_ok-cut.ensures.joins ∙ ap (λ (l : List Entry). joined out ++ l) c.deref.ensures.value)
