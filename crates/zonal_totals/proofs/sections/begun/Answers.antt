use Rattle.std.proofs.Common.{◌+◌, ◌-◌, ◌/◌, ◌<◌, [], List, subst, ap, ◌∙◌, length, arith, ◌<ℤ◌, ◌≤ℤ◌}
use Rattle.std.proofs.lemmas.List.{get_or_default}
use Rattle.zonal_totals.specs.declared.pairs.Pair.{Pair}
use Rattle.zonal_totals.specs.declared.entries.Entry.{Entry}
use Rattle.zonal_totals.specs.Sections.{lowest}
use Rattle.zonal_totals.proofs.Climbing.{le_from_not}
use Rattle.zonal_totals.proofs.Sectioning.{first_is, firsts_below, firsts_above, some_section}
use Rattle.zonal_totals.proofs.sections.begun.Goals as goal

pub first-first-requires : goal.first-first-requires
first-first-requires c =
    let cs = c.args.sections.now in
    let m = c.loop-low.low + (c.loop-low.high - c.loop-low.low) / 2 in
    let l : m < length cs = omega arith in
    omega (arith, ap (λ (l : List Entry). length l) (c.index-sections-middle.is ∙ get_or_default cs m c.index-sections-middle.result [] l), some_section lowest cs m c.requires l)

pub loop-low-preserved-then-is_of_earlier_zone : goal.loop-low-preserved-then-is_of_earlier_zone
loop-low-preserved-then-is_of_earlier_zone c =
    let cs = c.args.sections.now in
    let m = c.loop-low.low + (c.loop-low.high - c.loop-low.low) / 2 in
    let l : m < length cs = omega arith in
    let first = first_is cs m c.index-sections-middle.result c.first-first.result c.index-sections-middle.is l c.first-first.ensures in
    let lt : c.args.pair.now.zone <ℤ c.first-first.result.pair.zone = subst (λ (p : Pair). c.args.pair.now.zone <ℤ p.zone) c.pair.ensures (c.is_of_earlier_zone.ensures.0 c.if-is_of_earlier_zone.true) in
    record {
      order = omega arith;
      within = omega arith;
      below = c.loop-low.invariant.below;
      above = firsts_above cs m c.args.pair.now.zone c.requires (λ d. subst (λ (e : Entry). c.args.pair.now.zone <ℤ e.pair.zone) (first d) lt);
    }

pub loop-low-preserved : goal.loop-low-preserved
loop-low-preserved c =
    let cs = c.args.sections.now in
    let m = c.loop-low.low + (c.loop-low.high - c.loop-low.low) / 2 in
    let l : m < length cs = omega arith in
    let first = first_is cs m c.index-sections-middle.result c.first-first.result c.index-sections-middle.is l c.first-first.ensures in
    let le : c.first-first.result.pair.zone ≤ℤ c.args.pair.now.zone = subst (λ (p : Pair). p.zone ≤ℤ c.args.pair.now.zone) c.pair.ensures (le_from_not _ _ (λ h. let t = c.is_of_earlier_zone.ensures.1 h in let f = c.if-is_of_earlier_zone.false in cc)) in
    record {
      order = omega arith;
      within = c.loop-low.invariant.within;
      below = firsts_below cs m c.args.pair.now.zone c.requires l (λ d. subst (λ (e : Entry). e.pair.zone ≤ℤ c.args.pair.now.zone) (first d) le);
      above = c.loop-low.invariant.above;
    }
