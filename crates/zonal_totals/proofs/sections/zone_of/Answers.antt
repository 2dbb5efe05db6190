use Rattle.std.proofs.Common.{[], ◌-◌, ◌<◌, sym, ap, subst, ◌∙◌, length, List, arith, to_z, of_z}
use Rattle.std.proofs.lemmas.Int.{to_z-of_z}
use Rattle.std.proofs.lemmas.List.{get_or_default}
use Rattle.map_nums.specs.Widths.{value_width}
use Rattle.zonal_totals.specs.declared.entries.Entry.{Entry}
use Rattle.zonal_totals.specs.Pairs.{floor}
use Rattle.zonal_totals.specs.Entries.{Climbs}
use Rattle.zonal_totals.specs.Numbers.{part_of}
use Rattle.zonal_totals.specs.Sections.{lowest}
use Rattle.zonal_totals.proofs.Sectioning.{part_missing, part_found, section_climbs}
use Rattle.zonal_totals.proofs.Rises.{part_length, known_of_whole}
use Rattle.zonal_totals.proofs.sections.zone_of.Goals as goal

pub returns-then-count-eq0-clause-entries : goal.returns-then-count-eq0-clause-entries
returns-then-count-eq0-clause-entries c =
    let b = c.begun-count.ensures in
    part_missing (to_z value_width (of_z value_width c.args.zone)) c.args.zone c.args.sections.now c.begun-count.result (to_z-of_z value_width c.args.zone c.ranges.zone) c.requires b.within b.below b.above c.if-count-eq0.true

pub zone_part-entries-requires : goal.zone_part-entries-requires
zone_part-entries-requires c =
    let cs = c.args.sections.now in
    let k : c.begun-count.result - 1 < length cs = omega (arith, c.begun-count.ensures.within, c.if-count-eq0.false) in
    subst (λ (l : List Entry). Climbs floor l) (sym (c.entries.ensures.entries ∙ c.index-sections-count.is ∙ get_or_default cs (c.begun-count.result - 1) c.index-sections-count.result [] k)) (section_climbs lowest cs (c.begun-count.result - 1) c.requires k)

pub returns-clause-entries : goal.returns-clause-entries
returns-clause-entries c =
    let b = c.begun-count.ensures in
    let z = to_z value_width (of_z value_width c.args.zone) in
    let same = to_z-of_z value_width c.args.zone c.ranges.zone in
    part_found z c.args.zone c.args.sections.now c.begun-count.result same c.requires b.within b.below b.above
    c.index-sections-count.result c.zone_part-entries.result.now (omega (arith, c.if-count-eq0.false)) c.index-sections-count.is
    (c.zone_part-entries.ensures ∙ ap (λ (l : List Entry). part_of z l) c.entries.ensures.entries)

pub returns-clause-few : goal.returns-clause-few
returns-clause-few c =
    let part = ap (λ (l : List Entry). length l) c.zone_part-entries.ensures in
    omega (arith, part, part_length (to_z value_width (of_z value_width c.args.zone)) c.entries.result.now, c.entries.ensures.few)

pub returns-clause-known : goal.returns-clause-known
returns-clause-known c =
    let z = to_z value_width (of_z value_width c.args.zone) in
    known_of_whole c.total_of_whole.result z c.zone_part-entries.result.now c.index-sections-count.result
    (c.zone_part-entries.ensures ∙ ap (λ (l : List Entry). part_of z l) c.entries.ensures.entries) c.total_of_whole.ensures.whole c.total_of_whole.ensures.total
