use Rattle.std.proofs.Common.{◌≡◌, ◌↔◌, ◌∙◌, sym, nat_eq, of_z, rules}
use Rattle.std.specs.Prelude.{IsTrue}
use Rattle.map_nums.specs.Widths.{value_width}
use Rattle.zonal_totals.proofs.Sectioning.{one_zone}
use Rattle.zonal_totals.proofs.sections.is_one_zone.Goals as goal

pub returns-in-Some-Some : goal.returns-in-Some-Some
returns-in-Some-Some c =
    let zone = one_zone c.args.entries.now c.in-Some-Some.first.now c.in-Some-Some.last.now c.in-Some-Some.ensures.value c.in-Some-Some.ensures'.value in
    let same : IsTrue (nat_eq (of_z value_width c.zone.result) (of_z value_width c.zone-in-Some-Some.result)) ↔ (c.zone.result ≡ c.zone-in-Some-Some.result) = search rules in
    (λ t. zone.0 (sym c.zone.ensures ∙ same.0 t ∙ c.zone-in-Some-Some.ensures), λ o. same.1 (c.zone.ensures ∙ zone.1 o ∙ sym c.zone-in-Some-Some.ensures))
