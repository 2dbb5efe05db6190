use Rattle.std.proofs.Common.{◌≡◌, ◌<◌, ◌++◌, ◌∷◌, [], List, length, refl, sym, ap, subst, ◌∙◌, arith}
use Rattle.zonal_totals.specs.declared.entries.Entry.{Entry}
use Rattle.zonal_totals.specs.declared.steps.Step.{Step}
use Rattle.zonal_totals.specs.Merges.{Fits, IsMerged}
use Rattle.zonal_totals.proofs.Numbers.{is_no_length}
use Rattle.zonal_totals.proofs.Renewing.{renewed_same, renewed_whole}
use Rattle.zonal_totals.proofs.Rises.{known_after}
use Rattle.zonal_totals.proofs.Sectioning.{one_zone_some}
use Rattle.zonal_totals.proofs.sections.renew.Goals as goal

none_there : (ss : List Step) → length ss ≡ 0 → ss ≡ []
none_there [] h = refl
none_there (s ∷ ss) h = absurd (omega arith)

pub returns-then-is_empty : goal.returns-then-is_empty
returns-then-is_empty c =
    let old = c.args.sections.now.items in
    let none = none_there c.args.steps.now (is_no_length (length c.args.steps.now) (sym c.is_empty.ensures ∙ c.if-is_empty.true)) in
    renewed_same old c.push.new.self.items c.args.section.now c.args.steps.now none c.requires.sections c.requires.some c.requires.order c.requires.behind
    (c.in_ok-push.ensures.items ∙ ap (λ (x : List Entry). old ++ x ∷ []) c.in_ok-share.ensures)

pub merged-requires-clause-fits : goal.merged-requires-clause-fits
merged-requires-clause-fits c = subst (λ (l : List Entry). Fits l c.args.steps.now) (sym c.entries.ensures.entries) c.requires.fits

pub of-requires : goal.of-requires
of-requires c =
    let fs = c.in_ok-entries.entries.items in
    let m : IsMerged c.args.section.now c.args.steps.now fs = subst (λ (l : List Entry). IsMerged l c.args.steps.now fs) c.entries.ensures.entries c.in_ok-entries.ensures in
    known_after c.total_after-known.result c.args.section.now c.shrink_to_fit.new.self.items c.args.steps.now
    (subst (λ (l : List Entry). IsMerged c.args.section.now c.args.steps.now l) (sym c.shrink_to_fit.ensures.items) m) c.total_after-known.ensures

pub returns-then-is_one_zone : goal.returns-then-is_one_zone
returns-then-is_one_zone c =
    let old = c.args.sections.now.items in
    let fs = c.in_ok-entries.entries.items in
    let m : IsMerged c.args.section.now c.args.steps.now fs = subst (λ (l : List Entry). IsMerged l c.args.steps.now fs) c.entries.ensures.entries c.in_ok-entries.ensures in
    let some : 0 < length fs = omega (arith, one_zone_some _ (c.is_one_zone.ensures.0 c.if-is_one_zone.true), ap (λ (l : List Entry). length l) c.deref.ensures.value) in
    renewed_whole old c.push-then-is_one_zone.new.self.items c.args.section.now fs c.args.steps.now c.requires.sections m some (c.requires.behind fs m)
    (c.in_ok-push-2.ensures.items ∙ ap (λ (x : List Entry). old ++ x ∷ []) (c.in_ok-of.ensures ∙ c.shrink_to_fit.ensures.items))
