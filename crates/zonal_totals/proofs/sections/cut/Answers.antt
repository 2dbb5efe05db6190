use Rattle.std.proofs.Common.{◌≡◌, ◌-◌, ◌++◌, ◌∷◌, [], List, take, drop, sym, ap, subst, ◌∙◌}
use Rattle.zonal_totals.specs.declared.entries.Entry.{Entry}
use Rattle.zonal_totals.specs.Entries.{Climbs}
use Rattle.zonal_totals.specs.Sections.{joined, end_of, lowest, last_zone, AreSections}
use Rattle.zonal_totals.proofs.Cutting.{cut_sections, cut_joins, cut_rest}
use Rattle.zonal_totals.proofs.sections.cut.Goals as goal

pub loop-from-preserved : goal.loop-from-preserved
loop-from-preserved c =
    let es = c.args.entries.now in
    let out = c.loop-from.sections.items in
    let first = c.args.sections.now.items in
    let from = c.loop-from.from in
    let end = c.section_end-end.result in
    let inv = c.loop-from.invariant in
    let k = c.section_end-end.ensures in
    let is : c.push.new.self.items ≡ out ++ take (end - from) (drop from es) ∷ [] = c.in_ok-push.ensures.items ∙ ap (λ (x : List Entry). out ++ x ∷ []) (c.in_ok-of.ensures ∙ c.in_ok-piece.ensures.items) in
    record {
      within = k.within;
      sections = subst (λ (l : List (List Entry)). AreSections lowest l) (sym is) (cut_sections es first out from end inv.sections inv.joins inv.rest k.some k.within k.whole);
      joins = ap joined is ∙ cut_joins es first out from end inv.sections inv.joins inv.rest k.some k.within k.whole;
      rest = subst (λ (l : List (List Entry)). Climbs (end_of (last_zone lowest (joined l))) (drop end es)) (sym is) (cut_rest es first out from end inv.sections inv.joins inv.rest k.some k.within k.whole);
    }
