use Rattle.std.proofs.Common.{◌≡◌, ◌∙◌, Some, ℤ, List, pos, get_or, sym, ap, FitsSigned, to_z, of_z, rules, slice_get}
use Rattle.std.proofs.lemmas.Int.{to_z-of_z}
use Rattle.std.proofs.lemmas.Option.{slice_get-get_or}
use Rattle.map_nums.specs.Widths.{value_width}
use Rattle.op_jobs.proofs.ZonalMarks.{others_more}
use Rattle.op_jobs.proofs.zonal_zones.add_zones.Goals as goal

pub loop-zone-preserved : goal.loop-zone-preserved
loop-zone-preserved c =
    let inv = c.loop-zone.invariant in
    let xs = c.zones-zone-items.result.now in
    let i = c.loop-zone.zone-index in
    let x = get_or xs i (pos 0) in
    let fits : FitsSigned value_width x = search rules in
    let here : slice_get c.args.patch.now.zones i ≡ Some (to_z value_width (of_z value_width x)) = ap (λ (l : List ℤ). slice_get l i) (sym c.zones-zone-items.ensures) ∙ slice_get-get_or xs i (pos 0) c.loop-zone-test.true ∙ ap Some (sym (to_z-of_z value_width x fits)) in
    record {
      size = c.add_other.ensures.size ∙ inv.size;
      marks = λ values zones values' zones' b a r.
          let m = inv.marks values zones values' zones' b a r in
          let q = c.add_other.ensures.marks values zones values' zones' b a (r (to_z value_width (of_z value_width x))) in
          others_more c.args.stat c.args.book.now.size values zones values' zones' c.args.patch.now.zones i (to_z value_width (of_z value_width x)) c.args.set.now.marks c.loop-zone.set.marks c.add_other.new.set.marks here m q;
    }
