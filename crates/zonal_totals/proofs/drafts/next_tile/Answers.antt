use Rattle.std.proofs.Common.{ℕ, Option, sym, subst}
use Rattle.zonal_totals.specs.Drafts.{IsNextHeld}
use Rattle.zonal_totals.proofs.Looking.{next_held}
use Rattle.zonal_totals.proofs.drafts.next_tile.Goals as goal

pub returns : goal.returns
returns c =
    let values = c.args.values.now in
    let zones = c.args.zones.now in
    let a = c.next_touched.ensures in
    let b = c.next_touched-2.ensures in
    subst (λ (o : Option ℕ). IsNextHeld values zones c.args.from o) (sym c.least.ensures)
    (next_held values zones c.extent-values_within.ensures.change c.extent-zones_within.ensures.change c.requires c.args.from c.next_touched.result c.next_touched-2.result a.next a.none b.next b.none)
