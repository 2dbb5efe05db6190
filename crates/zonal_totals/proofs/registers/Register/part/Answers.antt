use Rattle.std.proofs.Common.{sym, subst, List}
use Rattle.zonal_totals.specs.declared.entries.Entry.{Entry}
use Rattle.zonal_totals.specs.Pairs.{floor}
use Rattle.zonal_totals.specs.Entries.{Climbs}
use Rattle.zonal_totals.specs.Numbers.{KeysClimb}
use Rattle.zonal_totals.specs.Sections.{joined, lowest, AreSections}
use Rattle.zonal_totals.proofs.Zones.{part_climbs}
use Rattle.zonal_totals.proofs.Sectioning.{sections_climb, end_lowest}
use Rattle.zonal_totals.proofs.registers.Register.part.Goals as goal

pub returns-clause-order : goal.returns-clause-order
returns-clause-order c =
    let s : AreSections lowest c.deref.result.now = subst (λ (l : List (List Entry)). AreSections lowest l) (sym c.deref.ensures.value) c.self.invariant in
    let k : Climbs floor (joined c.deref.result.now) = end_lowest (joined c.deref.result.now) (sections_climb lowest c.deref.result.now s) in
    subst (λ (l : List Entry). KeysClimb floor l) (sym c.zone_of.ensures.entries) (part_climbs _ (joined c.deref.result.now) k)
