use Rattle.std.proofs.Common.{suc, subst, rules, Some, IsSome, ℤ, Option, pos}
use Rattle.region_labels.specs.Lists.{MayGet}
use Rattle.region_labels.proofs.Rows.{some_value}
use Rattle.region_labels.proofs.Listing.{region_step}
use Rattle.region_labels.proofs.first.label_region.Goals as goal

pub returns-clause-ok : goal.returns-clause-ok
returns-clause-ok c =
    let old = c.args.list.now.labels in
    let new = c.reach_region.new.list in
    let some : IsSome c.index-cells-at.result = search rules in
    let v = some_value c.index-cells-at.result some in
    let may : MayGet (Some (pos (suc c.args.at))) old new.labels = subst (λ (o : Option ℤ). MayGet o old new.labels) c.of.ensures c.reach_region.ensures.labels in
    region_step c.args.list.now.size c.args.cells.now v.0 c.args.at old new (c.in_ok-reach_region.ensures.ok v.0 v.1) c.extent-size.ensures.count c.requires.before may
