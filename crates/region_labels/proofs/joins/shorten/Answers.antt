use Rattle.std.proofs.Common.{◌≡◌, suc, Some, None, pos, true, ◌∙◌, ap, sym}
use Rattle.std.specs.Prelude.{slice_set, is_some}
use Rattle.std.proofs.lemmas.List.{get_or_default}
use Rattle.map_nums.specs.Grids.{cell_at}
use Rattle.region_labels.proofs.Tying.{shorten_step}
use Rattle.region_labels.proofs.joins.shorten.Goals as goal

pub returns-then-is_some : goal.returns-then-is_some
returns-then-is_some c =
    let labels = c.args.labels.now in
    let at = c.args.at in
    let read = get_or_default labels at c.index-labels-at.result None c.requires.within in
    let some : is_some (cell_at labels at) ≡ true = ap is_some (sym read) ∙ ap is_some (sym c.get.ensures.value) ∙ sym c.is_some.ensures ∙ c.if-is_some.true in
    shorten_step c.args.extent c.args.cells.now labels c.requires.provisional at c.requires.within some _ (ap (slice_set labels at) (c.of.ensures ∙ ap (λ r. Some (pos (suc r))) c.root_of.ensures.root))
