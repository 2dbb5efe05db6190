use Rattle.std.proofs.Common.{◌≡◌, ◌∙◌, ap, sym, length}
use Rattle.std.specs.Prelude.{filter, is_some}
use Rattle.map_nums.specs.Grids.{Cells, cells_in, cell_at, places}
use Rattle.region_labels.specs.Lists.{ListState}
use Rattle.region_labels.proofs.Listing.{labels_counted}
use Rattle.region_labels.proofs.first.labels_of.Goals as goal

pub returns-clause-count : goal.returns-clause-count
returns-clause-count c =
    let s = c.args.extent in
    let labels = c.label_all.new.list.labels in
    let full : length labels ≡ cells_in s = c.in_ok-count.ensures.regions.full ∙ ap (λ (l : ListState). cells_in l.size) c.in_ok-list.ensures in
    c.in_ok-count.ensures.count ∙ labels_counted s labels full ∙ ap (λ (xs : Cells). length (filter (λ i. is_some (cell_at xs i)) (places s))) (sym c.into_labels.ensures)
