use Rattle.std.proofs.Common.{sym, subst, List, []}
use Rattle.map_nums.specs.Grids.{cell_at}
use Rattle.zonal_totals.specs.declared.entries.Entry.{Entry}
use Rattle.zonal_totals.specs.declared.steps.Step.{Step}
use Rattle.zonal_totals.specs.Books.{tile_number}
use Rattle.zonal_totals.specs.Merges.{Fits, IsMerged}
use Rattle.zonal_totals.proofs.Ranging.{whole_fits, whole_book}
use Rattle.zonal_totals.proofs.books.Book.of_whole.Goals as goal

pub after-requires-clause-fits : goal.after-requires-clause-fits
after-requires-clause-fits c =
    let s = c.args.extent in
    subst (λ (l : List Entry). Fits l c.values.result.now) (sym c.new-none.ensures)
    (subst (λ (l : List Step). Fits [] l) (sym c.values.ensures)
    (whole_fits s c.tiles-size.ensures.size c.requires.1 (cell_at c.requires.0) _ c.args.all.now.values c.requires.2.value_counts))

pub after-requires-2-clause-fits : goal.after-requires-2-clause-fits
after-requires-2-clause-fits c =
    let s = c.args.extent in
    subst (λ (l : List Entry). Fits l c.tiles.result.now) (sym c.new-none.ensures)
    (subst (λ (l : List Step). Fits [] l) (sym c.tiles.ensures)
    (whole_fits s c.tiles-size.ensures.size c.requires.1 (tile_number s) _ c.args.all.now.tiles c.requires.2.tile_counts))

pub returns-clause-book : goal.returns-clause-book
returns-clause-book c = λ values zones h.
    let fs = c.in_ok-after.field-0 in
    let fs' = c.in_ok-after-2.field-0 in
    whole_book c.args.extent c.tiles-size.ensures.size values zones c.args.all.now h fs fs'
    (subst (λ (l : List Step). IsMerged [] l fs) c.values.ensures (subst (λ (l : List Entry). IsMerged l c.values.result.now fs) c.new-none.ensures c.in_ok-after.ensures))
    (subst (λ (l : List Step). IsMerged [] l fs') c.tiles.ensures (subst (λ (l : List Entry). IsMerged l c.tiles.result.now fs') c.new-none.ensures c.in_ok-after-2.ensures))
