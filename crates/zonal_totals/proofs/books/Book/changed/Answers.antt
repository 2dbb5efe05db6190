use Rattle.std.proofs.Common.{sym, ◌∙◌, ap, subst, List, None, ℤ}
use Rattle.zonal_totals.specs.declared.steps.Step.{Step}
use Rattle.zonal_totals.specs.Steps.{net_in}
use Rattle.zonal_totals.specs.ZoneLists.{zones_from}
use Rattle.zonal_totals.specs.ChangedZones.{AreChangedZones}
use Rattle.layer_tiles.specs.Changes.{cells_before}
use Rattle.zonal_totals.specs.Books.{BookState}
use Rattle.zonal_totals.proofs.Revising.{value_fits, tile_fits, changed_zones, revised, resized, same_book}
use Rattle.zonal_totals.proofs.books.Book.changed.Goals as goal

pub after-requires-clause-fits : goal.after-requires-clause-fits
after-requires-clause-fits g c =
    let values = c.args.values.now in
    let zones = c.args.zones.now in
    let right = same_book c.args.self.now zones.size c.self.inside.values c.self.inside.tiles _ _ c.requires.zones_size (ap (λ (b : BookState). b.values) c.self.view_is) (ap (λ (b : BookState). b.tiles) c.self.view_is) c.requires.right in
    value_fits values zones c.extent-size.ensures.size c.self.inside.values c.self.inside.tiles c.deref-2.result.now c.in_ok-tile_steps.tile_steps.items right
    (λ p. ap (λ (l : List Step). net_in l p) c.deref-2.ensures.value ∙ c.in_ok-value_steps.ensures.net p ∙ c.in_ok-draft.ensures.values p)
    (λ p. c.in_ok-tile_steps.ensures.net p ∙ c.in_ok-draft.ensures.tiles p)

pub after-requires-2-clause-fits : goal.after-requires-2-clause-fits
after-requires-2-clause-fits g c =
    let values = c.args.values.now in
    let zones = c.args.zones.now in
    let right = same_book c.args.self.now zones.size c.self.inside.values c.self.inside.tiles _ _ c.requires.zones_size (ap (λ (b : BookState). b.values) c.self.view_is) (ap (λ (b : BookState). b.tiles) c.self.view_is) c.requires.right in
    tile_fits values zones c.extent-size.ensures.size c.self.inside.values c.self.inside.tiles c.in_ok-value_steps.value_steps.items c.deref-3.result.now right
    (λ p. c.in_ok-value_steps.ensures.net p ∙ c.in_ok-draft.ensures.values p)
    (λ p. ap (λ (l : List Step). net_in l p) c.deref-3.ensures.value ∙ c.in_ok-tile_steps.ensures.net p ∙ c.in_ok-draft.ensures.tiles p)

pub returns-clause-book : goal.returns-clause-book
returns-clause-book g c =
    let values = c.args.values.now in
    let zones = c.args.zones.now in
    let right = same_book c.args.self.now zones.size c.self.inside.values c.self.inside.tiles _ _ c.requires.zones_size (ap (λ (b : BookState). b.values) c.self.view_is) (ap (λ (b : BookState). b.tiles) c.self.view_is) c.requires.right in
    resized zones.size c.self.inside.extent c.in_ok-after.field-0 c.in_ok-after-2.field-0 values.cells zones.cells (c.requires.zones_size ∙ sym (ap (λ (b : BookState). b.size) c.self.view_is))
    (revised values zones c.extent-size.ensures.size c.self.inside.values c.self.inside.tiles c.deref-2.result.now c.deref-3.result.now right
    (λ p. ap (λ (l : List Step). net_in l p) c.deref-2.ensures.value ∙ c.in_ok-value_steps.ensures.net p ∙ c.in_ok-draft.ensures.values p)
    (λ p. ap (λ (l : List Step). net_in l p) c.deref-3.ensures.value ∙ c.in_ok-tile_steps.ensures.net p ∙ c.in_ok-draft.ensures.tiles p)
    c.in_ok-after.field-0 c.in_ok-after-2.field-0 c.in_ok-after.ensures c.in_ok-after-2.ensures)

pub returns-clause-zones : goal.returns-clause-zones
returns-clause-zones g c =
    let values = c.args.values.now in
    let zones = c.args.zones.now in
    let right = same_book c.args.self.now zones.size c.self.inside.values c.self.inside.tiles _ _ c.requires.zones_size (ap (λ (b : BookState). b.values) c.self.view_is) (ap (λ (b : BookState). b.tiles) c.self.view_is) c.requires.right in
    let ss = c.in_ok-value_steps.value_steps.items in
    subst (λ (l : List ℤ). AreChangedZones l zones.size (cells_before values) (cells_before zones) values.cells zones.cells) (sym (c.in_ok-zones_of.ensures ∙ ap (λ (l : List Step). zones_from None l) c.deref.ensures.value))
    (changed_zones values zones c.extent-size.ensures.size c.self.inside.values c.self.inside.tiles ss c.in_ok-tile_steps.tile_steps.items right
    (λ p. c.in_ok-value_steps.ensures.net p ∙ c.in_ok-draft.ensures.values p)
    (λ p. c.in_ok-tile_steps.ensures.net p ∙ c.in_ok-draft.ensures.tiles p)
    c.in_ok-value_steps.ensures.order)
