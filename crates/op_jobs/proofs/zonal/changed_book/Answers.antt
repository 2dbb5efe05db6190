use Rattle.std.proofs.Common.{◌∙◌, ap, IsSome}
use Rattle.layer_tiles.specs.Changes.{cells_before}
use Rattle.damage_sets.specs.Sets.{TileSetState}
use Rattle.op_jobs.proofs.Both.{first_in, second_in, first_is, second_is, one_size}
use Rattle.op_jobs.proofs.ZonalBook.{before_book, was_in_range, zonal_list, looks_one, looks_both}
use Rattle.op_jobs.proofs.zonal.changed_book.Goals as goal

pub changed-requires : goal.changed-requires
changed-requires g c =
    let two = c.both_of.ensures in
    record {
      values_size = (first_is two c.requires.both).size;
      zones_size = (second_is two c.requires.both).size;
      values_before = first_in two (λ o. IsSome o.before) c.requires.right.there;
      zones_before = second_in two (λ o. IsSome o.before) c.requires.right.there;
      right = before_book two c.requires.both c.requires.right;
    }

pub add_zones-requires-clause-set_size : goal.add_zones-requires-clause-set_size
add_zones-requires-clause-set_size g c = ap (λ (d : TileSetState). d.size) c.in_ok-set.ensures.damage ∙ one_size c.both_of.ensures c.requires.both

pub returns-in_err-set-clause-looks : goal.returns-in_err-set-clause-looks
returns-in_err-set-clause-looks g c = looks_one c.both_of.ensures c.requires.both c.requires.right c.damaged.ensures.looks

pub returns-in_err-patch-clause-looks : goal.returns-in_err-patch-clause-looks
returns-in_err-patch-clause-looks g c = looks_both c.both_of.ensures c.requires.both c.requires.right c.damaged.ensures.looks c.changed.ensures.looks

pub returns-in_err-list-clause-looks : goal.returns-in_err-list-clause-looks
returns-in_err-list-clause-looks g c = looks_both c.both_of.ensures c.requires.both c.requires.right c.damaged.ensures.looks c.changed.ensures.looks

pub returns-clause-looks : goal.returns-clause-looks
returns-clause-looks g c = looks_both c.both_of.ensures c.requires.both c.requires.right c.damaged.ensures.looks c.changed.ensures.looks

pub returns-clause-book : goal.returns-clause-book
returns-clause-book g c = rw (c.into_book.ensures, c.both_of.ensures) c.in_ok-patch.ensures.book

pub returns-clause-damage : goal.returns-clause-damage
returns-clause-damage g c =
    let v = c.both_of.result.0.now in
    let z = c.both_of.result.1.now in
    let two = c.both_of.ensures in
    let right = c.requires.right in
    let marks = c.add_zones.ensures.marks (cells_before v) (cells_before z) v.cells z.cells (before_book two c.requires.both right) c.in_ok-patch.ensures.book (was_in_range two c.requires.both right) in
    c.in_ok-list.ensures ∙ zonal_list two c.requires.both right c.in_ok-patch.patch.zones c.in_ok-set.set c.add_zones.new.set c.in_ok-set.ensures.damage c.add_zones.ensures.size c.in_ok-patch.ensures.zones marks
