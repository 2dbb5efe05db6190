use Rattle.std.proofs.Common.{List, sym, subst}
use Rattle.layer_tiles.specs.Tiles.{tiles_in}
use Rattle.zonal_totals.specs.Ranges.{CountsState, AreRanges}
use Rattle.op_jobs.proofs.Bands.{counts_kind}
use Rattle.op_jobs.proofs.ZonalParts.{ranges_are}
use Rattle.op_jobs.proofs.zonal_parts.counted_book.Goals as goal

pub all_of-requires : goal.all_of-requires
all_of-requires c = λ k p e. counts_kind _ k _ _ _ p (c.requires.2.each k p e)

pub of_counts-requires : goal.of_counts-requires
of_counts-requires c =
    let P : List CountsState → Type 0 = λ cs. AreRanges c.args.extent c.requires.0 c.requires.1 0 (tiles_in c.args.extent) cs in
    (c.requires.0, c.requires.1, subst P (sym c.deref.ensures.value) (ranges_are c.args.extent c.requires.0 c.requires.1 c.in_ok-all.all.items c.args.parts.items c.requires.2 c.in_ok-all.ensures.count c.in_ok-all.ensures.each))

pub returns-clause-book : goal.returns-clause-book
returns-clause-book c = λ values zones are.
    let P : List CountsState → Type 0 = λ cs. AreRanges c.args.extent values zones 0 (tiles_in c.args.extent) cs in
    c.in_ok-book.ensures.book values zones (subst P (sym c.deref.ensures.value) (ranges_are c.args.extent values zones c.in_ok-all.all.items c.args.parts.items are c.in_ok-all.ensures.count c.in_ok-all.ensures.each))
