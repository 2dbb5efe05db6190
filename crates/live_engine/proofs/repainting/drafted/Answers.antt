use Rattle.std.proofs.Common.{◌≡◌, false, sym, ◌∙◌}
use Rattle.map_edits.specs.Painting.{is_within, painted}
use Rattle.edit_plans.proofs.There.{none_where}
use Rattle.kept_map.specs.Maps.{grid_of, seen}
use Rattle.kept_map.proofs.SourceLayers.{layer_at, source_at}
use Rattle.live_engine.specs.Painting.{rectangle_of}
use Rattle.live_engine.proofs.Drafting.{size_refused}
use Rattle.live_engine.proofs.Accepting.{accept_refused}
use Rattle.live_engine.proofs.Unpainted.{paint_outside, paint_reads, paint_draft}
use Rattle.live_engine.proofs.repainting.drafted.Goals as goal

pub no_source-requires-clause-none : goal.no_source-requires-clause-none
no_source-requires-clause-none g c = sym c.get_index_of.ensures.index ∙ none_where c.get_index_of.result c.in_default.not-Some

pub returns-in_default-clause-drafted : goal.returns-in_default-clause-drafted
returns-in_default-clause-drafted g c = c.no_source.ensures (rectangle_of c.args.rectangle) c.args.cell

pub returns-then-not-is_within-clause-drafted : goal.returns-then-not-is_within-clause-drafted
returns-then-not-is_within-clause-drafted g c =
    let m = c.args.map.now in
    let n = c.args.name in
    let r = rectangle_of c.args.rectangle in
    let at = sym c.get_index_of.ensures.index ∙ c.in-Some.is in
    let k = layer_at m.sources n c.requires.kept.sources.count c.in-Some.place at in
    let out : is_within m.extent r ≡ false = sym c.is_within.ensures ∙ c.if-not-is_within.true in
    let outside = paint_outside m c.requires.kept n r c.args.cell k.0 (source_at m.sources n c.in-Some.place at ∙ k.1) out in
    size_refused (seen m) _ _ _ (accept_refused (seen m) _ _ outside) c.rows.ensures.rows c.columns.ensures.columns

pub returns-in_err-patch-clause-reads : goal.returns-in_err-patch-clause-reads
returns-in_err-patch-clause-reads g c =
    let at = sym c.get_index_of.ensures.index ∙ c.in-Some.is in
    let on = sym c.is_within.ensures ∙ c.if-not-is_within.false in
    (paint_reads c.args.map.now c.requires.kept c.args.name c.args.rectangle c.args.cell c.requires.formed.0 _ at c.index-layer.result.now c.index-layer.ensures on _ _ c.changed_by_paint.ensures.tally).0

pub returns : goal.returns
returns g c =
    let m = c.args.map.now in
    let at = sym c.get_index_of.ensures.index ∙ c.in-Some.is in
    let on = sym c.is_within.ensures ∙ c.if-not-is_within.false in
    let l = c.index-layer.result.now in
    let p = c.in_ok-patch.ensures in
    let read = paint_reads m c.requires.kept c.args.name c.args.rectangle c.args.cell c.requires.formed.0 _ at l c.index-layer.ensures on _ _ c.changed_by_paint.ensures.tally in
    record {
      drafted = (
        painted m.extent (rectangle_of c.args.rectangle) c.args.cell (grid_of l),
        paint_draft m c.requires.kept c.args.name c.args.rectangle c.args.cell c.requires.formed.0 c.in-Some.place at l c.index-layer.ensures on _ _ p.size p.cells p.operand p.met,
      );
      reads = read.0;
      looks = read.1;
    }
