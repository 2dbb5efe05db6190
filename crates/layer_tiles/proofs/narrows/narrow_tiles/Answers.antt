use Rattle.std.proofs.Common.{not, sym, ap, ◌∙◌, arith}
use Rattle.std.proofs.lemmas.List.Filters.{FiltersInPlace-more_swap, FiltersInPlace-more_no}
use Rattle.layer_tiles.specs.Tallies.{TallyState, looked}
use Rattle.layer_tiles.proofs.Narrowing.{left_entry, looked_twice}
use Rattle.layer_tiles.proofs.narrows.narrow_tiles.Goals as goal
use Rattle.layer_tiles.proofs.narrows.narrow_tiles.Goals.{then-not-is_layers, else-not-is_layers}

pub is_layers-requires-clause-within : goal.is_layers-requires-clause-within
is_layers-requires-clause-within g c =
    let f = c.loop-i.invariant.filters in
    (left_entry c.args.layer.now.size c.args.tiles.now.items c.loop-i.tiles.items c.loop-i.i c.index.result.now c.requires f.rest (omega (arith, f.long)) c.index.ensures).within

pub is_layers-requires-clause-size : goal.is_layers-requires-clause-size
is_layers-requires-clause-size g c =
    let f = c.loop-i.invariant.filters in
    (left_entry c.args.layer.now.size c.args.tiles.now.items c.loop-i.tiles.items c.loop-i.i c.index.result.now c.requires f.rest (omega (arith, f.long)) c.index.ensures).size

pub loop-i-preserved : goal.loop-i-preserved
loop-i-preserved g c =
    let f = c.loop-i.invariant.filters in
    let same = c.is_layers.ensures.same in
    record {
      filters = elim c.if-not-is_layers.branch [
        | then-not-is_layers w ↦ rw (w.tiles-is, w.kept-is) (FiltersInPlace-more_swap f (omega (arith, f.long)) (ap not (sym same ∙ w.if-not-is_layers.true)) c.index.ensures w.swap.ensures.by_index)
        | else-not-is_layers w ↦ rw (w.tiles-is, w.kept-is) (FiltersInPlace-more_no f (omega (arith, f.long)) (ap not (sym same ∙ w.if-not-is_layers.false)) c.index.ensures)
      ];
      looks = c.is_layers.ensures.looks ∙ ap (λ (t : TallyState). looked 2 t) c.loop-i.invariant.looks ∙ looked_twice c.loop-i.i _;
    }
