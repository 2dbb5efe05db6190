use Rattle.std.proofs.Common.{◌≡◌, ◌*◌}
use Rattle.std.proofs.lemmas.List.Filters.{FiltersInPlace}
use Rattle.layer_tiles.specs.Narrowed.{is_other_tile}
use Rattle.layer_tiles.specs.Tallies.{looked}
use Rattle.layer_tiles.proofs.narrows.narrow_tiles.Given as goal

abbrev pub invariant-loop-i : goal.invariant-loop-i
invariant-loop-i g l = record {
  filters : FiltersInPlace (is_other_tile l.layer.size l.layer.cells) l.initial.tiles.items l.tiles.items l.kept l.i;
  looks : g.M.Tally.counts l.tally ≡ looked (2 * l.i) (g.M.Tally.counts l.initial.tally);
}
