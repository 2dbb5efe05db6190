use Rattle.std.proofs.Common.{◌*◌}
use Rattle.layer_tiles.specs.Tallies.{RisesBy}
use Rattle.layer_tiles.specs.Tiles.{tiles_across}
use Rattle.sight_lines.specs.Found.{IsFound}
use Rattle.sight_lines.specs.Searches.{looks_below, band_start}
use Rattle.sight_lines.proofs.searches.search.Given as goal

abbrev pub invariant-loop-band : goal.invariant-loop-band
invariant-loop-band g l = record {
  found : IsFound l.of.cells (band_start l.of.size l.band) l.pairs.items l.count;
  looks : RisesBy (looks_below l.all l.of.touched (l.band * tiles_across l.of.size)) 0 (g.M.Tally.counts l.initial.tally) (g.M.Tally.counts l.tally);
}
