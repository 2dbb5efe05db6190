use Rattle.std.proofs.Common.{◌*◌}
use Rattle.layer_tiles.specs.Tiles.{tiles_across}
use Rattle.layer_tiles.specs.Tallies.{RisesBy}
use Rattle.kept_map.specs.Maps.{grid_of}
use Rattle.live_engine.specs.Painting.{rectangle_of, met_count, ArePainted}
use Rattle.live_engine.proofs.painting.painted_tiles.Given as goal

abbrev pub invariant-loop-row : goal.invariant-loop-row
invariant-loop-row g l = record {
  painted : ArePainted (grid_of l.layer) (rectangle_of l.rectangle) l.cell (l.row * tiles_across l.layer.size) l.patch;
  tally : RisesBy (met_count l.layer.size (rectangle_of l.rectangle) 0 (l.row * tiles_across l.layer.size)) 0 (g.M.Tally.counts l.initial.tally) (g.M.Tally.counts l.tally);
}
