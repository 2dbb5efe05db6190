use Rattle.layer_tiles.specs.Tiles.{ArePut}
use Rattle.layer_tiles.proofs.tiles.put_cells.Given as goal

abbrev pub invariant-loop-c : goal.invariant-loop-c
invariant-loop-c l = ArePut l.first l.c l.cells l.initial.list l.list
