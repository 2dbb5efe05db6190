use Rattle.map_nums.specs.Grids.{constant}
use Rattle.layer_tiles.specs.Wholes.{IsCut}
use Rattle.layer_tiles.proofs.cuts.constant_tiles.Given as goal

abbrev pub invariant-loop-number : goal.invariant-loop-number
invariant-loop-number l = IsCut l.extent (constant l.extent l.cell).cells l.number l.patch
