use Rattle.layer_tiles.specs.Operands.{cells_after}
use Rattle.map_defs.specs.Operate.{operand}
use Rattle.op_jobs.proofs.Ranging.{direction_answer, operand_is}
use Rattle.op_jobs.proofs.kernels.tile_of_directions.Goals as goal

pub returns-in-Ok-clause-answer : goal.returns-in-Ok-clause-answer
returns-in-Ok-clause-answer g c =
    let s = c.args.extent in
    let first = c.at-first.result.now in
    let is = operand_is c.args.operands.now first c.at-first.ensures s c.requires.one_size in
    direction_answer s first.size (operand (cells_after c.args.operands.now) 0) first.cells c.args.tile c.in-Ok.made is.0 is.1 c.in-Ok.ensures.tile
