use Rattle.std.proofs.Common.{◌<◌, length, sym, subst}
use Rattle.map_defs.specs.Local.{local_grid}
use Rattle.layer_tiles.specs.Answers.{IsTileAnswer}
use Rattle.layer_tiles.specs.Operands.{cells_after}
use Rattle.layer_tiles.specs.Tiles.{tiles_in}
use Rattle.local_ops.specs.Operations.{op_of}
use Rattle.local_ops.proofs.Numbers.{takes_some}
use Rattle.op_jobs.proofs.Sharing.{size_first}
use Rattle.op_jobs.proofs.kernels.tile_of_local.Goals as goal

pub local_tile-requires-clause-within : goal.local_tile-requires-clause-within
local_tile-requires-clause-within g c =
    let operands = c.args.operands.now in
    let some = (takes_some (op_of c.args.local.now) (length operands) c.requires.takes).0 in
    subst (λ z. c.args.tile < tiles_in z) (sym (size_first c.args.extent operands some c.requires.one_size)) c.requires.within

pub returns-clause-answer : goal.returns-clause-answer
returns-clause-answer g c =
    let operands = c.args.operands.now in
    let some = (takes_some (op_of c.args.local.now) (length operands) c.requires.takes).0 in
    subst (λ z. IsTileAnswer z (local_grid z (op_of c.args.local.now) (cells_after operands)).cells c.args.tile c.local_tile.result) (size_first c.args.extent operands some c.requires.one_size) c.local_tile.ensures.answer
