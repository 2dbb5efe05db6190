use Rattle.map_defs.specs.Operate.{operate}
use Rattle.op_jobs.proofs.Both.{second_is}
use Rattle.op_jobs.proofs.zonal.zonal_piece.Goals as goal

pub returns-clause-answer : goal.returns-clause-answer
unfolding operate
returns-clause-answer g c = λ t u.
    let v = c.both_of.result.0.now in
    let z = c.both_of.result.1.now in
    rw c.both_of.ensures (rw (second_is c.both_of.ensures c.requires.both).size at c.zonal_tile.ensures.answer v.cells (rw c.both_of.ensures at c.requires.right))
