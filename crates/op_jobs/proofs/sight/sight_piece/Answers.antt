use Rattle.map_defs.specs.Operate.{operate}
use Rattle.op_jobs.proofs.Both.{second_is}
use Rattle.op_jobs.proofs.SightDamage.{viewers_on}
use Rattle.op_jobs.proofs.sight.sight_piece.Goals as goal

pub sight_tile-requires-clause-on_map : goal.sight_tile-requires-clause-on_map
sight_tile-requires-clause-on_map g c = viewers_on c.args.extent c.both_of.result.1.now.size _ c.args.viewers.now (second_is c.both_of.ensures c.requires.both).size c.requires.viewers

pub returns-clause-answer : goal.returns-clause-answer
unfolding operate
returns-clause-answer g c = λ t u.
    let size = (second_is c.both_of.ensures c.requires.both).size in
    rw (c.both_of.ensures) (rw (size) at c.sight_tile.ensures.answer c.both_of.result.0.now.cells (rw (c.both_of.ensures) at c.requires.viewers))
