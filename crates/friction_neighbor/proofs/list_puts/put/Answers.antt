use Rattle.std.proofs.Common.{ap, sym, ◌∙◌, arith}
use Rattle.map_nums.specs.Grids.{cells_in}
use Rattle.friction_neighbor.proofs.Putting.{put_one}
use Rattle.friction_neighbor.proofs.list_puts.put.Goals as goal

pub returns-clause-put : goal.returns-clause-put
returns-clause-put c = put_one c.args.field.now c.args.queue.now c.push.new.self c.args.seen.now c.add.new.self c.args.at c.cost-cost.result c.requires.within c.cost-cost.ensures.value c.in_ok-push.ensures (omega (arith, c.requires.within, c.extent-places.ensures.count, ap cells_in c.requires.size)) (sym c.has.ensures ∙ c.if-has.false) c.in_ok-add.ensures.ok
