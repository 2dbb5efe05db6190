use Rattle.map_sample.proofs.LinePlaces.{paint_at}
use Rattle.map_sample.proofs.lines.sample_line.Goals as goal

pub returns-then-k-lt56 : goal.returns-then-k-lt56
returns-then-k-lt56 c = rw (paint_at c.args.side c.args.k c.if-k-lt6.false c.if-k-lt56.true) c.paint.ensures
