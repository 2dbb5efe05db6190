use Rattle.std.proofs.Common.{[]}
use Rattle.map_marks.proofs.Dropping.{others_within}
use Rattle.map_marks.proofs.marks.Marks.exchange.Goals as goal

pub overflow_sub-replaced-2 : goal.overflow_sub-replaced-2
overflow_sub-replaced-2 c = others_within c.args.self.now c.args.mark.name _ [] _ _ c.count_with.ensures c.count.ensures
