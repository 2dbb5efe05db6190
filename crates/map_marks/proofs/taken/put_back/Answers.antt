use Rattle.std.proofs.Common.{arith}
use Rattle.map_marks.proofs.Taking.{one_back}
use Rattle.map_marks.proofs.taken.put_back.Goals as goal

pub loop-place-preserved : goal.loop-place-preserved
loop-place-preserved c = record {
  given = one_back c.loop-place.marks.items c.put_at.new.marks.items c.loop-place.taken.items c.pop.new.self.items c.in-Some.field-0 _ c.in-Some.ensures.items c.put_at.ensures.items c.loop-place.invariant.given;
  room = omega (arith, c.in-Some.ensures.cases);
}
