use Rattle.focal_ops.specs.Kinds.{AreKinds, HaveSlots}
use Rattle.focal_ops.proofs.kinds.count_kinds.Given as goal

abbrev pub invariant-loop-i : goal.invariant-loop-i
invariant-loop-i l = record {
  kinds : AreKinds l.numbers l.i l.kinds.values l.kinds.counts l.count;
  slots : HaveSlots l.slots l.kinds.values l.count;
}
