use Rattle.std.proofs.Common.{◌≡◌, take}
use Rattle.layer_tiles.specs.Tallies.{RisesBy}
use Rattle.local_ops.specs.Operands.{size_of, blocks_of}
use Rattle.local_ops.proofs.kernel.lend.Given as goal

abbrev pub invariant-loop-k : goal.invariant-loop-k
invariant-loop-k g l = record {
  views : l.views.items ≡ blocks_of (size_of l.operands) l.tile (take l.k l.operands);
  tally : RisesBy l.k 0 (g.M.Tally.counts l.initial.tally) (g.M.Tally.counts l.tally);
}
