use Rattle.std.proofs.Common.{◌-◌, ◌+◌, ◌≤◌, length, drop}
use Rattle.zonal_totals.proofs.Joining.{IsJoined}
use Rattle.zonal_totals.proofs.joins.joined.Given as goal

abbrev pub invariant-loop-i : goal.invariant-loop-i
invariant-loop-i l = record {
  within : l.i ≤ length l.one;
  other_within : l.j ≤ length l.other;
  joined : IsJoined l.one l.other (drop l.i l.one) (drop l.j l.other) l.out.items;
}

abbrev pub decreases-loop-i : goal.decreases-loop-i
decreases-loop-i l = (length l.one - l.i) + (length l.other - l.j)
