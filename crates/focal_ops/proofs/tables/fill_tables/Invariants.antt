use Rattle.std.proofs.Common.{◌≡◌, ℕ, ◌+◌, ◌*◌, ◌^◌, ◌<◌, length}
use Rattle.focal_ops.specs.Extremes.{IsTable}
use Rattle.focal_ops.proofs.tables.fill_tables.Given as goal

abbrev pub invariant-loop-p : goal.invariant-loop-p
invariant-loop-p l = record {
  width : l.width ≡ 2 ^ l.p;
  here : l.here ≡ l.p * length l.square;
  tables : (q : ℕ) → q < l.p + 1 → IsTable l.least l.square q (2 ^ q) l.tables;
}
