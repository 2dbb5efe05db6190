use Rattle.std.proofs.Common.{◌≡◌, take}
use Rattle.kept_map.proofs.copying.copy_all_kept.Given as goal

abbrev pub invariant-loop-one : goal.invariant-loop-one
invariant-loop-one l = l.copies.items ≡ take l.one-index l.kept
