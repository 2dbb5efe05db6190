use Rattle.std.proofs.Common.{◌≡◌, take}
use Rattle.kept_map.proofs.copying.copy_names.Given as goal

abbrev pub invariant-loop-name : goal.invariant-loop-name
invariant-loop-name l = l.copies.keys ≡ take l.name-index l.names.keys
