use Rattle.std.proofs.Common.{◌≡◌, None, length, take}
use Rattle.kept_map.proofs.EditedFlats.{found_in}
use Rattle.kept_map.proofs.flats.FlatsAfterFlatStatements.find.Given as goal

abbrev pub invariant-loop-other : goal.invariant-loop-other
invariant-loop-other l = found_in l.self.edited.now l.name (take (length l.yielded) l.self.names.now.entries) ≡ None
