use Rattle.std.proofs.Common.{◌≡◌}
use Rattle.region_labels.specs.Moves.{moved_label}
use Rattle.region_labels.proofs.Moving.{moved_to}
use Rattle.region_labels.proofs.bands.move_labels.Given as goal

abbrev pub invariant-loop-k : goal.invariant-loop-k
invariant-loop-k l = l.labels ≡ moved_to (moved_label l.by) l.k l.initial.labels
