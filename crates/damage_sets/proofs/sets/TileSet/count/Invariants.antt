use Rattle.std.proofs.Common.{◌≡◌, take, Bool}
use Rattle.std.specs.List.{count_by}
use Rattle.damage_sets.proofs.sets.TileSet.count.Given as goal

abbrev pub invariant-loop-mark : goal.invariant-loop-mark
invariant-loop-mark l = l.count ≡ count_by (λ (mark : Bool). mark) (take l.mark-index l.mark-items)
