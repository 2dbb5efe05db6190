use Rattle.std.proofs.Common.{◌≡◌, ◌+◌, ◌≤◌, ◌++◌, map, length, Some, vec_capacity}
use Rattle.std.specs.Vec.Iter.{drain_items}
use Rattle.kept_map.proofs.placing.move_out.Given as goal

abbrev pub invariant-loop-one : goal.invariant-loop-one
invariant-loop-one l =
    (goal.iterator-loop-one).can_next l.one-iterator ×
    (goal.iterator-loop-one).is_finite l.one-iterator ×
    (l.slots.items ++ map (λ k. Some k) (drain_items l.one-iterator) ≡ map (λ k. Some k) l.fn.kept.items) ×
    (length l.slots.items + length (drain_items l.one-iterator) ≤ vec_capacity l.slots)
