use Rattle.std.proofs.Common.{◌≡◌, ◌^◌, [], subst, sym, ◌∙◌, arith}
use Rattle.std.proofs.lemmas.List.{nil_from_length}
use Rattle.std.specs.BinaryHeap.{heap_items}
use Rattle.least_costs.specs.Entries.{IsEntryHeap}
use Rattle.least_costs.proofs.Entries.{popped_heap, popped_key, popped_near, popped_far, least_near, least_far}
use Rattle.least_costs.proofs.queue.Queue.pop.Goals as goal

pub invariant_of-self : goal.invariant_of-self
invariant_of-self c =
    (popped_heap 0 (2 ^ 43) _ _ _ c.in-Some.ensures.permutation c.self.invariant.0 c.in-Some.ensures.heap_order, c.self.invariant.1)

pub returns-in-Some-clause-entry : goal.returns-in-Some-clause-entry
returns-in-Some-clause-entry c = rw (← c.self.view_is) (popped_near c.in-Some.field-0 _ _ _ c.in-Some.ensures.permutation)

pub returns-in-Some-clause-least : goal.returns-in-Some-clause-least
returns-in-Some-clause-least c =
    let within = popped_key 0 (2 ^ 43) _ _ _ c.in-Some.ensures.permutation c.self.invariant.0 in
    let bound = (c.in-Some.ensures.heap_order c.self.invariant.0.order).1 in
    rw (← c.self.view_is) (least_near c.in-Some.field-0 _ _ (2 ^ 43) (2 ^ 64) (omega (arith, within.1)) bound c.self.invariant.1)

pub invariant_of-self-2 : goal.invariant_of-self-2
invariant_of-self-2 c =
    let pop = c.in-Some-pop.ensures in
    let near = subst (IsEntryHeap 0 (2 ^ 43)) (sym c.in_default.ensures.unchanged.0) c.self.invariant.0 in
    (near, popped_heap (2 ^ 43) (2 ^ 64) _ _ _ pop.permutation c.self.invariant.1 pop.heap_order)

pub returns-clause-entry : goal.returns-clause-entry
returns-clause-entry c =
    let near = c.self.inside.near in
    let empty : heap_items near ≡ [] = nil_from_length _ (omega (arith, near.data.ok.0, c.in_default.ensures.none)) in
    let still = c.in_default.ensures.unchanged.0 ∙ empty in
    rw (← c.self.view_is) (popped_far c.in-Some-pop.field-0 _ _ _ _ empty still c.in-Some-pop.ensures.permutation)

pub returns-clause-least : goal.returns-clause-least
returns-clause-least c =
    let near = c.self.inside.near in
    let empty : heap_items near ≡ [] = nil_from_length _ (omega (arith, near.data.ok.0, c.in_default.ensures.none)) in
    let bound = (c.in-Some-pop.ensures.heap_order c.self.invariant.1.order).1 in
    rw (← c.self.view_is) (least_far c.in-Some-pop.field-0 _ (heap_items c.self.inside.far) empty bound)
