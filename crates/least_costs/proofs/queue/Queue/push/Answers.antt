use Rattle.std.proofs.Common.{◌^◌, ◌<◌, ◌≤◌, arith}
use Rattle.least_costs.proofs.Entries.{pushed_heap, pushed_near, pushed_far}
use Rattle.least_costs.proofs.queue.Queue.push.Goals as goal

pub invariant_of-self-then-key-lt-FAR : goal.invariant_of-self-then-key-lt-FAR
invariant_of-self-then-key-lt-FAR c =
    let least : 0 ≤ c.args.key = omega arith in
    let made = pushed_heap _ c.args.key c.args.at (omega (arith, c.from.ensures)) (omega (arith, c.requires)) 0 (2 ^ 43) in
    let push = c.in_ok-push.ensures in
    (made _ _ least c.if-key-lt-FAR.true push.heap_order push.permutation c.self.invariant.0, c.self.invariant.1)

pub returns-then-key-lt-FAR : goal.returns-then-key-lt-FAR
returns-then-key-lt-FAR c =
    rw (← c.self.view_is)
    (pushed_near _ c.args.key c.args.at (omega (arith, c.from.ensures)) (omega (arith, c.requires)) _ _ _ c.in_ok-push.ensures.permutation)

pub invariant_of-self-2 : goal.invariant_of-self-2
invariant_of-self-2 c =
    let most : c.args.key < 2 ^ 64 = omega (arith, c.ranges.key) in
    let made = pushed_heap _ c.args.key c.args.at (omega (arith, c.from-2.ensures, c.from-3.ensures)) (omega (arith, c.requires)) (2 ^ 43) (2 ^ 64) in
    let push = c.in_ok-push-2.ensures in
    (c.self.invariant.0, made _ _ c.if-key-lt-FAR.false most push.heap_order push.permutation c.self.invariant.1)

pub returns : goal.returns
returns c =
    let made = pushed_far _ c.args.key c.args.at (omega (arith, c.from-2.ensures, c.from-3.ensures)) (omega (arith, c.requires)) in
    rw (← c.self.view_is) (made _ _ _ c.in_ok-push-2.ensures.permutation)
