use Rattle.std.proofs.Common.{◌≡◌, length, get_or, set, Some, None, rules, sym, ◌∙◌, ap, arith}
use mir.Syntax.{w128}
use mir.Val.{SFits, to_z, of_z}
use Rattle.std.proofs.lemmas.Int.{ints, to_z-of_z}
use Rattle.std.proofs.lemmas.List.{get_or_default, length-set}
use Rattle.drainage_flow.specs.Pouring.{down_in, flow_in, place_in}
use Rattle.drainage_flow.specs.FlowBands.{all_downs, all_flows, counts_of, AreEven, IsSeat}
use Rattle.drainage_flow.specs.declared.flow_band.FlowBand.{FlowBand}
use Rattle.drainage_flow.proofs.Seats.{seat_within, even_at, counts_set, even_set, down_here, flow_here, passes_none, passes_stop, left_even, next_seat, flow_there, taken_even, taken_counts, passes_ready, passes_waits, told}
use Rattle.drainage_flow.proofs.pouring.pass_on.Goals as goal
use Rattle.drainage_flow.proofs.pouring.pass_on.Goals.{After-index-bands-m}

pub down-requires : goal.down-requires
down-requires c = (seat_within c.args.bands.now c.args.at c.seat-k.result.0 c.seat-k.result.1 c.index-bands-k.result c.seat-k.ensures.seat).1

pub returns-in_default-clause-passes : goal.returns-in_default-clause-passes
returns-in_default-clause-passes c = passes_none c.args.bands.now c.requires.even c.args.first c.args.at c.seat-k.result.0 c.seat-k.result.1 c.index-bands-k.result c.seat-k.ensures.seat (sym c.in_default.ensures)

-- ---- it stays ready

pub stop-requires : goal.stop-requires
stop-requires c =
    let bs = c.args.bands.now in
    let k = c.seat-k.result.0 in
    let e = c.index-bands-k-in_default-place_in.result in
    omega (arith, (seat_within bs c.args.at k c.seat-k.result.1 e c.seat-k.ensures.seat).1, (even_at bs k e c.requires.even c.seat-k.ensures.band).0)

pub returns-in_default-place_in-clause-even : goal.returns-in_default-place_in-clause-even
returns-in_default-place_in-clause-even c =
    let bs = c.args.bands.now in
    let k = c.seat-k.result.0 in
    let e = c.index-bands-k-in_default-place_in.result in
    let h = even_at bs k e c.requires.even c.seat-k.ensures.band in
    let x = c.stop.ensures in
    even_set bs k c.stop.new.self c.requires.even (ap length x.waits ∙ length-set (get_or bs k e).waits.items c.seat-k.result.1 0 ∙ h.0 ∙ sym (ap length x.downs)) (ap length x.flows ∙ h.1 ∙ sym (ap length x.downs))

pub returns-in_default-place_in-clause-counts : goal.returns-in_default-place_in-clause-counts
returns-in_default-place_in-clause-counts c = counts_set c.args.bands.now c.seat-k.result.0 c.stop.new.self c.index-bands-k-in_default-place_in.result (ap length c.stop.ensures.downs)

pub returns-in_default-place_in-clause-passes : goal.returns-in_default-place_in-clause-passes
returns-in_default-place_in-clause-passes c =
    let bs = c.args.bands.now in
    let k = c.seat-k.result.0 in
    let i = c.seat-k.result.1 in
    let e = c.index-bands-k-in_default-place_in.result in
    let same = get_or_default bs k e c.index-bands-k.result c.seat-k.ensures.band in
    let to : down_in (get_or bs k e).downs.items i ≡ Some c.in-Some.down = ap (λ (b : FlowBand). down_in b.downs.items i) same ∙ sym c.in-Some.ensures in
    let out : place_in c.args.first (length (all_downs bs)) c.in-Some.down ≡ None = ap (λ n. place_in c.args.first n c.in-Some.down) (sym c.requires.count) ∙ sym c.in_default-place_in.ensures in
    passes_stop bs c.requires.even c.args.first c.args.at k i e c.seat-k.ensures.seat c.stop.new.self c.in-Some.down to out c.stop.ensures.downs c.stop.ensures.waits c.stop.ensures.flows

-- ---- it passes on what it has

pub leave-amount-requires-clause-down : goal.leave-amount-requires-clause-down
leave-amount-requires-clause-down c = (seat_within c.args.bands.now c.args.at c.seat-k.result.0 c.seat-k.result.1 c.index-bands-k-2.result c.seat-k.ensures.seat).1

pub leave-amount-requires-clause-flow : goal.leave-amount-requires-clause-flow
leave-amount-requires-clause-flow c =
    let bs = c.args.bands.now in
    let k = c.seat-k.result.0 in
    let e = c.index-bands-k-2.result in
    omega (arith, (seat_within bs c.args.at k c.seat-k.result.1 e c.seat-k.ensures.seat).1, (even_at bs k e c.requires.even c.seat-k.ensures.band).1)

to : (c : After-index-bands-m) → down_in (get_or c.args.bands.now c.seat-k.result.0 c.index-bands-k-2.result).downs.items c.seat-k.result.1 ≡ Some c.in-Some.down
to c = ap (λ (b : FlowBand). down_in b.downs.items c.seat-k.result.1) (get_or_default c.args.bands.now c.seat-k.result.0 c.index-bands-k-2.result c.index-bands-k.result c.seat-k.ensures.band) ∙ sym c.in-Some.ensures

inside : (c : After-index-bands-m) → place_in c.args.first (length (all_downs c.args.bands.now)) c.in-Some.down ≡ Some c.in-Some-place_in.next
inside c = ap (λ n. place_in c.args.first n c.in-Some.down) (sym c.requires.count) ∙ sym c.in-Some-place_in.ensures

amount : (c : After-index-bands-m) → to_z w128 (of_z w128 c.leave-amount.result) ≡ flow_in (get_or c.args.bands.now c.seat-k.result.0 c.index-bands-k-2.result).flows.items c.seat-k.result.1
amount c = let fits : SFits w128 c.leave-amount.result = search rules in to_z-of_z w128 c.leave-amount.result fits ∙ c.leave-amount.ensures.amount

after : (c : After-index-bands-m) → AreEven (set c.args.bands.now c.seat-k.result.0 c.leave-amount.new.self)
after c = let x = c.leave-amount.ensures in left_even c.args.bands.now c.requires.even c.args.first c.args.at c.seat-k.result.0 c.seat-k.result.1 c.index-bands-k-2.result c.seat-k.ensures.seat c.leave-amount.new.self c.in-Some.down (to c) x.downs x.waits x.flows

next : (c : After-index-bands-m) → IsSeat (counts_of (set c.args.bands.now c.seat-k.result.0 c.leave-amount.new.self)) c.in-Some-place_in.next c.seat-m.result.0 c.seat-m.result.1
next c =
    let x = c.leave-amount.ensures in
    next_seat c.args.bands.now c.requires.even c.args.first c.args.at c.seat-k.result.0 c.seat-k.result.1 c.index-bands-k-2.result c.seat-k.ensures.seat c.leave-amount.new.self c.in-Some.down (to c) x.downs x.waits x.flows
    c.in-Some-place_in.next c.seat-m.result.0 c.seat-m.result.1 c.index-bands-m.result (inside c) c.seat-m.ensures.seat

pub take_in-requires-clause-wait : goal.take_in-requires-clause-wait
take_in-requires-clause-wait c =
    let d = (goal.at.take_in-requires-clause-wait c).After-index-bands-m in
    let w = seat_within (set c.args.bands.now c.seat-k.result.0 c.leave-amount.new.self) c.in-Some-place_in.next c.seat-m.result.0 c.seat-m.result.1 c.index-bands-m.result (next d) in
    omega (arith, w.1, (even_at (set c.args.bands.now c.seat-k.result.0 c.leave-amount.new.self) c.seat-m.result.0 c.index-bands-m.result (after d) w.0).0)

pub take_in-requires-clause-flow : goal.take_in-requires-clause-flow
take_in-requires-clause-flow c =
    let d = (goal.at.take_in-requires-clause-flow c).After-index-bands-m in
    let w = seat_within (set c.args.bands.now c.seat-k.result.0 c.leave-amount.new.self) c.in-Some-place_in.next c.seat-m.result.0 c.seat-m.result.1 c.index-bands-m.result (next d) in
    omega (arith, w.1, (even_at (set c.args.bands.now c.seat-k.result.0 c.leave-amount.new.self) c.seat-m.result.0 c.index-bands-m.result (after d) w.0).1)

there : (c : After-index-bands-m) → flow_in (get_or (set c.args.bands.now c.seat-k.result.0 c.leave-amount.new.self) c.seat-m.result.0 c.index-bands-m.result).flows.items c.seat-m.result.1 ≡ flow_in (all_flows c.args.bands.now) c.in-Some-place_in.next
there c =
    let x = c.leave-amount.ensures in
    flow_there c.args.bands.now c.requires.even c.args.first c.args.at c.seat-k.result.0 c.seat-k.result.1 c.index-bands-k-2.result c.seat-k.ensures.seat c.leave-amount.new.self c.in-Some.down (to c) x.downs x.waits x.flows
    c.in-Some-place_in.next c.seat-m.result.0 c.seat-m.result.1 c.index-bands-m.result (inside c) c.seat-m.ensures.seat

here : (c : After-index-bands-m) → flow_in (all_flows c.args.bands.now) c.args.at ≡ to_z w128 (of_z w128 c.leave-amount.result)
here c = flow_here c.args.bands.now c.requires.even c.args.first c.args.at c.seat-k.result.0 c.seat-k.result.1 c.index-bands-k-2.result c.seat-k.ensures.seat ∙ sym (amount c)

down : (c : After-index-bands-m) → down_in (all_downs c.args.bands.now) c.args.at ≡ Some c.in-Some.down
down c = down_here c.args.bands.now c.requires.even c.args.first c.args.at c.seat-k.result.0 c.seat-k.result.1 c.index-bands-k-2.result c.seat-k.ensures.seat ∙ to c

pub take_in-requires-clause-low : goal.take_in-requires-clause-low
take_in-requires-clause-low c =
    let d = (goal.at.take_in-requires-clause-low c).After-index-bands-m in
    let low = told _ _ c.in-Some-place_in.next (sym c.in-Some-place_in.ensures) (told _ _ c.in-Some.down (down d) c.requires.low) in
    omega (arith, ints, low, there d, here d)

pub take_in-requires-clause-high : goal.take_in-requires-clause-high
take_in-requires-clause-high c =
    let d = (goal.at.take_in-requires-clause-high c).After-index-bands-m in
    let high = told _ _ c.in-Some-place_in.next (sym c.in-Some-place_in.ensures) (told _ _ c.in-Some.down (down d) c.requires.high) in
    omega (arith, ints, high, there d, here d)

pub returns-then-take_in-clause-even : goal.returns-then-take_in-clause-even
returns-then-take_in-clause-even c =
    let d = (goal.at.returns-then-take_in-clause-even c).After-index-bands-m in
    let x = c.leave-amount.ensures in
    let y = c.take_in.ensures in
    taken_even c.args.bands.now c.requires.even c.args.first c.args.at c.seat-k.result.0 c.seat-k.result.1 c.index-bands-k-2.result c.seat-k.ensures.seat c.leave-amount.new.self c.in-Some.down (to d) x.downs x.waits x.flows
    c.in-Some-place_in.next c.seat-m.result.0 c.seat-m.result.1 c.index-bands-m.result (inside d) c.seat-m.ensures.seat c.take_in.new.self c.take_in.result (to_z w128 (of_z w128 c.leave-amount.result)) (amount d) y.downs y.waits y.flows

pub returns-then-take_in-clause-counts : goal.returns-then-take_in-clause-counts
returns-then-take_in-clause-counts c =
    let d = (goal.at.returns-then-take_in-clause-counts c).After-index-bands-m in
    let x = c.leave-amount.ensures in
    let y = c.take_in.ensures in
    taken_counts c.args.bands.now c.requires.even c.args.first c.args.at c.seat-k.result.0 c.seat-k.result.1 c.index-bands-k-2.result c.seat-k.ensures.seat c.leave-amount.new.self c.in-Some.down (to d) x.downs x.waits x.flows
    c.in-Some-place_in.next c.seat-m.result.0 c.seat-m.result.1 c.index-bands-m.result (inside d) c.seat-m.ensures.seat c.take_in.new.self c.take_in.result (to_z w128 (of_z w128 c.leave-amount.result)) (amount d) y.downs y.waits y.flows

pub returns-then-take_in-clause-passes : goal.returns-then-take_in-clause-passes
returns-then-take_in-clause-passes c =
    let d = (goal.at.returns-then-take_in-clause-passes c).After-index-bands-m in
    let x = c.leave-amount.ensures in
    let y = c.take_in.ensures in
    passes_ready c.args.bands.now c.requires.even c.args.first c.args.at c.seat-k.result.0 c.seat-k.result.1 c.index-bands-k-2.result c.seat-k.ensures.seat c.leave-amount.new.self c.in-Some.down (to d) x.downs x.waits x.flows
    c.in-Some-place_in.next c.seat-m.result.0 c.seat-m.result.1 c.index-bands-m.result (inside d) c.seat-m.ensures.seat c.take_in.new.self c.take_in.result (to_z w128 (of_z w128 c.leave-amount.result)) (amount d) y.downs y.waits y.flows c.if-take_in.true

pub returns-clause-even : goal.returns-clause-even
returns-clause-even c =
    let d = (goal.at.returns-clause-even c).After-index-bands-m in
    let x = c.leave-amount.ensures in
    let y = c.take_in.ensures in
    taken_even c.args.bands.now c.requires.even c.args.first c.args.at c.seat-k.result.0 c.seat-k.result.1 c.index-bands-k-2.result c.seat-k.ensures.seat c.leave-amount.new.self c.in-Some.down (to d) x.downs x.waits x.flows
    c.in-Some-place_in.next c.seat-m.result.0 c.seat-m.result.1 c.index-bands-m.result (inside d) c.seat-m.ensures.seat c.take_in.new.self c.take_in.result (to_z w128 (of_z w128 c.leave-amount.result)) (amount d) y.downs y.waits y.flows

pub returns-clause-counts : goal.returns-clause-counts
returns-clause-counts c =
    let d = (goal.at.returns-clause-counts c).After-index-bands-m in
    let x = c.leave-amount.ensures in
    let y = c.take_in.ensures in
    taken_counts c.args.bands.now c.requires.even c.args.first c.args.at c.seat-k.result.0 c.seat-k.result.1 c.index-bands-k-2.result c.seat-k.ensures.seat c.leave-amount.new.self c.in-Some.down (to d) x.downs x.waits x.flows
    c.in-Some-place_in.next c.seat-m.result.0 c.seat-m.result.1 c.index-bands-m.result (inside d) c.seat-m.ensures.seat c.take_in.new.self c.take_in.result (to_z w128 (of_z w128 c.leave-amount.result)) (amount d) y.downs y.waits y.flows

pub returns-clause-passes : goal.returns-clause-passes
returns-clause-passes c =
    let d = (goal.at.returns-clause-passes c).After-index-bands-m in
    let x = c.leave-amount.ensures in
    let y = c.take_in.ensures in
    passes_waits c.args.bands.now c.requires.even c.args.first c.args.at c.seat-k.result.0 c.seat-k.result.1 c.index-bands-k-2.result c.seat-k.ensures.seat c.leave-amount.new.self c.in-Some.down (to d) x.downs x.waits x.flows
    c.in-Some-place_in.next c.seat-m.result.0 c.seat-m.result.1 c.index-bands-m.result (inside d) c.seat-m.ensures.seat c.take_in.new.self c.take_in.result (to_z w128 (of_z w128 c.leave-amount.result)) (amount d) y.downs y.waits y.flows c.if-take_in.false
