use Rattle.std.proofs.Common.{◌+◌, ◌≡◌, subst, arith}
use Rattle.drainage_flow.specs.FlowBands.{counts_of, IsSeat}
use Rattle.drainage_flow.proofs.Seats.{seat_next, seat_found, seat_there}
use Rattle.drainage_flow.proofs.pouring.seat.Goals as goal

pub loop-k-init : goal.loop-k-init
loop-k-init c = record { within = c.requires; seat = λ m i s. (let n : m ≡ 0 + m = omega arith in subst (λ x. IsSeat (counts_of c.args.bands.now) c.args.at x i) n s) }

pub loop-k-preserved : goal.loop-k-preserved
loop-k-preserved c =
    let i = c.loop-k.invariant in
    let n = seat_next c.args.bands.now c.args.at c.loop-k.k c.loop-k.rest c.count-count.result c.index-bands-k.result c.loop-k-test.true c.index-bands-k.is c.count-count.ensures c.if-rest-count.false i.within i.seat in
    record { within = n.0; seat = n.1 }

pub returns-then-rest-count : goal.returns-then-rest-count
returns-then-rest-count c =
    let i = c.loop-k.invariant in
    record {
      seat = seat_found c.args.bands.now c.args.at c.loop-k.k c.loop-k.rest c.count-count.result c.index-bands-k.result c.loop-k-test.true c.index-bands-k.is c.count-count.ensures c.if-rest-count.true i.seat;
      band = c.loop-k-test.true;
    }

pub unreachable-requires : goal.unreachable-requires
unreachable-requires c = seat_there c.args.bands.now c.loop-k.k c.loop-k.rest c.loop-k-test.false c.loop-k.invariant.within
