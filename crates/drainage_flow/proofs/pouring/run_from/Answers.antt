use Rattle.std.proofs.Common.{◌+◌, sym, ◌∙◌, arith}
use Rattle.drainage_flow.proofs.Seats.{seat_within, even_at, same_count, start_counts, start_even, started, passed, starts_yes, starts_no, starts_count}
use Rattle.drainage_flow.proofs.pouring.run_from.Goals as goal

pub start-requires : goal.start-requires
start-requires c =
    let e = c.index-bands-k.result in
    omega (arith, (seat_within c.args.bands.now c.args.start c.args.k c.args.i e c.requires.seat).1, (even_at c.args.bands.now c.args.k e c.requires.even c.requires.band).0)

pub run_down-requires-clause-even : goal.run_down-requires-clause-even
run_down-requires-clause-even c =
    let x = c.start.ensures in
    start_even c.args.bands.now c.requires.even c.args.start c.args.k c.args.i c.index-bands-k.result c.start.new.self c.requires.seat x.downs x.flows (starts_count _ c.args.i _ _ x.waits)

pub run_down-requires-clause-count : goal.run_down-requires-clause-count
run_down-requires-clause-count c =
    let x = c.start.ensures in
    c.requires.count ∙ sym (same_count _ c.args.bands.now (start_counts c.args.bands.now c.requires.even c.args.start c.args.k c.args.i c.index-bands-k.result c.start.new.self c.requires.seat x.downs x.flows))

pub run_down-requires-clause-within : goal.run_down-requires-clause-within
run_down-requires-clause-within c = omega (arith, c.requires.count, (seat_within c.args.bands.now c.args.start c.args.k c.args.i c.index-bands-k.result c.requires.seat).2)

pub run_down-requires-clause-pools : goal.run_down-requires-clause-pools
run_down-requires-clause-pools c =
    let x = c.start.ensures in
    let y = starts_yes _ c.args.i _ _ x.waits c.if-start.true in
    let p = c.requires.pools in
    (p.0, p.1, p.2, c.args.start + 1, started c.args.bands.now c.requires.even c.args.start c.args.k c.args.i c.index-bands-k.result c.start.new.self c.requires.seat x.downs x.flows p.0 p.1 c.args.first p.2 y.0 y.1 p.3)

pub returns-then-start-clause-counts : goal.returns-then-start-clause-counts
returns-then-start-clause-counts c =
    let x = c.start.ensures in
    c.run_down.ensures.counts ∙ start_counts c.args.bands.now c.requires.even c.args.start c.args.k c.args.i c.index-bands-k.result c.start.new.self c.requires.seat x.downs x.flows

pub returns-then-start-clause-pools : goal.returns-then-start-clause-pools
returns-then-start-clause-pools c = λ g r n p.
    let x = c.start.ensures in
    let y = starts_yes _ c.args.i _ _ x.waits c.if-start.true in
    c.run_down.ensures.pools g r n (c.args.start + 1) (started c.args.bands.now c.requires.even c.args.start c.args.k c.args.i c.index-bands-k.result c.start.new.self c.requires.seat x.downs x.flows g r c.args.first n y.0 y.1 p)

pub returns-else-start-clause-even : goal.returns-else-start-clause-even
returns-else-start-clause-even c =
    let x = c.start.ensures in
    start_even c.args.bands.now c.requires.even c.args.start c.args.k c.args.i c.index-bands-k.result c.start.new.self c.requires.seat x.downs x.flows (starts_count _ c.args.i _ _ x.waits)

pub returns-else-start-clause-counts : goal.returns-else-start-clause-counts
returns-else-start-clause-counts c =
    let x = c.start.ensures in
    start_counts c.args.bands.now c.requires.even c.args.start c.args.k c.args.i c.index-bands-k.result c.start.new.self c.requires.seat x.downs x.flows

pub returns-else-start-clause-pools : goal.returns-else-start-clause-pools
returns-else-start-clause-pools c = λ g r n p.
    let x = c.start.ensures in
    let y = starts_no _ c.args.i _ _ x.waits c.if-start.false in
    passed c.args.bands.now c.requires.even c.args.start c.args.k c.args.i c.index-bands-k.result c.start.new.self c.requires.seat x.downs x.flows g r c.args.first n y.0 y.1 p
