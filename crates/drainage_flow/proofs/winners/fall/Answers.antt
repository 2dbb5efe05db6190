use Rattle.std.proofs.Common.{sym, arith}
use Rattle.std.proofs.lemmas.Int.{ints}
use Rattle.drainage_flow.proofs.Falls.{value_is_small, drop_even, drop_odd}
use Rattle.drainage_flow.proofs.winners.fall.Goals as goal

pub returns-then-k-eq0-clause-fall : goal.returns-then-k-eq0-clause-fall
returns-then-k-eq0-clause-fall c =
    let h = value_is_small c.args.here c.requires.in_range in
    let l = value_is_small c.in-Some.lower c.in-Some.ensures.in_range in
    drop_even c.args.here c.in-Some.lower _ c.args.k c.args.there c.requires.few c.if-k-eq0.true (sym c.in-Some.ensures.value) (omega (arith, ints, h.high, h.low, l.high, l.low))

pub returns-else-k-eq0-clause-fall : goal.returns-else-k-eq0-clause-fall
returns-else-k-eq0-clause-fall c =
    let h = value_is_small c.args.here c.requires.in_range in
    let l = value_is_small c.in-Some.lower c.in-Some.ensures.in_range in
    drop_odd c.args.here c.in-Some.lower _ c.args.k c.args.there c.requires.few c.if-k-eq0.false (sym c.in-Some.ensures.value) (omega (arith, ints, h.high, h.low, l.high, l.low))
