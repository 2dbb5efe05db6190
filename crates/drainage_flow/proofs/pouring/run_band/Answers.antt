use Rattle.std.proofs.Common.{◌≡◌, ◌+◌, ◌<◌, ℕ, List, length, get_or, take, sym, ◌∙◌, ap, subst, arith}
use Rattle.std.specs.List.{sum_by}
use Rattle.drainage_flow.specs.FlowBands.{counts_of, IsSeat}
use Rattle.drainage_flow.specs.declared.flow_band.FlowBand.{FlowBand}
use Rattle.drainage_flow.proofs.Seats.{same_count, seat_at, seat_within, counts_at, counts_count, sum_next}
use Rattle.drainage_flow.proofs.pouring.run_band.Goals as goal

pub loop-i-preserved : goal.loop-i-preserved
loop-i-preserved c =
    let i = c.loop-i.invariant in
    record {
      even = c.run_from.ensures.even;
      counts = c.run_from.ensures.counts ∙ i.counts;
      at = omega (arith, i.at);
      pools = λ g r n p. c.run_from.ensures.pools g r n (i.pools g r n p);
    }

pub run_from-requires-clause-count : goal.run_from-requires-clause-count
run_from-requires-clause-count c = c.requires.count ∙ sym (same_count c.loop-i.bands c.args.bands.now c.loop-i.invariant.counts)

pub run_from-requires-clause-pools : goal.run_from-requires-clause-pools
run_from-requires-clause-pools c = let p = c.requires.pools in (p.0, p.1, p.2, c.loop-i.invariant.pools p.0 p.1 p.2 p.3)

there : (bs cs : List FlowBand) (e : FlowBand) (k start i at count : ℕ) → counts_of bs ≡ counts_of cs → k < length cs → start ≡ sum_by (λ n. n) (take k (counts_of cs)) → at ≡ start + i → count ≡ length (get_or cs k e).downs.items → i < count → IsSeat (counts_of bs) at k i
there bs cs e k start i at count same l s a c m =
    let seat = seat_at (counts_of cs) k i (omega (arith, l, counts_count cs)) (omega (arith, m, c, counts_at cs k e l)) in
    let e : sum_by (λ n. n) (take k (counts_of cs)) + i ≡ at = omega (arith, s, a) in
    subst (λ ns. IsSeat ns at k i) (sym same) (subst (λ x. IsSeat (counts_of cs) x k i) e seat)

pub run_from-requires-clause-band : goal.run_from-requires-clause-band
run_from-requires-clause-band c = omega (arith, c.requires.band, counts_count c.loop-i.bands, counts_count c.args.bands.now, ap length c.loop-i.invariant.counts)

pub run_from-requires-clause-seat : goal.run_from-requires-clause-seat
run_from-requires-clause-seat c = there c.loop-i.bands c.args.bands.now c.index-bands-k.result c.args.k c.args.start c.loop-i.i c.loop-i.at c.count-i-end.result c.loop-i.invariant.counts c.requires.band c.requires.start c.loop-i.invariant.at c.count-i-end.ensures c.loop-i-test.true

pub overflow_add-at : goal.overflow_add-at
overflow_add-at c =
    let bs = c.loop-i.bands in
    let seat = there bs c.args.bands.now c.index-bands-k.result c.args.k c.args.start c.loop-i.i c.loop-i.at c.count-i-end.result c.loop-i.invariant.counts c.requires.band c.requires.start c.loop-i.invariant.at c.count-i-end.ensures c.loop-i-test.true in
    omega (arith, (seat_within bs c.loop-i.at c.args.k c.loop-i.i c.index-bands-k.result seat).2, same_count bs c.args.bands.now c.loop-i.invariant.counts, c.requires.count, c.requires.few)

pub returns-clause-end : goal.returns-clause-end
returns-clause-end c =
    let cs = c.args.bands.now in
    omega (arith, c.loop-i.invariant.at, c.loop-i-test.false, c.loop-i.far-i, c.count-i-end.ensures, counts_at cs c.args.k c.index-bands-k.result c.requires.band, c.requires.start, sum_next (counts_of cs) c.args.k (omega (arith, c.requires.band, counts_count cs)))
