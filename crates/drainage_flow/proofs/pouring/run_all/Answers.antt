use Rattle.std.proofs.Common.{◌≡◌, ◌+◌, None, take, sym, ◌∙◌, ap, subst, arith}
use Rattle.std.specs.List.{sum_by}
use Rattle.std.proofs.lemmas.List.{take_all}
use Rattle.drainage_flow.specs.Pouring.{ArePools}
use Rattle.drainage_flow.specs.FlowBands.{all_downs, all_waits, all_flows, counts_of}
use Rattle.drainage_flow.proofs.Seats.{same_count, all_count, counts_count}
use Rattle.drainage_flow.proofs.pouring.run_all.Goals as goal

pub run_band-at-requires-clause-count : goal.run_band-at-requires-clause-count
run_band-at-requires-clause-count c = c.requires.count ∙ sym (same_count c.loop-k.bands c.args.bands.now c.loop-k.invariant.counts)

pub run_band-at-requires-clause-pools : goal.run_band-at-requires-clause-pools
run_band-at-requires-clause-pools c = let p = c.requires.pools in (p.0, p.1, p.2, c.loop-k.invariant.pools p.0 p.1 p.2 p.3)

pub loop-k-preserved : goal.loop-k-preserved
loop-k-preserved c =
    let i = c.loop-k.invariant in
    let e = c.run_band-at.ensures in
    record {
      even = e.even;
      counts = e.counts ∙ i.counts;
      at = e.end ∙ ap (λ ns. sum_by (λ n. n) (take (c.loop-k.k + 1) ns)) (sym e.counts);
      pools = λ g r n p. e.pools g r n (i.pools g r n p);
    }

pub returns-clause-pools : goal.returns-clause-pools
returns-clause-pools c = λ g r n p.
    let i = c.loop-k.invariant in
    let bs = c.loop-k.bands in
    let all : take c.loop-k.k (counts_of bs) ≡ counts_of bs = take_all c.loop-k.k (counts_of bs) (omega (arith, counts_count bs, c.loop-k-test.false)) in
    let e : c.loop-k.at ≡ c.args.count = i.at ∙ ap (sum_by (λ n. n)) all ∙ sym (all_count bs) ∙ same_count bs c.args.bands.now i.counts ∙ sym c.requires.count in
    subst (λ k. ArePools g r c.args.first n k None (all_downs bs) (all_waits bs) (all_flows bs)) e (i.pools g r n p)
