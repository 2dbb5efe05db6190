use Rattle.std.proofs.Common.{◌≡◌, ◌<◌, length, Some, None, sym, ◌∙◌, subst, arith}
use Rattle.drainage_flow.specs.Pouring.{place_in}
use Rattle.drainage_flow.specs.FlowBands.{all_downs, all_waits, all_flows}
use Rattle.drainage_flow.proofs.Pooling.{if_some, fits_on, passes_on, passes_within, fewer_passed}
use Rattle.drainage_flow.proofs.Seats.{same_count}
use Rattle.drainage_flow.proofs.pouring.run_down.Goals as goal

pub pass_on-requires-clause-count : goal.pass_on-requires-clause-count
pass_on-requires-clause-count c = c.requires.count ∙ sym (same_count c.loop-next.bands c.args.bands.now c.loop-next.invariant.counts)

pub pass_on-requires-clause-low : goal.pass_on-requires-clause-low
pass_on-requires-clause-low c =
    let q = c.requires.pools in
    let i = c.loop-next.invariant in
    let bs = c.loop-next.bands in
    let n : c.args.count ≡ length (all_downs bs) = c.requires.count ∙ sym (same_count bs c.args.bands.now i.counts) in
    let p = i.pools q.0 q.1 q.2 q.3 q.4 in
    if_some _ (λ d e. if_some _ (λ k h. (fits_on q.0 q.1 c.args.first q.2 q.3 c.loop-next.at d k (all_downs bs) (all_waits bs) (all_flows bs) p (subst (λ m. c.loop-next.at < m) n i.within) e (subst (λ m. place_in c.args.first m d ≡ Some k) n h)).low))

pub pass_on-requires-clause-high : goal.pass_on-requires-clause-high
pass_on-requires-clause-high c =
    let q = c.requires.pools in
    let i = c.loop-next.invariant in
    let bs = c.loop-next.bands in
    let n : c.args.count ≡ length (all_downs bs) = c.requires.count ∙ sym (same_count bs c.args.bands.now i.counts) in
    let p = i.pools q.0 q.1 q.2 q.3 q.4 in
    if_some _ (λ d e. if_some _ (λ k h. (fits_on q.0 q.1 c.args.first q.2 q.3 c.loop-next.at d k (all_downs bs) (all_waits bs) (all_flows bs) p (subst (λ m. c.loop-next.at < m) n i.within) e (subst (λ m. place_in c.args.first m d ≡ Some k) n h)).high))

pub loop-next-smaller : goal.loop-next-smaller
loop-next-smaller c =
    let bs = c.loop-next.bands in
    let cs = c.pass_on.new.bands in
    fewer_passed c.args.first c.loop-next.at c.in-Some.next (all_downs bs) (all_downs cs) (all_waits bs) (all_waits cs) (all_flows bs) (all_flows cs) c.in-Some.ensures.passes

pub loop-next-preserved : goal.loop-next-preserved
loop-next-preserved c =
    let i = c.loop-next.invariant in
    let bs = c.loop-next.bands in
    let cs = c.pass_on.new.bands in
    let counts = c.in-Some.ensures.counts ∙ i.counts in
    let n : length (all_downs cs) ≡ c.args.count = same_count cs c.args.bands.now counts ∙ sym c.requires.count in
    let m : length (all_downs bs) ≡ c.args.count = same_count bs c.args.bands.now i.counts ∙ sym c.requires.count in
    record {
      even = c.in-Some.ensures.even;
      counts = counts;
      within = omega (arith, n, passes_within c.args.first c.loop-next.at c.in-Some.next (all_downs bs) (all_downs cs) (all_waits bs) (all_waits cs) (all_flows bs) (all_flows cs) c.in-Some.ensures.passes);
      pools = λ g r k end p. passes_on g r c.args.first k end c.loop-next.at (all_downs bs) (all_waits bs) (all_flows bs) (i.pools g r k end p) (omega (arith, i.within, m)) (all_downs cs) (all_waits cs) (all_flows cs) (Some c.in-Some.next) c.in-Some.ensures.passes;
    }

pub returns-clause-pools : goal.returns-clause-pools
returns-clause-pools c = λ g r k end p.
    let i = c.loop-next.invariant in
    let bs = c.loop-next.bands in
    let cs = c.pass_on.new.bands in
    let m : length (all_downs bs) ≡ c.args.count = same_count bs c.args.bands.now i.counts ∙ sym c.requires.count in
    passes_on g r c.args.first k end c.loop-next.at (all_downs bs) (all_waits bs) (all_flows bs) (i.pools g r k end p) (omega (arith, i.within, m)) (all_downs cs) (all_waits cs) (all_flows cs) None c.in_default.ensures.passes
