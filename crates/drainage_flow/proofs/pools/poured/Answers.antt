use Rattle.std.proofs.Common.{◌≡◌, ◌∷◌, [], ◌++◌, List, length, None, sym, ◌∙◌, ap, subst}
use Rattle.std.proofs.lemmas.List.{take_at}
use Rattle.drainage_flow.specs.Pouring.{ArePools}
use Rattle.drainage_flow.specs.FlowBands.{counts_of}
use Rattle.drainage_flow.specs.declared.flow_band.FlowBand.{FlowBand}
use Rattle.drainage_flow.proofs.Seats.{counts_count, last_alone, alone, in_alone}
use Rattle.drainage_flow.proofs.pools.poured.Goals as goal
use Rattle.drainage_flow.proofs.pools.poured.Goals.{After-deref_mut}

one : (c : After-deref_mut) → c.deref_mut.result.now ≡ c.args.band ∷ []
one c = c.deref_mut.ensures.value ∙ c.in_ok-push.ensures.items ∙ ap (λ (xs : List FlowBand). xs ++ c.args.band ∷ []) c.in_ok-bands.ensures.items

pub run_all-requires-clause-pools : goal.run_all-requires-clause-pools
run_all-requires-clause-pools c = let p = c.requires.pools in (p.0, p.1, p.2, in_alone p.0 p.1 c.args.first p.2 0 c.deref_mut.result.now c.args.band (one c) p.3)

pub returns : goal.returns
returns c = λ g r n p.
    let d = (goal.at.returns c).After-deref_mut in
    let new = c.run_all.new.bands in
    let b = c.in-Some.band in
    let counts : counts_of new ≡ length c.args.band.downs.items ∷ [] = c.run_all.ensures.counts ∙ ap (λ (xs : List FlowBand). counts_of xs) (one d) in
    let len : length new ≡ c.push.new.self.len = sym (counts_count new) ∙ ap length c.run_all.ensures.counts ∙ counts_count c.deref_mut.result.now ∙ c.deref_mut.ensures.len in
    let left = take_at new _ c.push.new.self.len len in
    let only : new ≡ b ∷ [] = last_alone new c.pop.new.self.items b (length c.args.band.downs.items) counts (sym left ∙ c.in-Some.ensures.items) in
    subst (λ end. ArePools g r c.args.first n end None b.downs.items b.waits.items b.flows.items) c.count-count.ensures
    (alone g r c.args.first n c.count-count.result new b only (c.run_all.ensures.pools g r n (in_alone g r c.args.first n 0 c.deref_mut.result.now c.args.band (one d) p)))
