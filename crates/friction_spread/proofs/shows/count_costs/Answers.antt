use Rattle.std.proofs.Common.{◌≡◌, ℕ, suc, ◌+◌, [], get_or, ◌∙◌, arith}
use Rattle.std.specs.Prelude.{◌==◌, if◌then◌else◌}
use Rattle.least_costs.proofs.Takes.{changed_most}
use Rattle.friction_spread.specs.Costs.{values}
use Rattle.friction_spread.proofs.Flats.{changed_begun, changed_more}
use Rattle.friction_spread.proofs.Showing.{one_counted}
use Rattle.friction_spread.proofs.shows.count_costs.Goals as goal

pub loop-cost-init : goal.loop-cost-init
loop-cost-init c = record { few = omega arith; counted = changed_begun (values c.args.limit []) (λ i. get_or c.args.costs.now i (suc c.args.limit)) }

pub loop-cost-preserved : goal.loop-cost-preserved
loop-cost-preserved c =
    let k = c.loop-cost.cost-index in
    let costs = c.args.costs.now in
    let limit = c.args.limit in
    let one : c.from-count.result ≡ (if values limit [] k == get_or costs k (suc limit) then 0 else 1) = c.from-count.ensures ∙ one_counted limit costs k c.loop-cost-test.true (c.requires.most k) in
    let d = λ (i : ℕ). get_or costs i (suc limit) in
    let counted = changed_more (values limit []) d k c.loop-cost.count c.from-count.result c.loop-cost.invariant.counted one in
    record { few = omega (arith, counted, changed_most (values limit []) d (k + 1)); counted = counted }
