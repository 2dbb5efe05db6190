use Rattle.std.proofs.Common.{◌≡◌, ℕ, ◌<◌, ◌∷◌, [], ◌++◌, List, length, Option, None, ℤ, arith, sym, subst, ◌∙◌}
use Rattle.std.specs.Prelude.{slice_set}
use Rattle.map_nums.specs.Grids.{cell_at}
use Rattle.friction_spread.specs.Costs.{step_of}
use Rattle.friction_neighbor.specs.Floods.{IsFlooding}
use Rattle.friction_neighbor.proofs.Flooding.{none_of, step_here, given_on}
use Rattle.friction_neighbor.proofs.floods.pass.Goals as goal
use Rattle.friction_neighbor.proofs.floods.pass.Goals.{After-weigh}

pub weigh-requires : goal.weigh-requires
weigh-requires c = (c.requires.front.low_friction, c.friction-friction.ensures.low)

none : (c : After-weigh) → cell_at c.args.values.now c.args.to.at ≡ None
none c = none_of (cell_at c.args.values.now c.args.to.at) (sym c.has_value-has.ensures ∙ c.if-has.false)

step : (c : After-weigh) → step_of c.args.field.now.ground c.args.from.now.spot.at c.args.to.at ≡ c.weigh.result
step c =
    step_here c.args.field.now c.args.seed.now.number c.extent-extent.ensures.field c.args.values.now c.args.found.now.items c.args.from.now c.args.to c.friction-friction.result c.requires.front c.requires.spot c.requires.near c.friction-friction.ensures.value c.requires.flooding (none c)
    (omega (arith, c.cost-there.ensures.value, c.limit-limit.ensures.limit, c.if-there-limit.false))
    ∙ sym c.weigh.ensures.value

pub returns-then-cost-there-clause-told : goal.returns-then-cost-there-clause-told
returns-then-cost-there-clause-told c = λ s.
    absurd (c.if-cost-there.true (omega (arith, s.1, c.requires.front.cost, c.cost-there.ensures.value, step (goal.at.returns-then-cost-there-clause-told c).After-weigh)))

pub returns-clause-flooding : goal.returns-clause-flooding
returns-clause-flooding c =
    let d = (goal.at.returns-clause-flooding c).After-weigh in
    let f = c.args.field.now in
    let z = c.args.seed.now.number in
    let values = c.args.values.now in
    let found = c.args.found.now.items in
    let from = c.args.from.now.spot.at in
    let to = c.args.to.at in
    let within : to < length values = omega (arith, c.requires.spot.within, c.requires.flooding.count) in
    let P : Option ℤ → Type 0 = λ v. IsFlooding f z (slice_set values to v) (from ∷ (found ++ to ∷ [])) in
    let Q : List ℕ → Type 0 = λ xs. IsFlooding f z (slice_set values to c.args.seed.now.value) (from ∷ xs) in
    subst Q (sym c.in_ok-push.ensures.items) (subst P (sym c.requires.seed.value)
    (given_on f z values to within (none d) c.requires.seed.in_range from found
    (omega (arith, c.cost-there.ensures.value, c.limit-limit.ensures.limit, c.if-there-limit.false), omega (arith, c.requires.front.cost, c.cost-there.ensures.value, c.if-cost-there.false, step d))
    c.requires.flooding))
