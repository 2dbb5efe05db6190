use Rattle.std.proofs.Common.{◌≡◌, ℕ, ◌-◌, ◌∷◌, [], ◌++◌, List, length, take, refl, ◌∙◌, ap, subst, arith}
use Rattle.std.proofs.lemmas.List.{length_push}
use Rattle.friction_neighbor.specs.Floods.{IsFlooding}
use Rattle.friction_neighbor.proofs.Flooding.{value_within, grows_then, taken_out}
use Rattle.friction_neighbor.proofs.floods.pass_all.Goals as goal
use Rattle.friction_neighbor.proofs.floods.pass_all.Goals.{In-Some, In_default}

taken : (c : In-Some) → IsFlooding c.args.field.now c.args.seed.now.number c.loop-at.values (c.in-Some.at ∷ c.pop.new.self.items)
taken c =
    let P : List ℕ → Type 0 = IsFlooding c.args.field.now c.args.seed.now.number c.loop-at.values in
    taken_out c.args.field.now c.args.seed.now.number c.loop-at.values c.in-Some.at c.pop.new.self.items (subst P c.in-Some.ensures.items c.loop-at.invariant.flooding)

pub pass_from-requires-clause-within : goal.pass_from-requires-clause-within
pass_from-requires-clause-within c =
    let t = taken (goal.at.pass_from-requires-clause-within c).In-Some in
    omega (arith, value_within c.loop-at.values c.in-Some.at c.args.seed.now.number (t.held c.in-Some.at (0, omega arith, refl)), t.count)

pub pass_from-requires-clause-flooding : goal.pass_from-requires-clause-flooding
pass_from-requires-clause-flooding c = taken (goal.at.pass_from-requires-clause-flooding c).In-Some

pub loop-at-smaller : goal.loop-at-smaller
loop-at-smaller c = omega (arith, c.in_ok-pass_from.ensures.less, ap length c.in-Some.ensures.items, length_push c.pop.new.self.items c.in-Some.at)

pub loop-at-preserved : goal.loop-at-preserved
loop-at-preserved c = record {
  flooding = c.in_ok-pass_from.ensures.flooding;
  grows = grows_then c.args.values.now c.loop-at.values c.pass_from.new.values c.loop-at.invariant.grows c.in_ok-pass_from.ensures.grows;
}

rest : (c : In_default) → c.pop.new.self.items ≡ []
rest c = c.in_default.ensures.rest ∙ ap (λ n. take (n - 1) c.loop-at.found.items) c.in_default.ensures.cases.0

pub returns : goal.returns
returns c =
    let e = rest c in
    let none : c.loop-at.found.items ≡ [] = c.in_default.ensures.items ∙ ap (λ (xs : List ℕ). xs ++ []) e in
    let P : List ℕ → Type 0 = IsFlooding c.args.field.now c.args.seed.now.number c.loop-at.values in
    record { found = e; flooding = subst P none c.loop-at.invariant.flooding; grows = c.loop-at.invariant.grows }
