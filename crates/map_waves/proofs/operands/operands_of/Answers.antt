use Rattle.std.proofs.Common.{◌≡◌, ℕ, ◌+◌, ◌<◌, ◌≤◌, List, [], ◌∷◌, ◌++◌, length, get_or, map, take, sym, ap, ◌∙◌, arith, rules}
use Rattle.std.proofs.lemmas.List.{length_push, map_more, take_all}
use Rattle.layer_tiles.specs.Changes.{ChangeState}
use Rattle.map_waves.specs.declared.plans.Ref.{Ref}
use Rattle.map_waves.specs.Plans.{operand_in, changes_to}
use Rattle.map_waves.specs.Bases.{plan_of}
use Rattle.map_waves.proofs.operands.operands_of.Goals as goal

more_operands : (f : Ref → ChangeState) (xs ys : List Ref) (i : ℕ) (x : Ref) (old new : List ChangeState) (c : ChangeState) → x ≡ get_or ys i x → ys ≡ xs → i < length ys
    → old ≡ map f (take i xs) → c ≡ f x → new ≡ old ++ c ∷ [] → new ≡ map f (take (i + 1) xs)
more_operands f xs ys i x old new c read same within so_far is pushed =
    let within_xs : i < length xs = omega (arith, ap length same) in
    let here : x ≡ get_or xs i x = read ∙ ap (λ zs. get_or zs i x) same in
    pushed ∙ ap (λ os. os ++ c ∷ []) so_far ∙ ap (λ o. map f (take i xs) ++ o ∷ []) (is ∙ ap f here) ∙ sym (map_more f xs i x within_xs)

pub loop-place-preserved : goal.loop-place-preserved
loop-place-preserved g c = record {
  count = let pushed = ap length c.push.ensures ∙ length_push c.loop-place.operands c.operand_of.result in let so_far = c.loop-place.invariant.count in omega arith;
  operands = λ k h.
      let plan = plan_of g.K.Maker.means c.args.base.now c.args.steps.now in
      more_operands (operand_in plan (changes_to plan k)) c.args.step.now.refs.items _ c.loop-place.place-index c.place-item.result _ _ _ c.place-item.is (search rules) (omega arith)
      (c.loop-place.invariant.operands k h) (c.operand_of.ensures k h) c.push.ensures;
}

pub returns : goal.returns
returns g c k h =
    let plan = plan_of g.K.Maker.means c.args.base.now c.args.steps.now in
    let same = ap length c.deref-place-items.ensures.value in
    let long : length c.args.step.now.refs.items ≤ c.loop-place.place-index = omega arith in
    c.loop-place.invariant.operands k h ∙ ap (map (operand_in plan (changes_to plan k))) (take_all c.loop-place.place-index c.args.step.now.refs.items long)
