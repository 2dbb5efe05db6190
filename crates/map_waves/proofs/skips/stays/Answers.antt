use Rattle.std.proofs.Common.{◌≡◌, ◌≤◌, ◌<◌, [], length, get_or, ap, subst, ◌∙◌, arith}
use Rattle.std.specs.List.{All}
use Rattle.std.proofs.lemmas.List.{take_all}
use Rattle.std.proofs.lemmas.List.Elements.{All-more, All-map}
use Rattle.layer_tiles.specs.Changes.{ChangeState}
use Rattle.map_waves.specs.Plans.{operand_in, changes_to}
use Rattle.map_waves.specs.Bases.{plan_of}
use Rattle.map_waves.specs.declared.plans.Ref.{Ref}
use Rattle.map_waves.proofs.skips.stays.Goals as goal

pub loop-place-preserved : goal.loop-place-preserved
loop-place-preserved g c = record {
  same = λ k h.
      let plan = plan_of g.K.Maker.means c.args.base.now c.args.steps.now in
      let P : Ref → Type 0 = λ r. (operand_in plan (changes_to plan k) r).touched ≡ [] in
      let refs = c.args.step.now.refs.items in
      let i = c.loop-place.place-index in
      let same = c.deref-place-items.ensures.value in
      let within : i < length refs = omega (arith, ap length same) in
      All-more P refs i c.place-item.result within (c.loop-place.invariant.same k h)
      (subst P (c.place-item.is ∙ ap (λ zs. get_or zs i c.place-item.result) same) (c.has_changed.ensures c.if-has_changed.false k h));
}

pub returns-clause-same : goal.returns-clause-same
returns-clause-same g c is k h =
    let plan = plan_of g.K.Maker.means c.args.base.now c.args.steps.now in
    let f = operand_in plan (changes_to plan k) in
    let P : Ref → Type 0 = λ r. (f r).touched ≡ [] in
    let refs = c.args.step.now.refs.items in
    let same = ap length c.deref-place-items.ensures.value in
    let long : length refs ≤ c.loop-place.place-index = omega arith in
    All-map (λ (d : ChangeState). d.touched ≡ []) f refs (subst (All P) (take_all c.loop-place.place-index refs long) (c.loop-place.invariant.same k h))
