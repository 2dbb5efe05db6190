use Rattle.std.proofs.Common.{◌≡◌, ◌+◌, ◌++◌, ◌∷◌, [], get_or, take, pos, sym, ◌∙◌, ap, subst, arith, List}
use Rattle.std.proofs.lemmas.Int.{ints}
use Rattle.std.proofs.lemmas.List.{take_more}
use Rattle.zonal_totals.specs.declared.steps.Step.{Step}
use Rattle.zonal_totals.specs.Pairs.{IsShort}
use Rattle.zonal_totals.specs.Steps.{weight, AllShort}
use Rattle.zonal_totals.specs.Settled.{put_step, settled}
use Rattle.zonal_totals.proofs.Settling.{settled_weight, weight_at, settled_push, short_push}
use Rattle.zonal_totals.proofs.steps.gathered.Goals as goal

pub put-requires : goal.put-requires
put-requires c =
    omega (arith, c.requires, ap weight c.loop-step.invariant.steps, settled_weight (take c.loop-step.step-index c.args.steps.now), weight_at c.args.steps.now c.loop-step.step-index (record { pair = record { zone = pos 0; key = pos 0 }; by = pos 0 }) c.loop-step-test.true)

pub loop-step-preserved : goal.loop-step-preserved
loop-step-preserved c =
    let ss = c.args.steps.now in
    let i = c.loop-step.step-index in
    let s = get_or ss i (record { pair = record { zone = pos 0; key = pos 0 }; by = pos 0 }) in
    let e : take (i + 1) ss ≡ take i ss ++ s ∷ [] = take_more ss i _ c.loop-step-test.true in
    let short : IsShort s.pair = record { low_zone = omega (arith, ints); high_zone = omega (arith, ints); low_key = omega (arith, ints); high_key = omega (arith, ints) } in
    record {
      steps = c.in_ok-put.ensures ∙ ap (λ (l : List Step). put_step l s) c.loop-step.invariant.steps ∙ sym (settled_push (take i ss) [] s) ∙ ap settled (sym e);
      short = subst AllShort (sym e) (short_push (take i ss) s c.loop-step.invariant.short short);
    }
