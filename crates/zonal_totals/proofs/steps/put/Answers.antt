use Rattle.std.proofs.Common.{◌≡◌, ◌≢◌, ◌++◌, ◌∷◌, [], List, sym, ◌∙◌, ap, append_assoc, arith}
use Rattle.std.proofs.lemmas.Result.{IfOk-weaker}
use Rattle.zonal_totals.specs.declared.steps.Step.{Step}
use Rattle.zonal_totals.specs.Steps.{weight}
use Rattle.zonal_totals.specs.Settled.{kept, meet, put_step}
use Rattle.zonal_totals.proofs.Climbing.{differs}
use Rattle.zonal_totals.proofs.Settling.{weight_join, put_push, meet_same, meet_other}
use Rattle.zonal_totals.proofs.steps.put.Goals as goal

pub together-requires : goal.together-requires
together-requires c =
    omega (arith, c.requires, ap weight c.in-Some.ensures.items, weight_join c.pop.new.self.items (c.in-Some.last ∷ []))

pub returns-then-is : goal.returns-then-is
returns-then-is c =
    let front = c.pop.new.self.items in
    let last = c.in-Some.last in
    let s = c.args.step in
    let puts : put_step c.args.steps.now.items s ≡ front ++ meet last s = ap (λ (l : List Step). put_step l s) c.in-Some.ensures.items ∙ put_push front last s in
    let meets : meet last s ≡ kept c.together.result = meet_same last s (c.is.ensures.0 c.if-is.true) ∙ ap kept (sym c.together.ensures) in
    IfOk-weaker c.keep-then-is.result _ _ (λ x e. e ∙ sym (puts ∙ ap (λ (l : List Step). front ++ l) meets)) c.keep-then-is.ensures

pub returns : goal.returns
returns c =
    let front = c.pop.new.self.items in
    let last = c.in-Some.last in
    let s = c.args.step in
    let apart : last.pair ≢ s.pair = λ e. let t = c.is.ensures.1 e in let f = c.if-is.false in cc in
    let puts : put_step c.args.steps.now.items s ≡ front ++ meet last s = ap (λ (l : List Step). put_step l s) c.in-Some.ensures.items ∙ put_push front last s in
    let meets : meet last s ≡ last ∷ kept s = meet_other last s (differs last.pair s.pair apart) in
    let there : c.push.new.self.items ++ kept s ≡ front ++ (last ∷ kept s) = ap (λ (l : List Step). l ++ kept s) c.in_ok-push.ensures.items ∙ append_assoc front (last ∷ []) (kept s) in
    IfOk-weaker c.keep-2.result _ _ (λ x e. e ∙ there ∙ sym (puts ∙ ap (λ (l : List Step). front ++ l) meets)) c.keep-2.ensures
