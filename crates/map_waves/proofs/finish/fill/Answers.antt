use Rattle.std.proofs.Common.{◌≡◌, ℕ, ◌≤◌, length, Option, Some, None, slice_get, ◌⊎◌, inl, inr, refl, sym, ap, ◌∙◌, rules, arith}
use Rattle.std.proofs.lemmas.List.{length_push}
use Rattle.map_waves.proofs.Phasing.{each_pushed}
use Rattle.map_waves.proofs.finish.fill.Goals as goal

pub loop-place-init : goal.loop-place-init
loop-place-init g c = record { count = search rules; each = λ i o e. inl e }

pub loop-place-preserved : goal.loop-place-preserved
loop-place-preserved g c =
    let old = c.args.list.now.items in
    let new = c.loop-place.list.items in
    let filled = c.loop-place.invariant in
    let items = c.in_ok-push.ensures.items in
    record {
      count = omega (arith, filled.count, ap length items ∙ length_push new None);
      each = λ i o e. each_pushed (λ (i : ℕ) (o : Option _). (slice_get old i ≡ Some o) ⊎ ((length old ≤ i) × (o ≡ None))) new None c.loop-place._place filled.count filled.each (inr (omega arith, refl)) i o
          (ap (λ os. slice_get os i) (sym items) ∙ e);
    }
