use Rattle.std.proofs.Common.{◌≡◌, ◌≢◌, inl, inr, set, get_or, Some, None, slice_get, sym, subst, ◌∙◌, arith, get_or-set_other}
use Rattle.std.proofs.lemmas.Bool.{cases_eq}
use Rattle.std.proofs.lemmas.Option.{slice_get-get_or, slice_get_within, same_Some}
use Rattle.map_waves.specs.Placing.{IsPlaced}
use Rattle.map_waves.specs.declared.keeping.Kept.{Kept}
use Rattle.map_waves.proofs.SetPlaces.{slice_get-set_same, slice_get-set_other, read_same}
use Rattle.map_waves.proofs.placing.renew_all.Goals as goal

pub put-requires : goal.put-requires
put-requires g c =
    let k = c.loop-k.k in
    let all = c.requires.all in
    let x = get_or c.loop-k.kept k c.index-kept-k.result in
    let here : slice_get c.loop-k.kept k ≡ Some x = slice_get-get_or c.loop-k.kept k c.index-kept-k.result (omega arith) in
    let made : slice_get c.args.prepared.now k ≡ Some c.take-made.result = read_same c.loop-k.prepared c.args.prepared.now k c.index-prepared-k.result c.take-made.result None c.index-prepared-k.is (c.take-made.ensures.value ∙ sym c.index-prepared-k.is) (omega arith) (omega arith) (c.loop-k.invariant.prepared k (omega arith)) in
    c.requires.ready k x c.take-made.result (sym (c.loop-k.invariant.kept k (omega arith)) ∙ here) made

pub loop-k-preserved : goal.loop-k-preserved
loop-k-preserved g c =
    let k = c.loop-k.k in
    let all = c.requires.all in
    let x = get_or c.loop-k.kept k c.index-kept-k.result in
    let here : slice_get c.loop-k.kept k ≡ Some x = slice_get-get_or c.loop-k.kept k c.index-kept-k.result (omega arith) in
    let was : slice_get c.args.kept.now k ≡ Some x = sym (c.loop-k.invariant.kept k (omega arith)) ∙ here in
    let made : slice_get c.args.prepared.now k ≡ Some c.take-made.result = read_same c.loop-k.prepared c.args.prepared.now k c.index-prepared-k.result c.take-made.result None c.index-prepared-k.is (c.take-made.ensures.value ∙ sym c.index-prepared-k.is) (omega arith) (omega arith) (c.loop-k.invariant.prepared k (omega arith)) in
    let set_here : slice_get (set c.loop-k.kept k c.put.new.kept) k ≡ Some c.put.new.kept = slice_get-set_same c.loop-k.kept k c.put.new.kept x here in
    record {
      placed = λ j own now r below was_own is_now is_made.
          elim (cases_eq j k) as (λ _. IsPlaced c.args.extent (Some own) r c.args.stamp now) [
            | inl same ↦
                let own_x : x ≡ own = same_Some x own (sym was ∙ subst (λ i. slice_get c.args.kept.now i ≡ Some own) same was_own) in
                let now_put : c.put.new.kept ≡ now = same_Some c.put.new.kept now (sym set_here ∙ subst (λ i. slice_get (set c.loop-k.kept k c.put.new.kept) i ≡ Some now) same is_now) in
                let r_taken : c.take-made.result ≡ r = same_Some c.take-made.result r (sym made ∙ subst (λ i. slice_get c.args.prepared.now i ≡ Some r) same is_made) in
                subst (λ (l : Kept _). IsPlaced c.args.extent (Some l) r c.args.stamp now) own_x
                (subst (λ q. IsPlaced c.args.extent (Some x) q c.args.stamp now) r_taken
                (subst (λ (l : Kept _). IsPlaced c.args.extent (Some x) c.take-made.result c.args.stamp l) now_put c.put.ensures))
            | inr other ↦ c.loop-k.invariant.placed j own now r (omega (arith, below, other)) was_own (sym (slice_get-set_other c.loop-k.kept k j c.put.new.kept other) ∙ is_now) is_made
          ];
      kept = λ j above. let apart : j ≢ k = omega arith in slice_get-set_other c.loop-k.kept k j c.put.new.kept apart ∙ c.loop-k.invariant.kept j (omega arith);
      prepared = λ j above. let apart : j ≢ k = omega arith in get_or-set_other c.loop-k.prepared k j _ None apart ∙ c.loop-k.invariant.prepared j (omega arith);
    }

pub returns-clause-placed : goal.returns-clause-placed
returns-clause-placed g c = λ k own now r was_own is_now is_made.
    let within = slice_get_within c.args.kept.now k own was_own in
    c.loop-k.invariant.placed k own now r (omega arith) was_own is_now is_made
