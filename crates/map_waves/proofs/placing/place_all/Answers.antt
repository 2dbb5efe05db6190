use Rattle.std.proofs.Common.{◌≡◌, ◌≢◌, ℕ, ◌<◌, List, [], ◌∷◌, ◌++◌, length, get_or, Option, Some, None, slice_get, refl, sym, ap, subst, ◌∙◌, arith, get_or-set_other}
use Rattle.std.specs.Prelude.{IfSome}
use Rattle.std.proofs.lemmas.List.{length_push}
use Rattle.std.proofs.lemmas.Option.{slice_get_read, same_Some}
use Rattle.map_waves.specs.Prepared.{IsReady}
use Rattle.map_waves.specs.Placing.{IsPlaced, slot_of}
use Rattle.map_waves.specs.declared.keeping.Kept.{Kept}
use Rattle.map_waves.specs.declared.keeping.Made.{Made}
use Rattle.map_waves.specs.declared.plans.Step.{Step}
use Rattle.map_waves.proofs.Phasing.{each_pushed}
use Rattle.map_waves.proofs.SetPlaces.{read_same}
use Rattle.map_waves.proofs.placing.place_all.Goals as goal

slot_same : {B : Type 0} (a b : List (Option (Kept B))) (k : Option ℕ) → ((i : ℕ) → k ≡ Some i → get_or a i None ≡ get_or b i None) → slot_of a k ≡ slot_of b k
slot_same a b None same = refl
slot_same a b (Some i) same = same i refl

some_within : (o : Option ℕ) (n : ℕ) → ((i : ℕ) → o ≡ Some i → i < n) → IfSome o (λ i. i < n)
some_within None n within = tt
some_within (Some i) n within = within i refl

pub taken-kept-requires : goal.taken-kept-requires
taken-kept-requires g c =
    let k = c.loop-k.k in
    let x = c.index-steps-k.result in
    let there : slice_get c.args.steps.now k ≡ Some x = slice_get_read c.args.steps.now (length c.args.steps.now) k x refl c.loop-k-test.true c.index-steps-k.is in
    some_within (get_or c.args.steps.now k x).kept (length c.loop-k.slots) (λ i e.
    let low = c.requires.slots k i x there (ap (λ (y : Step _). y.kept) c.index-steps-k.is ∙ e) in
    omega (arith, low, c.loop-k.auto.slots))

pub place-now-requires : goal.place-now-requires
place-now-requires g c =
    let k = c.loop-k.k in
    let x = c.index-steps-k.result in
    let all = c.requires.all in
    let there : slice_get c.args.steps.now k ≡ Some x = slice_get_read c.args.steps.now (length c.args.steps.now) k x refl c.loop-k-test.true c.index-steps-k.is in
    let r : slice_get c.args.prepared.now k ≡ Some c.take.result = read_same c.loop-k.prepared c.args.prepared.now k c.index-prepared-k.result c.take.result None c.index-prepared-k.is (c.take.ensures.value ∙ sym c.index-prepared-k.is) (omega arith) (omega arith) (c.loop-k.invariant.prepared k (omega arith)) in
    let slot : c.taken-kept.result ≡ slot_of c.args.slots.now x.kept = c.taken-kept.ensures.kept ∙ ap (λ (y : Step _). slot_of c.loop-k.slots y.kept) (sym c.index-steps-k.is) ∙ slot_same c.loop-k.slots c.args.slots.now x.kept (λ i e. c.loop-k.invariant.slots k i x (omega arith) there e) in
    subst (λ o. IsReady c.args.extent o c.take.result) (sym slot) (c.requires.ready k x c.take.result there r)

pub loop-k-preserved : goal.loop-k-preserved
loop-k-preserved g c =
    let k = c.loop-k.k in
    let x = c.index-steps-k.result in
    let all = c.requires.all in
    let there : slice_get c.args.steps.now k ≡ Some x = slice_get_read c.args.steps.now (length c.args.steps.now) k x refl c.loop-k-test.true c.index-steps-k.is in
    let r : slice_get c.args.prepared.now k ≡ Some c.take.result = read_same c.loop-k.prepared c.args.prepared.now k c.index-prepared-k.result c.take.result None c.index-prepared-k.is (c.take.ensures.value ∙ sym c.index-prepared-k.is) (omega arith) (omega arith) (c.loop-k.invariant.prepared k (omega arith)) in
    let slot : c.taken-kept.result ≡ slot_of c.args.slots.now x.kept = c.taken-kept.ensures.kept ∙ ap (λ (y : Step _). slot_of c.loop-k.slots y.kept) (sym c.index-steps-k.is) ∙ slot_same c.loop-k.slots c.args.slots.now x.kept (λ i e. c.loop-k.invariant.slots k i x (omega arith) there e) in
    let items : c.put_next.new.next.items ≡ c.loop-k.next.items ++ c.place-now.result ∷ [] = c.put_next.ensures.items in
    let placed : IsPlaced c.args.extent (slot_of c.args.slots.now x.kept) c.take.result c.args.stamp c.place-now.result =
    subst (λ o. IsPlaced c.args.extent o c.take.result c.args.stamp c.place-now.result) slot c.place-now.ensures in
    record {
      count = let so_far = c.loop-k.invariant.count in let pushed = ap (λ (ls : List (Kept _)). length ls) items ∙ length_push c.loop-k.next.items c.place-now.result in omega arith;
      room = let so_far = c.loop-k.invariant.room in let more = c.put_next.ensures.room in omega arith;
      placed = λ j l y q e f h.
          each_pushed (λ (j : ℕ) (l : Kept _). (y : Step _) (q : Option (Made _)) → slice_get c.args.steps.now j ≡ Some y → slice_get c.args.prepared.now j ≡ Some q
          → IsPlaced c.args.extent (slot_of c.args.slots.now y.kept) q c.args.stamp l)
          c.loop-k.next.items c.place-now.result k c.loop-k.invariant.count (λ j l e y q f h. c.loop-k.invariant.placed j l y q e f h)
          (λ y q f h.
          let same : x ≡ y = same_Some x y (sym there ∙ f) in
          let alike : c.take.result ≡ q = same_Some c.take.result q (sym r ∙ h) in
          subst (λ q. IsPlaced c.args.extent (slot_of c.args.slots.now y.kept) q c.args.stamp c.place-now.result) alike
          (subst (λ (y : Step _). IsPlaced c.args.extent (slot_of c.args.slots.now y.kept) c.take.result c.args.stamp c.place-now.result) same placed))
          j l (ap (λ ls. slice_get ls j) (sym items) ∙ e) y q f h;
      slots = λ j i y h e f.
          let apart : x.kept ≢ Some i = λ own. let same : k ≡ j = c.requires.own k j i x y there e own f in absurd (omega arith) in
          c.taken-kept.ensures.left i (λ own. apart (ap (λ (y : Step _). y.kept) c.index-steps-k.is ∙ own)) ∙ c.loop-k.invariant.slots j i y (omega arith) e f;
      prepared = λ j h. let apart : j ≢ k = omega arith in get_or-set_other c.loop-k.prepared k j _ None apart ∙ c.loop-k.invariant.prepared j (omega arith);
    }
