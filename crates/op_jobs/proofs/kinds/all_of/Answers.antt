use Rattle.std.proofs.Common.{◌≡◌, [], ◌∷◌, ◌++◌, length, length-append, Some, slice_get, sym, ◌∙◌, ap, append_assoc, arith}
use Rattle.std.proofs.lemmas.List.{length_push}
use Rattle.std.specs.Vec.Iter.{into_iter_items}
use Rattle.map_waves.proofs.Phasing.{each_pushed}
use Rattle.op_jobs.proofs.After.{first_after}
use Rattle.op_jobs.proofs.kinds.all_of.Goals as goal

pub loop-part-init : goal.loop-part-init
loop-part-init g c = record {
  every = c.into_iter-part-iterator.ensures.into_iter_gives.0;
  left = let gone = c.into_iter-part-iterator.ensures.into_iter_gives.1 in let all = ap length c.into_iter-part-iterator.ensures.into_iter_gives.0 in omega arith;
  count = ap length c.in_ok-all.ensures.items;
  each = λ k b e. absurd (let none = ap (λ xs. slice_get xs k) c.in_ok-all.ensures.items in cc);
}

pub loop-part-preserved-in-Continue-branch-2 : goal.loop-part-preserved-in-Continue-branch-2
loop-part-preserved-in-Continue-branch-2 g c =
    let now = c.loop-part in
    let part = c.in-Some.part in
    let steps : into_iter_items now.part-iterator ≡ part ∷ into_iter_items c.next.new.self = c.in-Some.ensures.steps.0 in
    let every : now.yielded ++ part ∷ into_iter_items c.next.new.self ≡ c.args.parts.items = rw (← steps) now.invariant.every in
    let items = c.in_ok-push.ensures.items in
    record {
      every = append_assoc now.yielded (part ∷ []) _ ∙ every;
      left = let gone = c.in-Some.ensures.steps.1 in let short = ap length steps in let was = now.invariant.left in omega arith;
      count = let so_far = now.invariant.count in let pushed = ap length items ∙ length_push now.all.items c.in-Some-of.held in let more = length_push now.yielded part in omega arith;
      each = λ k b e. each_pushed (λ j d. slice_get c.args.parts.items j ≡ Some (g.K.Kind.part d)) now.all.items c.in-Some-of.held (length now.yielded) now.invariant.count now.invariant.each (first_after now.yielded part _ _ every ∙ ap Some c.in-Some-of.ensures.some) k b (ap (λ xs. slice_get xs k) (sym items) ∙ e);
    }

pub loop-part-preserved : goal.loop-part-preserved
loop-part-preserved g c =
    let now = c.loop-part in
    let part = c.in-Some.part in
    let steps : into_iter_items now.part-iterator ≡ part ∷ into_iter_items c.next.new.self = c.in-Some.ensures.steps.0 in
    let every : now.yielded ++ part ∷ into_iter_items c.next.new.self ≡ c.args.parts.items = rw (← steps) now.invariant.every in
    let kind = c.requires (length now.yielded) part (first_after now.yielded part _ _ every) in
    absurd (c.in_default.not-Some kind.0 (c.of.ensures.this kind.0 kind.1))

pub returns-clause-count : goal.returns-clause-count
returns-clause-count g c =
    let left = c.loop-part.invariant.left in
    let none = c.in-None.ensures.steps.0 in
    let sum = length-append c.loop-part.yielded (into_iter_items c.loop-part.part-iterator) in
    let every = ap length c.loop-part.invariant.every in
    omega (arith, left, none, sum, every, c.loop-part.invariant.count)

pub returns-clause-each : goal.returns-clause-each
returns-clause-each g c = c.loop-part.invariant.each
