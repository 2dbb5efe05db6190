use Rattle.std.proofs.Common.{◌≡◌, [], ◌∷◌, ◌++◌, length, drop, Some, Ok, slice_get, is_ok, sym, ap, ◌∙◌, arith}
use Rattle.std.proofs.lemmas.Bool.{true≢false}
use Rattle.std.proofs.lemmas.List.{length_push}
use Rattle.std.specs.Vec.Iter.{into_iter_items}
use Rattle.map_waves.proofs.Phasing.{each_pushed}
use Rattle.map_waves.proofs.Rowing.{left_first, get_take}
use Rattle.map_waves.proofs.finish.take_pieces.Goals as goal

pub unreachable-requires-in_default-one : goal.unreachable-requires-in_default-one
unreachable-requires-in_default-one g c =
    let rs = into_iter_items c.args.answers.now in
    let head : drop c.loop-place._place rs ≡ c.in-Some.one ∷ into_iter_items c.next.new.self = sym c.loop-place.invariant.rest ∙ c.in-Some.ensures.items in
    let first = left_first c.loop-place._place rs (into_iter_items c.next.new.self) c.in-Some.one head in
    true≢false (sym (c.requires.ok c.loop-place._place c.in-Some.one (get_take c.args.count rs c.loop-place._place c.in-Some.one (omega arith) first.0)) ∙ ap is_ok c.in_default-one.is)

pub loop-place-preserved : goal.loop-place-preserved
loop-place-preserved g c =
    let k = c.loop-place._place in
    let rs = into_iter_items c.args.answers.now in
    let head : drop k rs ≡ c.in-Some.one ∷ into_iter_items c.next.new.self = sym c.loop-place.invariant.rest ∙ c.in-Some.ensures.items in
    let first = left_first k rs (into_iter_items c.next.new.self) c.in-Some.one head in
    let items : c.push.new.self.items ≡ c.loop-place.pieces.items ++ c.in-Ok.piece ∷ [] = c.in_ok-push.ensures.items in
    record {
      rest = sym first.1;
      left = let one_less = c.in-Some.ensures.cases.1 in let so_far = c.loop-place.invariant.left in omega arith;
      count = let so_far = c.loop-place.invariant.count in let pushed = ap length items ∙ length_push c.loop-place.pieces.items c.in-Ok.piece in omega arith;
      each = λ j p e. each_pushed (λ j p. slice_get rs j ≡ Some (Ok p)) c.loop-place.pieces.items c.in-Ok.piece k c.loop-place.invariant.count c.loop-place.invariant.each (first.0 ∙ ap (λ z. Some z) c.in-Ok.is) j p
          (ap (λ xs. slice_get xs j) (sym items) ∙ e);
    }
