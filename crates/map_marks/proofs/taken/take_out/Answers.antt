use Rattle.std.proofs.Common.{◌≡◌, ◌+◌, ◌-◌, ◌<◌, ◌≤◌, ◌∙◌, ap, sym, subst, not, map, length, filter, Bool, false, vec_len, vec_capacity, ℤ, to_z, of_z, List, arith}
use Rattle.std.proofs.lemmas.Int.{to_z-of_z}
use Rattle.std.proofs.lemmas.List.{length-map}
use Rattle.map_nums.specs.Widths.{value_width}
use Rattle.map_edits.specs.Marks.{Mark as Kept, is_mark}
use Rattle.map_marks.specs.Views.{mark_of}
use Rattle.map_marks.specs.declared.mark.Mark.{Mark}
use Rattle.map_marks.specs.declared.taken.Taken.{Taken}
use Rattle.map_marks.proofs.Taking.{IsTakenTo, mark_goes, room_for_one}
use Rattle.map_marks.proofs.taken.take_out.Goals as goal

pub push_reserved-requires : goal.push_reserved-requires
push_reserved-requires c =
    let marks = c.args.marks.now in
    let other = λ (z : ℤ) (m : Kept). not (is_mark c.args.name.now z m) in
    let z = to_z value_width (of_z value_width c.args.value) in
    let i = c.loop-place.place - 1 in
    let within : i < length c.loop-place.marks.items = omega arith in
    let one = room_for_one (other z) (map mark_of marks.items) c.loop-place.marks.items c.loop-place.taken.items i c.loop-place.place c.index.result.now (omega arith) within c.index.ensures c.loop-place.invariant.so_far (ap not (sym c.is.ensures ∙ c.if-is.true)) in
    let room : vec_len marks ≤ vec_capacity c.args.taken.now + length (filter (other z) (map mark_of marks.items)) = subst (λ (y : ℤ). vec_len marks ≤ vec_capacity c.args.taken.now + length (filter (other y) (map mark_of marks.items))) (sym (to_z-of_z value_width c.args.value c.ranges.value)) c.requires.room in
    omega (arith, one, room, length-map marks.items mark_of)

pub loop-place-preserved-then-is : goal.loop-place-preserved-then-is
loop-place-preserved-then-is c =
    let p = λ (m : Kept). not (is_mark c.args.name.now (to_z value_width (of_z value_width c.args.value)) m) in
    let old = map mark_of c.args.marks.now.items in
    let i = c.loop-place.place - 1 in
    let within : i < length c.loop-place.marks.items = omega arith in
    let gone = mark_goes p old c.loop-place.marks.items c.loop-place.taken.items i c.loop-place.place c.index.result.now (omega arith) within c.index.ensures c.loop-place.invariant.so_far c.remove-mark.result c.remove-mark.ensures.value (ap not (sym c.is.ensures ∙ c.if-is.true)) in
    record {
      so_far = rw (c.remove-mark.ensures.items, c.push_reserved.ensures.items) gone;
      within = omega arith;
      len = omega arith;
      marks = c.remove-mark.ensures.capacity ∙ c.loop-place.invariant.marks;
      taken = c.push_reserved.ensures.capacity ∙ c.loop-place.invariant.taken;
    }
