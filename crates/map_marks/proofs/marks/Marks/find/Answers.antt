use Rattle.std.proofs.Common.{◌≡◌, ◌∙◌, sym, ap, map, ℤ, List, FitsSigned, rules}
use Rattle.std.proofs.lemmas.Int.{to_z-of_z}
use Rattle.map_nums.specs.Widths.{value_width}
use Rattle.map_edits.specs.Marks.{Mark as Kept, find_mark}
use Rattle.map_marks.specs.Views.{mark_of}
use Rattle.map_marks.proofs.Searching.{found_later, found_here, found_none}
use Rattle.map_marks.proofs.marks.Marks.find.Goals as goal

pub loop-mark-preserved : goal.loop-mark-preserved
loop-mark-preserved c =
    found_later c.deref-mark-items.result.now c.args.name.now _ c.loop-mark.mark-index c.mark-item.result _ c.loop-mark-test.true c.mark-item.is (sym c.is.ensures ∙ c.if-is.false) c.loop-mark.invariant

pub returns-then-is : goal.returns-then-is
returns-then-is c =
    let marks = c.deref-mark-items.result.now in
    let n = c.args.name.now in
    let fits : FitsSigned value_width c.args.value = search rules in
    found_here marks n _ c.loop-mark.mark-index c.mark-item.result _ c.loop-mark-test.true c.mark-item.is (sym c.is.ensures ∙ c.if-is.true) c.loop-mark.invariant
    ∙ ap (λ (z : ℤ). find_mark (map mark_of marks) n z) (to_z-of_z value_width c.args.value fits)
    ∙ ap (λ (l : List Kept). find_mark l n c.args.value) (ap (map mark_of) c.deref-mark-items.ensures.value ∙ c.self.view_is)

pub returns : goal.returns
returns c =
    let marks = c.deref-mark-items.result.now in
    let n = c.args.name.now in
    let fits : FitsSigned value_width c.args.value = search rules in
    found_none marks n _ c.loop-mark.mark-index _ c.loop-mark-test.false c.loop-mark.invariant
    ∙ ap (λ (z : ℤ). find_mark (map mark_of marks) n z) (to_z-of_z value_width c.args.value fits)
    ∙ ap (λ (l : List Kept). find_mark l n c.args.value) (ap (map mark_of) c.deref-mark-items.ensures.value ∙ c.self.view_is)
